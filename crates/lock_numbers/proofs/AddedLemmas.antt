-- A list that grew by a number.
use Rattle.std.proofs.Common.{◌≡◌, ℕ, zero, suc, ◌<◌, List, [], ◌∷◌, ◌++◌, length, slice_index_or, refl, arith}
use Rattle.plant_lock.specs.Entries.{IsExtendedBy}
use Rattle.lock_numbers.specs.declared.numbers.Made.{Made}
use Rattle.lock_numbers.specs.Added.{made_by}

pub one_more : (n x : ℕ) (xs : List Made) → IsExtendedBy (λ e. e.by) n xs (xs ++ made_by n x ∷ [])
one_more n x xs = (made_by n x ∷ [], refl, λ k d lt. only k d lt)
  where
    only : (k : ℕ) (d : Made) → k < length (made_by n x ∷ []) → (slice_index_or (made_by n x ∷ []) k d).by ≡ n
    only zero d lt = refl
    only (suc k) d lt = absurd (omega arith)
