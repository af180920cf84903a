-- What a pass knows after it added a number.
use Rattle.std.specs.Prelude.{◌≡◌, ℕ, Bool, List, [], ◌∷◌, ◌++◌, cond}
use mathlib.Core.List.{IsPrefix}
use Rattle.plant_lock.specs.Told.{Told}
use Rattle.plant_lock.specs.Entries.{own}
use Rattle.lock_numbers.specs.declared.numbers.Made.{Made}

abbrev pub made_by : ℕ → ℕ → Made
made_by n x = record { by = n; number = x }

-- the entries that the pass has made: those before, and the number, where it was added
abbrev pub mine_after : Told Made → ℕ → Bool → List Made
mine_after p x added = cond added (p.mine ++ made_by p.number x ∷ []) p.mine

-- the pass is the same one and has seen no less; what it has seen has of its number exactly the entries that it made, each
-- once: those before, and the number, where it was added
pub record IsAdded (p : Told Made) (x : ℕ) (q : Told Made) (added : Bool) : Type 0 where
  pub lock : q.lock ≡ p.lock
  pub number : q.number ≡ p.number
  pub seen : IsPrefix p.seen q.seen
  pub mine : q.mine ≡ mine_after p x added
  pub own : own (λ e. e.by) p.number q.seen ≡ q.mine
