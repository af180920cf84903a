-- Values of whole lists.
use Rattle.std.proofs.Common.{◌≡◌, ℕ, ℤ, pos, zero, suc, ◌+◌, ◌<◌, ◌%◌, List, [], ◌∷◌, length, Some, slice_get, ap, arith, to_z}
use Rattle.std.specs.Int.{w64, int_wrap}
use Rattle.std.proofs.lemmas.Int.{int_wrap_fits, SFits-int_wrap}
use Rattle.q_values.specs.declared.atom.Atom.{Atom}
use Rattle.q_values.specs.declared.atom.Atom.TheVariants as a
use Rattle.q_values.specs.declared.kind.Kind.{Kind}
use Rattle.q_values.specs.declared.kind.Storage.{Storage}
use Rattle.q_values.specs.declared.kind.Storage.TheVariants as st
use Rattle.q_values.specs.Column.{integer_atom, long_atom}
use Rattle.q_values.specs.Kind.{storage_of}
use Rattle.q_verbs.specs.Numbers.{written, stored_number}
use Rattle.q_verbs.specs.Aggregates.{last_of}
use Rattle.q_lanes.proofs.WrapLemmas.{int_wrap-16, int_wrap-32}

pub count_wraps : (n : ℕ) → n < 18446744073709551616 → to_z w64 n ≡ int_wrap w64 (pos n)
unfolding int_wrap
count_wraps n h = let e : n ≡ n % 18446744073709551616 = omega arith in ap (to_z w64) e

pub last_at : (xs : List Atom) (i : ℕ) (x : Atom) → i + 1 ≡ length xs → slice_get xs i ≡ Some x → last_of xs ≡ Some x
last_at [] i x h e = absurd (omega arith)
last_at (y ∷ []) zero x h e = e
last_at (y ∷ []) (suc i) x h e = absurd (omega arith)
last_at (y ∷ z ∷ xs) zero x h e = absurd (omega arith)
last_at (y ∷ z ∷ xs) (suc i) x h e = last_at (z ∷ xs) i x (omega arith) e

wrapped_twice : (z : ℤ) → int_wrap w64 (int_wrap w64 z) ≡ int_wrap w64 z
wrapped_twice z = int_wrap_fits w64 (int_wrap w64 z) (SFits-int_wrap w64 z)

-- a number that was wrapped to 64 bits, of what is stored so
stored_number-wrapped : (storage : Storage) (z : ℤ) → stored_number storage (Some (int_wrap w64 z)) ≡ stored_number storage (Some z)
stored_number-wrapped st.Boolean z = ap (λ n. a.Long n) (wrapped_twice z)
stored_number-wrapped (st.Byte kind) z = ap (λ n. a.Long n) (wrapped_twice z)
stored_number-wrapped st.Short z = ap (λ n. a.Short n) (int_wrap-16 z)
stored_number-wrapped (st.Integer kind) z = ap (integer_atom kind) (int_wrap-32 z)
stored_number-wrapped (st.Long kind) z = ap (long_atom kind) (wrapped_twice z)
stored_number-wrapped st.Symbol z = ap (λ n. a.Long n) (wrapped_twice z)

-- the same in a kind
pub written-wrapped : (kind : Kind) (z : ℤ) → written kind (Some (int_wrap w64 z)) ≡ written kind (Some z)
written-wrapped kind z = stored_number-wrapped (storage_of kind) z
