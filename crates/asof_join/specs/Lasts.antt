-- The last keys of both sides of a join as numbers.
use Rattle.std.specs.Prelude.{◌≡◌, ◌<◌, ℕ, ℤ, pos, List, length, slice_index_or}
use Rattle.std.specs.Ordering.{int_cmp}
use Rattle.q_values.specs.Order.{Key, Number, Text, atom_key, atom_cmp}
use Rattle.q_values.specs.declared.atom.Atom.{Atom}
use Rattle.day_rows.specs.Rows.{absent}
use Rattle.asof_join.specs.declared.lasts.Numbers.{Numbers}
use Rattle.asof_join.specs.declared.lasts.Numbers.TheVariants.{Lent, Made}

abbrev pub number_in : Key → ℤ
number_in (Number x) = x
number_in (Text t) = pos 0

-- the number that an atom is ordered by; 0 for a symbol
abbrev pub number_of : Atom → ℤ
number_of x = number_in (atom_key x)

abbrev pub numbers_in : Numbers → List ℤ
numbers_in (Lent xs) = xs.now
numbers_in (Made xs) = xs.items

-- numbers for these atoms, which compare as they do, also those of one side with those of the other
pub record AreNumbers (left right : List Atom) (of_left of_right : List ℤ) : Type 0 where
  pub left_size : length of_left ≡ length left
  pub right_size : length of_right ≡ length right
  pub across : (i j : ℕ) → i < length left → j < length right
      → int_cmp (slice_index_or of_right j (pos 0)) (slice_index_or of_left i (pos 0))
      ≡ atom_cmp (slice_index_or right j absent) (slice_index_or left i absent)
  pub within : (i j : ℕ) → i < length right → j < length right
      → int_cmp (slice_index_or of_right i (pos 0)) (slice_index_or of_right j (pos 0))
      ≡ atom_cmp (slice_index_or right i absent) (slice_index_or right j absent)
