-- The rows that `[n]` leaves, as a part of a list.
use Rattle.std.specs.Prelude.{◌≡◌, ℕ, ℤ, ◌+◌, ◌≤◌, List, length, take, drop, Option}
use Rattle.q_values.specs.declared.atom.Atom.{Atom}
use Rattle.qsql_eval.specs.Meaning.{limited}

-- the items of a list of this length that `[n]` leaves are these
pub record IsSpan (first : Option ℤ) (size from count : ℕ) : Type 0 where
  pub within : from + count ≤ size
  pub value : (xs : List Atom) → length xs ≡ size → limited first xs ≡ take count (drop from xs)
