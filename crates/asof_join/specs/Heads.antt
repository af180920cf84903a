-- The keys but the last of both sides of a join as numbers.
use Rattle.std.specs.Prelude.{◌≡◌, ◌<◌, ℕ, ◌+◌, nat_eq, List, [], ◌++◌, length, slice_index, slice_index_or, IsSome, All}
use Rattle.q_values.specs.Contents.{Contents}
use Rattle.q_values.specs.Table.{rows_of}
use Rattle.q_values.specs.Tree.{Grid}
use Rattle.q_values.specs.declared.atom.Atom.{Atom}
use Rattle.q_keys.specs.Keys.{same_key}
use Rattle.qsql_values.specs.Beside.{beside}
use Rattle.asof_join.specs.Asof.{column_named}
use Rattle.asof_join.specs.declared.heads.Heads.{Heads}
use Rattle.asof_join.specs.declared.heads.Heads.TheVariants.{Grouped, Alone}

-- a column of both tables, of one kind and with an item for each row
pub record IsKey (left right : Grid) (name : List ℕ) : Type 0 where
  pub in_left : IsSome (beside name left.names left.columns)
  pub in_right : IsSome (beside name right.names right.columns)
  pub kind : (column_named right name).kind ≡ (column_named left name).kind
  pub left_size : length (column_named left name).atoms ≡ rows_of left.columns
  pub right_size : length (column_named right name).atoms ≡ rows_of right.columns

-- the items of both columns with this name
abbrev pub both_atoms : Grid → Grid → List ℕ → List Atom
both_atoms left right name = (column_named left name).atoms ++ (column_named right name).atoms

abbrev pub codes_of : Heads → List ℕ
codes_of (Grouped groups) = groups.codes
codes_of (Alone codes) = codes.items

abbrev pub groups_of : Heads → ℕ
groups_of (Grouped groups) = length groups.firsts
groups_of (Alone codes) = 1

-- numbers for these keys, the same where a key of the right side is equal to one of the left side
pub record AreHeads (left right : List (List Atom)) (codes : List ℕ) (groups : ℕ) : Type 0 where
  pub size : length codes ≡ length left + length right
  pub within : All (λ c. c < groups) codes
  pub same : (i j : ℕ) → i < length left → j < length right
      → nat_eq (slice_index codes (length left + j)) (slice_index codes i) ≡ same_key (slice_index_or right j []) (slice_index_or left i [])
