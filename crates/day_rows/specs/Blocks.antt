-- The updates of a day in blocks: the columns of consecutive updates, and a mark for each update.
use Rattle.std.specs.Prelude.{◌≡◌, ℕ, ◌+◌, ◌-◌, ◌^◌, min, ◌<◌, ◌≤◌, ◌==◌, if◌then◌else◌}
use Rattle.std.specs.Prelude.{◌++◌, List, [], ◌∷◌, length, map, take, get_or, Option, Some, None, slice_get}
use Rattle.std.specs.List.{AllByRecursion, flat_map, sum_by}
use Rattle.q_values.specs.Contents.{Contents}
use Rattle.q_values.specs.Table.{rows_of}
use Rattle.q_values.specs.declared.atom.Atom.{Atom}
use Rattle.q_values.specs.declared.kind.Kind.{Kind}
use Rattle.day_rows.specs.Day.{total_rows}
use Rattle.day_rows.specs.Filled.{filled}
use Rattle.day_rows.specs.Joined.{atoms_of, joined, rows_in}
use Rattle.day_rows.specs.declared.block.Mark.{Mark}
use Rattle.day_rows.specs.declared.entry.Entry.{Entry}
use Rattle.day_rows.specs.declared.entry.Entry.TheVariants as e

-- the mark of an update: its pass, its table and its number of rows
abbrev pub mark_of : Entry → Mark
mark_of (e.Upd by table columns) = record { by = by; table = table; rows = rows_of columns }
mark_of (e.Roll by date) = record { by = by; table = 0; rows = 0 }
mark_of (e.Fault by) = record { by = by; table = 0; rows = 0 }

abbrev pub columns_or_none : Option (List Contents) → List Contents
columns_or_none None = []
columns_or_none (Some columns) = columns

-- the atoms of a table's column, where the table and the column are there
abbrev pub atoms_at : List (List Contents) → ℕ → ℕ → List Atom
atoms_at tables table column = atoms_of (slice_get (columns_or_none (slice_get tables table)) column)

-- columns of these kinds, where `atoms` gives the atoms of each index; the first has the index `i`
abbrev pub columns_with : ℕ → List Kind → (ℕ → List Atom) → List Contents
columns_with i [] atoms = []
columns_with i (kind ∷ kinds) atoms = record { kind = kind; atoms = atoms i } ∷ columns_with (i + 1) kinds atoms

-- the columns of each table, joined from updates; the first table has the index `i`
abbrev pub tables_with : ℕ → List (List Kind) → List Entry → List (List Contents)
tables_with i [] updates = []
tables_with i (kinds ∷ tables) updates = columns_with 0 kinds (λ column. joined i column updates) ∷ tables_with (i + 1) tables updates

-- the tables, the marks and the number of rows, as far as 64 bits tell it, are those of the updates
pub record IsBlock (updates : List Entry) (tables : List (List Contents)) (marks : List Mark) (rows : ℕ) : Type 0 where
  pub columns_are : (table column : ℕ) → atoms_at tables table column ≡ joined table column updates
  pub marks_are : marks ≡ map mark_of updates
  pub rows_are : rows ≡ min (total_rows updates) (2 ^ 64 - 1)

-- a block that is sealed has at least 1,024 rows, and had fewer before its last update
pub record IsFull (updates : List Entry) : Type 0 where
  pub enough : 1024 ≤ total_rows updates
  pub only_then : total_rows (take (length updates - 1) updates) < 1024

-- as many blocks as days share as one
abbrev pub IsPiece : List (List Entry) → Type 0
IsPiece blocks = length blocks ≡ 128

-- the updates of blocks, in order, and then those of the block after them
abbrev pub updates_in : List (List Entry) → List Entry → List Entry
updates_in blocks last = flat_map (λ block. block) blocks ++ last

-- a mark's rows of a table
abbrev pub rows_marked : ℕ → Mark → ℕ
rows_marked table mark = if mark.table == table then mark.rows else 0

-- the updates of a day, those that room was made for, and the number of the day's tables
pub record Kept : Type 0 where
  pub tables : ℕ
  pub updates : List Entry
  pub room : List Entry

-- the number of the updates in these blocks, each of which is full, and after them
pub record IsStore (blocks : List (List Entry)) (last : List Entry) (held : ℕ) : Type 0 where
  pub held_is : held ≡ length (updates_in blocks last)
  pub full : AllByRecursion IsFull blocks

-- the blocks, and the updates after them, begin with what they were
pub record Grew (blocks : List (List Entry)) (last : List Entry) (more : List (List Entry)) (next : List Entry) : Type 0 where
  pub begins : take (length (updates_in blocks last)) (updates_in more next) ≡ updates_in blocks last
  pub blocks_begin : take (length blocks) more ≡ blocks
  pub grown : length blocks < length more → length last < length (get_or more (length blocks) next)

-- the first `sealed` blocks have `before` updates, all of them among the first `shown`, and the next block has more than those
pub record IsPlace (blocks : List (List Entry)) (last : List Entry) (shown sealed before : ℕ) : Type 0 where
  pub sealed_within : sealed ≤ length blocks
  pub before_is : before ≡ length (flat_map (λ block. block) (take sealed blocks))
  pub before_within : before ≤ shown
  pub next_open : sealed < length blocks → shown < before + length (get_or blocks sealed last)

-- the numbers of rows of each table, and of all, in updates, and what they have filled
pub record IsCounted (updates : List Entry) (counts : List ℕ) (rows sealed loose : ℕ) : Type 0 where
  pub counts_are : (table : ℕ) → table < length counts → get_or counts table 0 ≡ sum_by (rows_in table) updates
  pub rows_are : rows ≡ total_rows updates
  pub filled_is : filled updates ≡ record { blocks = sealed; loose = loose }

-- the first `shown` updates of the blocks are those of a day, and the `room` updates after them those that room was made
-- for; of the day's rows the `loose` last are after the first `sealed` blocks
pub record IsKept (blocks : List (List Entry)) (last : List Entry) (held shown room sealed before loose : ℕ) (counts : List ℕ) (rows : ℕ) : Type 0 where
  pub store : IsStore blocks last held
  pub all_within : shown + room ≤ held
  pub place : IsPlace blocks last shown sealed before
  pub loose_is : loose ≡ total_rows (take (shown - before) (get_or blocks sealed last))
  pub grows : 0 < room → total_rows last < 1024
  pub counted : IsCounted (take shown (updates_in blocks last)) counts rows sealed loose
