-- What is told of one entry after the other.
use Rattle.std.specs.Prelude.{◌≡◌, ◌<◌, ◌==◌, ◌⊎◌, ℕ, ℤ, if◌then◌else◌, Option, Some, None, List, [], ◌∷◌, length, take, drop, filter, slice_get}
use Rattle.std.specs.List.{AllByRecursion, flat_map, range_with_len}
use Rattle.q_values.specs.Contents.{Contents}
use Rattle.day_rows.specs.Chronicle.{KeepsDate}
use Rattle.day_rows.specs.Day.{AreColumns}
use Rattle.day_rows.specs.Rows.{lines_of}
use Rattle.day_rows.specs.declared.entry.Entry.{Entry}
use Rattle.day_rows.specs.declared.entry.Entry.TheVariants as e
use Rattle.day_rows.specs.declared.schema.Shape.{Shape}
use Rattle.pubsub.specs.Filters.{Subscribed}
use Rattle.pubsub.specs.Parts.{part_lines, IsPart}
use Rattle.pubsub.specs.Told.{Publication, passes, rows_told, end_told, lines_in, updates_today}
use Rattle.pubsub.specs.declared.filter.Filter.{Filter}
use Rattle.pubsub.specs.declared.parts.Part.{Part}

-- the columns are those of an update of the table with this index
abbrev pub AreOfTable : List Shape → ℕ → List Contents → Type 0
AreOfTable schema table columns = (shape : Shape) × (slice_get schema table ≡ Some shape) × AreColumns shape.kinds columns

-- what is told of one entry by itself
abbrev pub told_one : Subscribed → ℤ → Entry → List Publication
told_one subscribed date (e.Upd by table columns) = rows_told subscribed table (lines_of columns)
told_one subscribed date (e.Roll by next) = end_told subscribed date
told_one subscribed date (e.Fault by) = []

-- the date that is open after an entry
abbrev pub date_after : ℤ → Entry → ℤ
date_after date (e.Upd by table columns) = date
date_after date (e.Roll by next) = next
date_after date (e.Fault by) = date

-- the columns of an update of this table
abbrev pub columns_in : ℕ → Entry → Option (List Contents)
columns_in table (e.Upd by to columns) = if to == table then Some columns else None
columns_in table (e.Roll by next) = None
columns_in table (e.Fault by) = None

-- of the rows that an entry has for a table, those that pass a filter
abbrev pub IsPassedIn : Filter → List Shape → ℕ → Entry → Option Part → Type 0
IsPassedIn chosen schema table entry None = filter (passes chosen) (lines_in table entry) ≡ []
IsPassedIn chosen schema table entry (Some part) =
    (part_lines part ≡ filter (passes chosen) (lines_in table entry)) × (0 < length (part_lines part))
    × (shape : Shape) × (slice_get schema table ≡ Some shape) × IsPart shape.kinds part

-- what is told of the rows that a batch has for a table
unfoldable pub table_told : Subscribed → List Entry → ℕ → List Publication
table_told subscribed batch table = rows_told subscribed table (flat_map (lines_in table) batch)

-- what is told of a batch for the first n tables, in the schema's order
unfoldable pub tables_told : Subscribed → List Entry → ℕ → List Publication
tables_told subscribed batch n = flat_map (table_told subscribed batch) (range_with_len 0 n)

abbrev pub IsRoll : Entry → Type 0
IsRoll (e.Upd by table columns) = ⊥
IsRoll (e.Roll by next) = Unit {0}
IsRoll (e.Fault by) = ⊥

-- there are entries, and the first is no roll
abbrev pub BeginsWithin : List Entry → Type 0
BeginsWithin [] = ⊥
BeginsWithin (entry ∷ entries) = KeepsDate entry

-- the first n entries are a batch: of one date, with 16 updates, or with fewer and no more before a roll or the end
pub record IsBatch (entries : List Entry) (n : ℕ) : Type 0 where
  pub quiet : AllByRecursion KeepsDate (take n entries)
  pub full : (length (updates_today (take n entries)) ≡ 16) ⊎ ((length (updates_today (take n entries)) < 16) × (updates_today (drop n entries) ≡ []))
