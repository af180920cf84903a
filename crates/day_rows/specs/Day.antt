-- One date's updates.
use Rattle.std.specs.Prelude.{◌≡◌, ℕ, ℤ, ◌+◌, ◌≤◌, List, [], ◌∷◌, length, map, All, Some, slice_get, take, IsPermutation}
use Rattle.std.specs.List.{sum_by, AllByRecursion}
use Rattle.q_values.specs.Contents.{Contents}
use Rattle.q_values.specs.Table.{rows_of}
use Rattle.q_values.specs.declared.kind.Kind.{Kind}
use Rattle.q_values.specs.declared.kind.Kind.TheVariants as k
use Rattle.day_rows.specs.Rows.{Row, rows}
use Rattle.std.specs.declared.cmp.Ordering.TheVariants.{Less}
use Rattle.day_rows.specs.Chronicle.{ended_cmp, KeepsDate}
use Rattle.day_rows.specs.Sorted.{in_order, IsAscending}
use Rattle.day_rows.specs.declared.entry.Entry.{Entry}
use Rattle.day_rows.specs.declared.entry.Entry.TheVariants as e

-- a date, the kinds of the columns of each table, and the updates of the date, in order
pub record Day : Type 0 where
  pub date : ℤ
  pub kinds : List (List Kind)
  pub updates : List Entry

-- an open day, and the entries that room was made for
pub record Opened : Type 0 where
  pub day : Day
  pub room : List Entry

abbrev pub opened_of : ℤ → List (List Kind) → List Entry → List Entry → Opened
opened_of date kinds updates room = record { day = record { date = date; kinds = kinds; updates = updates }; room = room }

-- the columns are those of a table's update: of the table's kinds, and all of one length
pub record AreColumns (kinds : List Kind) (columns : List Contents) : Type 0 where
  pub of_kinds : map (λ c. c.kind) columns ≡ kinds
  pub equal_lengths : All (λ c. length c.atoms ≡ rows_of columns) columns

-- an update of one of the tables whose columns have these kinds
abbrev pub IsUpdate : List (List Kind) → Entry → Type 0
IsUpdate tables (e.Upd by table columns) = (kinds : List Kind) × (slice_get tables table ≡ Some kinds) × AreColumns kinds columns
IsUpdate tables (e.Roll by date) = ⊥
IsUpdate tables (e.Fault by) = ⊥

-- the number of rows of an entry
abbrev pub entry_rows : Entry → ℕ
entry_rows (e.Upd by table columns) = rows_of columns
entry_rows (e.Roll by date) = 0
entry_rows (e.Fault by) = 0

-- the number of rows of all tables
abbrev pub total_rows : List Entry → ℕ
total_rows = sum_by entry_rows

-- the rows of a table of the day by arrival: the order while the day is open
abbrev pub arrived : Day → ℕ → List Row
arrived day = rows day.date day.updates

-- the rows of a table of the day by symbol and arrival: the order once the day has ended
abbrev pub settled : Day → ℕ → List Row
settled day table = in_order ended_cmp (arrived day table)

-- the kinds of a table's columns: first those of `time` and `sym`, and at most 48
pub record AreTableKinds (kinds : List Kind) : Type 0 where
  pub begin : take 2 kinds ≡ k.Timespan ∷ k.Symbol ∷ []
  pub few : length kinds ≤ 48

-- the table has a column with this index, of this kind
abbrev pub HasColumn : Day → ℕ → ℕ → Kind → Type 0
HasColumn day table column kind = (kinds : List Kind) × (slice_get day.kinds table ≡ Some kinds) × (slice_get kinds column ≡ Some kind)

-- the updates are of the day's tables, whose columns begin with `time` and `sym`, and the number of rows fits 32 bits
pub record IsDay (day : Day) : Type 0 where
  pub few : length day.kinds ≤ 64
  pub tables : AllByRecursion AreTableKinds day.kinds
  pub updates : AllByRecursion (IsUpdate day.kinds) day.updates
  pub bounded : total_rows day.updates ≤ 4294967295

-- the entries that room was made for are updates of the day's tables, and the day may have their rows too
pub record HasRoom (opened : Opened) : Type 0 where
  pub updates : AllByRecursion (IsUpdate opened.day.kinds) opened.room
  pub bounded : total_rows opened.day.updates + total_rows opened.room ≤ 4294967295

-- an ended day has the rows that the open day had, each exactly once
abbrev pub KeepsRowsAtItsEnd : Type 0
KeepsRowsAtItsEnd = (day : Day) (table : ℕ) → IsPermutation (arrived day table) (settled day table)

-- the rows of an ended day ascend by symbol and then by arrival, and no two of them tie
abbrev pub AscendsAtItsEnd : Type 0
AscendsAtItsEnd = (day : Day) (table : ℕ) → AllByRecursion KeepsDate day.updates → IsAscending (λ a b. ended_cmp a b ≡ Less) (settled day table)
