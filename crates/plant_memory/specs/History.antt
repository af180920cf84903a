-- The dates of a plant, in order, and the chronicle that they hold.
use Rattle.std.specs.Prelude.{◌≡◌, ◌<◌, ◌+◌, ◌^◌, ◌≤ℤ◌, ℕ, ℤ, pos, negsuc, List, [], ◌∷◌, ◌++◌, length, Bool, Some, slice_get}
use Rattle.std.specs.Ordering.{int_cmp}
use Rattle.std.specs.declared.cmp.Ordering.TheVariants.{Less}
use Rattle.q_values.specs.declared.kind.Kind.{Kind}
use Rattle.day_rows.specs.Day.{Day, Opened, IsDay, IsUpdate, total_rows}
use Rattle.day_rows.specs.declared.entry.Entry.{Entry}
use Rattle.day_rows.specs.declared.entry.Entry.TheVariants as e
use Rattle.plant_memory.specs.Chronicle.{index_after_roll, top_by}
use Rattle.plant_memory.specs.Faults.{FaultsView, woven, covered}
use Rattle.plant_memory.specs.declared.faults.Mark.{Mark}

-- a date that has ended, its faults, the pass that ended it, and the date that was opened then
pub record Past : Type 0 where
  pub day : Day
  pub marks : List Mark
  pub by : ℕ
  pub next : ℤ

-- the entries of a date that has ended: its updates and faults, and its roll
abbrev pub entries_of : Past → List Entry
entries_of past = woven past.marks past.day.updates ++ e.Roll past.by past.next ∷ []

-- the updates and faults of the ended dates, each date followed by its roll, and those of the open one
abbrev pub chronicle_of : List Past → List Entry → List Entry
chronicle_of [] current = current
chronicle_of (past ∷ pasts) current = woven past.marks past.day.updates ++ e.Roll past.by past.next ∷ chronicle_of pasts current

-- what the dates stand for: the first date, the kinds of each table's columns, the chronicle, the update that room was made
-- for, and whether there is room for a fault
pub record HistoryView : Type 0 where
  pub first : ℤ
  pub kinds : List (List Kind)
  pub entries : List Entry
  pub room : List Entry
  pub spare : Bool

abbrev pub history_of : ℤ → List Past → Opened → FaultsView → HistoryView
history_of first pasts opened faults = record {
  first = first;
  kinds = opened.day.kinds;
  entries = chronicle_of pasts (woven faults.marks opened.day.updates);
  room = opened.room;
  spare = faults.spare;
}

-- each date is the one that was opened, of the same tables, and each roll opens a later one
abbrev pub Follow : List (List Kind) → ℤ → List Past → Day → Type 0
Follow kinds date [] current = (current.date ≡ date) × (current.kinds ≡ kinds) × IsDay current
Follow kinds date (past ∷ pasts) current =
    (past.day.date ≡ date) × (past.day.kinds ≡ kinds) × IsDay past.day × (int_cmp date past.next ≡ Less) × Follow kinds past.next pasts current

-- the dates follow each other, the open one has a calendar date, and the counts are those of the chronicle
pub record IsHistory (first : ℤ) (pasts : List Past) (current : Day) (marks : List Mark) (since count opened_at rows top : ℕ) : Type 0 where
  pub follow : Follow current.kinds first pasts current
  pub early : negsuc 106751 ≤ℤ current.date
  pub late : current.date ≤ℤ pos 106751
  pub since_is : covered marks + since ≡ length current.updates
  pub count_is : count ≡ length (chronicle_of pasts (woven marks current.updates))
  pub opened_is : opened_at ≡ index_after_roll (chronicle_of pasts (woven marks current.updates))
  pub rows_is : rows ≡ total_rows current.updates
  pub top_is : top ≡ top_by (chronicle_of pasts (woven marks current.updates))
  pub few : top + 1 < 2 ^ 64

-- an update is of one of the tables whose columns have these kinds
abbrev pub IsOfTables : List (List Kind) → Entry → Type 0
IsOfTables tables (e.Upd by table columns) = IsUpdate tables (e.Upd by table columns)
IsOfTables tables (e.Roll by date) = Unit {0}
IsOfTables tables (e.Fault by) = Unit {0}

-- a table has a column with this index, of this kind
pub record IsColumn (tables : List (List Kind)) (table column : ℕ) (kind : Kind) : Type 0 where
  pub kinds : List Kind
  pub table_is : slice_get tables table ≡ Some kinds
  pub column_is : slice_get kinds column ≡ Some kind
