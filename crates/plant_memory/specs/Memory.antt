-- What a plant's entries in memory show, and what their calls change.
use Rattle.std.specs.Prelude.{◌≡◌, ◌<◌, ◌≤◌, ◌+◌, ◌^◌, ◌+ℤ◌, ◌<ℤ◌, ◌≤ℤ◌, ℕ, ℤ, pos, Bool, true, if◌then◌else◌, is_some}
use Rattle.std.specs.Prelude.{List, [], ◌∷◌, ◌++◌, length, map, Option, Some}
use Rattle.q_values.specs.Limits.{AreLimits}
use Rattle.q_values.specs.Tree.{Tree}
use Rattle.q_values.specs.declared.kind.Kind.{Kind}
use Rattle.q_values.specs.declared.limits.Limits.{Limits}
use Rattle.day_rows.specs.Chronicle.{date_of}
use Rattle.day_rows.specs.Day.{Opened, IsUpdate, entry_rows, total_rows, opened_of}
use Rattle.day_rows.specs.declared.entry.Entry.{Entry}
use Rattle.day_rows.specs.declared.entry.Entry.TheVariants as e
use Rattle.day_rows.specs.declared.schema.Shape.{Shape}
use Rattle.tick_log.specs.Chunk.{IsChunk}
use Rattle.plant_memory.specs.Chronicle.{by_of, today}
use Rattle.plant_memory.specs.Frame.{Frame}
use Rattle.plant_memory.specs.History.{HistoryView, IsColumn, IsOfTables}
use Rattle.plant_memory.specs.Verdict.{accepts, roll_due, verdict}

-- a memory: what no call changes, the chronicle, the update that room was made for, and whether there is room for a fault
pub record MemoryView : Type 0 where
  pub frame : Frame
  pub entries : List Entry
  pub room : List Entry
  pub spare : Bool

-- a prepared update: the memory's frame and chronicle when it was prepared, whether a roll is due before it, the pass that
-- asked for it, and its entry
pub record PreparedView : Type 0 where
  pub frame : Frame
  pub entries : List Entry
  pub rolls : Bool
  pub by : ℕ
  pub entry : Entry

-- a prepared roll: the memory's frame and chronicle when it was prepared, the pass that asked for it, and the date that it opens
pub record PreparedRollView : Type 0 where
  pub frame : Frame
  pub entries : List Entry
  pub by : ℕ
  pub date : ℤ

-- a snapshot of a memory
pub record SnapshotView : Type 0 where
  pub frame : Frame
  pub entries : List Entry

-- a tail of a memory: its entries from an index on
pub record TailView : Type 0 where
  pub frame : Frame
  pub entries : List Entry
  pub from : ℕ

-- the kinds of each table's columns
abbrev pub kinds_of : List Shape → List (List Kind)
kinds_of schema = map (λ shape. shape.kinds) schema

-- an update is of one of the schema's tables: it has columns of the kinds of that table, all of one length
abbrev pub IsOfSchema : List Shape → Entry → Type 0
IsOfSchema schema = IsOfTables (kinds_of schema)

-- the roll that is due before a prepared update
abbrev pub due : PreparedView → List Entry
due update = roll_due update.rolls update.by (date_of update.frame.first update.entries)

-- the roll that a pass adds at the end of a chronicle: to the next date
abbrev pub next_roll : ℤ → List Entry → ℕ → Entry
next_roll first entries by = e.Roll by (date_of first entries +ℤ pos 1)

-- a request's update is prepared: the verdict accepts a roll, where one is due, followed by this update
pub record Prepares (old new : MemoryView) (by : ℕ) (table : List ℕ) (items : List Tree) (now : ℤ) (update : PreparedView) : Type 0 where
  pub accepted : verdict old.frame by old.entries table items now ≡ accepts (due update ++ update.entry ∷ [])
  pub frame : update.frame ≡ old.frame
  pub entries : update.entries ≡ old.entries
  pub own : update.by ≡ by
  pub early : update.rolls ≡ true → date_of old.frame.first old.entries <ℤ pos 106751
  pub after : new ≡ record old { room = if update.rolls then old.room else update.entry ∷ []; spare = true }

-- a memory, seen from its dates
abbrev pub frame_of : List Shape → Limits → HistoryView → Frame
frame_of schema limits history = record { schema = schema; first = history.first; limits = limits }

abbrev pub memory_of : List Shape → Limits → HistoryView → MemoryView
memory_of schema limits history = record {
  frame = frame_of schema limits history;
  entries = history.entries;
  room = history.room;
  spare = history.spare;
}

-- the dates are of the schema's tables
pub record IsMemory (schema : List Shape) (limits : Limits) (history : HistoryView) : Type 0 where
  pub limits_are : AreLimits limits
  pub kinds_are : history.kinds ≡ kinds_of schema

-- what a prepared update holds: its entry, which its date may have, its log record, and the next date with room for it where a
-- roll is due
pub record IsPrepared (of : MemoryView) (by : ℕ) (entry : Entry) (fresh : Option Opened) (chunk : List ℕ) : Type 0 where
  pub few : length of.entries < 2 ^ 63
  pub own : by_of entry ≡ by
  pub by_few : by + 1 < 2 ^ 64
  pub update : IsUpdate (kinds_of of.frame.schema) entry
  pub bounded : (if is_some fresh then 0 else total_rows (today of.entries)) + entry_rows entry ≤ 4294967295
  pub some : 0 < length chunk
  pub chunk_is : (before : ℕ) → before + entry_rows entry ≤ 4294967295 → IsChunk of.frame.schema before chunk entry
  pub fresh_is :
      (opened : Opened) → fresh ≡ Some opened
      → opened ≡ opened_of (date_of of.frame.first of.entries +ℤ pos 1) (kinds_of of.frame.schema) [] (entry ∷ [])

-- what a prepared roll holds: the dates as they are after it
pub record IsPreparedRoll (of : MemoryView) (by : ℕ) (date : ℤ) (next : HistoryView) : Type 0 where
  pub few : length of.entries < 2 ^ 63
  pub by_few : by + 1 < 2 ^ 64
  pub later : date_of of.frame.first of.entries <ℤ date
  pub last : date ≤ℤ pos 106751
  pub next_is : next ≡ record {
    first = of.frame.first;
    kinds = kinds_of of.frame.schema;
    entries = of.entries ++ e.Roll by date ∷ [];
    room = [];
    spare = true;
  }

-- a table of the schema has a column with this index, of this kind
abbrev pub HasColumn : List Shape → ℕ → ℕ → Kind → Type 0
HasColumn schema = IsColumn (kinds_of schema)

-- the dates of a snapshot are of the schema's tables
pub record IsSnapshot (schema : List Shape) (history : HistoryView) : Type 0 where
  pub kinds_are : history.kinds ≡ kinds_of schema

-- the dates of a tail are of the schema's tables, and its first entry is one of theirs, or the next
pub record IsTail (schema : List Shape) (history : HistoryView) (from : ℕ) : Type 0 where
  pub kinds_are : history.kinds ≡ kinds_of schema
  pub within : from ≤ length history.entries
