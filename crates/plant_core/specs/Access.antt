-- What an access (the way of one pass to the plant) shows, and what its calls change.
use Rattle.std.specs.Prelude.{◌≡◌, ℕ, ℤ, ◌+◌, ◌<◌, ◌≤◌, ◌^◌, Bool, true, false, List, [], ◌∷◌, ◌++◌, length, min, drop, Option, Some, None, Result, Ok, Err}
use Rattle.atomic_table.specs.Seated.{TableId}
use Rattle.outside_api.specs.Disk.{DiskView}
use Rattle.q_values.specs.Tree.{Tree, trees}
use Rattle.q_values.specs.declared.refusal.NoMemory.{NoMemory}
use Rattle.day_rows.specs.Chronicle.{date_of}
use Rattle.day_rows.specs.declared.entry.Entry.{Entry}
use Rattle.day_rows.specs.declared.entry.Entry.TheVariants as e
use Rattle.plant_memory.specs.Chronicle.{last_fault}
use Rattle.plant_memory.specs.Frame.{Frame}
use Rattle.plant_memory.specs.Memory.{MemoryView, SnapshotView, TailView, next_roll}
use Rattle.plant_core.specs.Adds.{roll_place}
use Rattle.plant_memory.specs.Turns.{IsRefusal}
use Rattle.plant_memory.specs.Verdict.{accepts, is_next_day, verdict}
use Rattle.plant_core.specs.declared.access.TickTurn.{TickTurn}
use Rattle.plant_core.specs.declared.access.TickTurn.TheVariants as t
use Rattle.plant_core.specs.declared.access.UpdTurn.{UpdTurn}
use Rattle.plant_core.specs.declared.access.UpdTurn.TheVariants.{Logged, Refused, Failed}
use Rattle.plant_memory.specs.declared.refusal.UpdRefusal.{UpdRefusal}
use Rattle.plant_memory.specs.declared.request.UpdRequest.{UpdRequest}

-- whose plant an access reaches; no call changes it
pub record Home : Type 0 where
  -- the plant's disk as it was when the plant was loaded
  pub origin : DiskView
  -- the lock round the plant; none where the access has the plant to itself
  pub lock : Option TableId

-- what an access shows
pub record AccessView : Type 0 where
  -- the number of its pass
  pub by : ℕ
  pub frame : Frame
  -- whether nobody else makes entries
  pub alone : Bool
  -- the chronicle as far as it has seen it, and the entries of it that it made
  pub seen : List Entry
  pub mine : List Entry
  -- how often a snapshot was asked for, and a tick
  pub snapshots : ℕ
  pub ticks : ℕ
  -- whose plant it is
  pub home : Home

-- a count after one more; it saturates at the end of its type
abbrev pub next_count : ℕ → ℕ
next_count count = min (count + 1) 18446744073709551615

-- what the access saw of others' entries before its own step: none, where it is alone
pub record SeesMore (old : AccessView) (more : List Entry) : Type 0 where
  pub alone : old.alone ≡ true → more ≡ []

-- an update was logged: the verdict's entries were appended; a roll, if there is one, has the index `rolled`, and the update
-- the index `place`
pub record Logs (old new : AccessView) (table : List ℕ) (items : List Tree) (now : ℤ) (rolled : Option ℕ) (place : ℕ) : Type 0 where
  pub others : List Entry
  pub saw : SeesMore old others
  pub entries : List Entry
  pub accepted : verdict old.frame old.by (old.seen ++ others) table items now ≡ accepts entries
  pub rolled_is : rolled ≡ roll_place (length (old.seen ++ others)) entries
  pub last : place + 1 ≡ length ((old.seen ++ others) ++ entries)
  pub after : new ≡ record old { seen = (old.seen ++ others) ++ entries; mine = old.mine ++ entries }

-- an update was refused: the access saw what the others made, up to this length, and made nothing
pub record Looks (old new : AccessView) (table : List ℕ) (items : List Tree) (now : ℤ) (length_now : ℕ) (why : UpdRefusal) : Type 0 where
  pub others : List Entry
  pub saw : SeesMore old others
  pub refused : IsRefusal (verdict old.frame old.by (old.seen ++ others) table items now) why
  pub length : length_now ≡ length (old.seen ++ others)
  pub after : new ≡ record old { seen = old.seen ++ others }

-- an update was accepted, and the disk failed at an entry that the verdict adds: those before it were made, and then a fault; a
-- roll, if it was made, has the index `rolled`, and the fault the index `place`
pub record Fails (old new : AccessView) (table : List ℕ) (items : List Tree) (now : ℤ) (rolled : Option ℕ) (place : ℕ) : Type 0 where
  pub others : List Entry
  pub saw : SeesMore old others
  pub before : List Entry
  pub failed : Entry
  pub rest : List Entry
  pub accepted : verdict old.frame old.by (old.seen ++ others) table items now ≡ accepts (before ++ failed ∷ rest)
  pub rolled_is : rolled ≡ roll_place (length (old.seen ++ others)) before
  pub last : place ≡ length ((old.seen ++ others) ++ before)
  pub after : new ≡ record old {
    seen = (old.seen ++ others) ++ before ++ e.Fault old.by ∷ [];
    mine = old.mine ++ before ++ e.Fault old.by ∷ [];
  }

-- what a call of `upd` changes and answers
abbrev pub Updates : AccessView → AccessView → UpdRequest → ℤ → UpdTurn → Type 0
Updates old new request now (Logged rolled place) = Logs old new request.table (trees request.items) now rolled place
Updates old new request now (Refused length why) = Looks old new request.table (trees request.items) now length why
Updates old new request now (Failed rolled place) = Fails old new request.table (trees request.items) now rolled place

-- the moment's date isn't the one after the open date: nothing was made
pub record Waits (old new : AccessView) (now : ℤ) (length_now : ℕ) : Type 0 where
  pub others : List Entry
  pub saw : SeesMore old others
  pub early : is_next_day (date_of old.frame.first (old.seen ++ others)) now ≡ false
  pub length : length_now ≡ length (old.seen ++ others)
  pub after : new ≡ record old { seen = old.seen ++ others; ticks = next_count old.ticks }

-- the moment's date is the one after the open date: a roll to it was made, with this index
pub record Rolls (old new : AccessView) (now : ℤ) (place : ℕ) : Type 0 where
  pub others : List Entry
  pub saw : SeesMore old others
  pub due : is_next_day (date_of old.frame.first (old.seen ++ others)) now ≡ true
  pub at_end : place ≡ length (old.seen ++ others)
  pub after : new ≡ record old {
    seen = (old.seen ++ others) ++ next_roll old.frame.first (old.seen ++ others) old.by ∷ [];
    mine = old.mine ++ next_roll old.frame.first (old.seen ++ others) old.by ∷ [];
    ticks = next_count old.ticks;
  }

-- a roll was due, and the disk failed at it: a fault was made, with this index
pub record FailsRoll (old new : AccessView) (now : ℤ) (place : ℕ) : Type 0 where
  pub others : List Entry
  pub saw : SeesMore old others
  pub due : is_next_day (date_of old.frame.first (old.seen ++ others)) now ≡ true
  pub at_end : place ≡ length (old.seen ++ others)
  pub after : new ≡ record old {
    seen = (old.seen ++ others) ++ e.Fault old.by ∷ [];
    mine = old.mine ++ e.Fault old.by ∷ [];
    ticks = next_count old.ticks;
  }

-- a roll was due, and the access was out of memory: nothing was made
pub record Wants (old new : AccessView) (now : ℤ) : Type 0 where
  pub others : List Entry
  pub saw : SeesMore old others
  pub due : is_next_day (date_of old.frame.first (old.seen ++ others)) now ≡ true
  pub after : new ≡ record old { seen = old.seen ++ others; ticks = next_count old.ticks }

-- what a call of `tick` changes and answers
abbrev pub Ticks : AccessView → AccessView → ℤ → TickTurn → Type 0
Ticks old new now (t.Quiet length) = Waits old new now length
Ticks old new now (t.Rolled place) = Rolls old new now place
Ticks old new now (t.Failed place) = FailsRoll old new now place
Ticks old new now t.NoMemory = Wants old new now

-- a snapshot was asked for; the access saw what the others made
pub record Asks (old new : AccessView) : Type 0 where
  pub others : List Entry
  pub saw : SeesMore old others
  pub after : new ≡ record old { seen = old.seen ++ others; snapshots = next_count old.snapshots }

-- what a call of `snapshot` changes and answers
abbrev pub Snaps : AccessView → AccessView → Result SnapshotView NoMemory → Type 0
Snaps old new (Ok snapshot) = Asks old new × (snapshot ≡ record { frame = old.frame; entries = new.seen })
Snaps old new (Err _) = Asks old new

-- the access saw what the others made, and nothing else changed
pub record Sees (old new : AccessView) : Type 0 where
  pub others : List Entry
  pub saw : SeesMore old others
  pub after : new ≡ record old { seen = old.seen ++ others }

-- what a call of `tail` changes and answers
abbrev pub Tails : AccessView → AccessView → ℕ → Result TailView NoMemory → Type 0
Tails old new from (Ok tail) = Sees old new × (tail ≡ record { frame = old.frame; entries = new.seen; from = from })
Tails old new from (Err _) = Sees old new

-- what a plant, loaded from a disk as it was then, shows to the one pass that holds it, which began when the plant had `began`
-- entries
abbrev pub access_of : DiskView → MemoryView → ℕ → ℕ → ℕ → ℕ → AccessView
access_of origin plant by began snapshots ticks = record {
  by = by;
  frame = plant.frame;
  alone = true;
  seen = plant.entries;
  mine = drop began plant.entries;
  snapshots = snapshots;
  ticks = ticks;
  home = record { origin = origin; lock = None };
}

-- the same, as the value of an access that is alone
pub record SoloView (D : Type 0) : Type 0 where
  pub by : ℕ
  pub frame : Frame
  pub seen : List Entry
  pub mine : List Entry
  pub snapshots : ℕ
  pub ticks : ℕ
  -- the plant's disk as it was when the plant was loaded
  pub origin : D

abbrev pub solo_of : {D : Type 0} → D → MemoryView → ℕ → ℕ → ℕ → ℕ → SoloView D
solo_of origin plant by began snapshots ticks = record {
  by = by;
  frame = plant.frame;
  seen = plant.entries;
  mine = drop began plant.entries;
  snapshots = snapshots;
  ticks = ticks;
  origin = origin;
}

-- what it shows as an access
abbrev pub shown_alone : {D : Type 0} → (D → DiskView) → SoloView D → AccessView
shown_alone shown solo = record {
  by = solo.by;
  frame = solo.frame;
  alone = true;
  seen = solo.seen;
  mine = solo.mine;
  snapshots = solo.snapshots;
  ticks = solo.ticks;
  home = record { origin = shown solo.origin; lock = None };
}

-- the pass has a number of its own, and began when the plant had no more entries than now; its last fault, if there is one, has the
-- index `latest`
pub record IsSolo (plant : MemoryView) (by began latest : ℕ) : Type 0 where
  pub few : by + 1 < 2 ^ 64
  pub within : began ≤ length plant.entries
  pub latest_is : (place : ℕ) → last_fault by plant.entries ≡ Some place → latest ≡ place
