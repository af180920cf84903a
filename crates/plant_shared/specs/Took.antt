-- What a take of the lock and a give make of a pass.
use Rattle.std.specs.Prelude.{◌≡◌, List, ◌++◌, length, drop}
use Rattle.day_rows.specs.declared.entry.Entry.{Entry}
use Rattle.plant_memory.specs.Chronicle.{by_of}
use Rattle.plant_memory.specs.Frame.{Frame}
use Rattle.plant_memory.specs.Memory.{MemoryView}
use Rattle.plant_lock.specs.Entries.{own}
use Rattle.plant_lock.specs.Told.{Told}

-- the lock was taken: what the pass had seen begins the plant's chronicle, the rest of which others made
pub record Took (frame : Frame) (old : Told Entry) (plant : MemoryView) : Type 0 where
  pub rest : List Entry
  pub whole : old.seen ++ rest ≡ plant.entries
  pub frame_is : plant.frame ≡ frame
  pub own_all : own by_of old.number plant.entries ≡ old.mine
  pub own_seen : own by_of old.number old.seen ≡ old.mine

-- the pass after the plant was given back
abbrev pub given : Told Entry → MemoryView → MemoryView → Told Entry
given old plant new = record old { seen = new.entries; mine = old.mine ++ drop (length plant.entries) new.entries }
