-- What one turn of a pass makes of a plant: seen by a pass that has the plant to itself, and has made nothing yet.
use Rattle.std.specs.Prelude.{ℕ, ℤ, length}
use Rattle.outside_api.specs.Disk.{DiskView}
use Rattle.plant_memory.specs.Frame.{Frame}
use Rattle.plant_memory.specs.Memory.{MemoryView}
use Rattle.plant_memory.specs.declared.request.UpdRequest.{UpdRequest}
use Rattle.plant_core.specs.Access.{AccessView, Updates, Ticks, access_of}
use Rattle.plant_core.specs.declared.access.TickTurn.{TickTurn}
use Rattle.plant_core.specs.declared.access.UpdTurn.{UpdTurn}

-- what no call changes of a plant: its frame, and the disk as it was when the plant was loaded
pub record Unchanging (D : Type 0) : Type 0 where
  pub frame : Frame
  pub origin : D

-- a pass that begins at `old`, as it is when the plant, loaded from a disk as it was then, is at `new`, after this number of ticks
abbrev pub turn_of : DiskView → MemoryView → MemoryView → ℕ → ℕ → AccessView
turn_of origin old new by ticks = access_of origin new by (length old.entries) 0 ticks

-- what an update of the pass `by` makes of a plant
abbrev pub UpdatesPlant : DiskView → MemoryView → MemoryView → ℕ → UpdRequest → ℤ → UpdTurn → Type 0
UpdatesPlant origin old new by request now turn = Updates (turn_of origin old old by 0) (turn_of origin old new by 0) request now turn

-- what a look at the clock by the pass `by` makes of a plant
abbrev pub TicksPlant : DiskView → MemoryView → MemoryView → ℕ → ℤ → TickTurn → Type 0
TicksPlant origin old new by now turn = Ticks (turn_of origin old old by 0) (turn_of origin old new by 1) now turn
