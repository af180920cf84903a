-- The one step that a call makes of the plant while it has the lock.
use Rattle.std.specs.Prelude.{◌≡◌, ℕ, ℤ, List, Result, IfOk}
use mathlib.Core.List.{IsPrefix}
use Rattle.outside_api.specs.Disk.{DiskView}
use Rattle.q_values.specs.declared.refusal.NoMemory.{NoMemory}
use Rattle.day_rows.specs.declared.entry.Entry.{Entry}
use Rattle.plant_memory.specs.Memory.{SnapshotView, TailView}
use Rattle.plant_memory.specs.declared.request.UpdRequest.{UpdRequest}
use Rattle.plant_core.specs.Plant.{PlantView, IsSound, shown_by}
use Rattle.plant_core.specs.Turns.{Unchanging, UpdatesPlant, TicksPlant}
use Rattle.plant_core.specs.declared.access.TickTurn.{TickTurn}
use Rattle.plant_core.specs.declared.access.UpdTurn.{UpdTurn}
use Rattle.plant_shared.specs.Shared.{SharedView}

-- what no call changes of a plant
abbrev pub unchanging : {D : Type 0} → PlantView D → Unchanging D
unchanging plant = record { frame = plant.memory.frame; origin = plant.origin }

-- what no call changes of the plants under the lock that an access reaches
abbrev pub lock_of : {D : Type 0} → SharedView D → Unchanging D
lock_of shared = record { frame = shared.frame; origin = shared.origin }

-- the plant is one that the lock may be round: it has the frame and the origin of the plant that the lock was made with, and is sound
pub record IsLocked {D : Type 0} (shown : D → DiskView) (lock : Unchanging D) (plant : PlantView D) : Type 0 where
  pub unchanged : unchanging plant ≡ lock
  pub sound : IsSound (shown_by shown plant)

-- The lock was taken once, and one step was made. What had been seen begins the chronicle of the plant that was found; what has been
-- seen now is the chronicle of the plant that was left, whole.
pub record StepsOnce {D : Type 0} (shown : D → DiskView) (lock : Unchanging D) (old new : List Entry) (step : PlantView D → PlantView D → Type 0) : Type 0 where
  pub before : PlantView D
  pub after : PlantView D
  pub found : IsLocked shown lock before
  pub left : IsLocked shown lock after
  pub begins : IsPrefix old before.memory.entries
  pub whole : new ≡ after.memory.entries
  pub made : step before after

-- the step is an update by this pass
abbrev pub UpdatesOnce : {D : Type 0} → (D → DiskView) → Unchanging D → ℕ → List Entry → List Entry → UpdRequest → ℤ → UpdTurn → Type 0
UpdatesOnce shown lock by old new request now turn =
    StepsOnce shown lock old new (λ before after. UpdatesPlant (shown lock.origin) before.memory after.memory by request now turn)

-- the step is a look at the clock by this pass
abbrev pub TicksOnce : {D : Type 0} → (D → DiskView) → Unchanging D → ℕ → List Entry → List Entry → ℤ → TickTurn → Type 0
TicksOnce shown lock by old new now turn =
    StepsOnce shown lock old new (λ before after. TicksPlant (shown lock.origin) before.memory after.memory by now turn)

-- the step changes nothing, and a snapshot, if there is one, is of the plant
abbrev pub SnapsOnce : {D : Type 0} → (D → DiskView) → Unchanging D → List Entry → List Entry → Result SnapshotView NoMemory → Type 0
SnapsOnce shown lock old new answer =
    StepsOnce shown lock old new
    (λ before after. (after ≡ before) × IfOk answer (λ s. s ≡ record { frame = before.memory.frame; entries = before.memory.entries }))

-- the step changes nothing, and a tail, if there is one, is of the plant, from this index on
abbrev pub TailsOnce : {D : Type 0} → (D → DiskView) → Unchanging D → List Entry → List Entry → ℕ → Result TailView NoMemory → Type 0
TailsOnce shown lock old new from answer =
    StepsOnce shown lock old new
    (λ before after. (after ≡ before) × IfOk answer (λ t. t ≡ record { frame = before.memory.frame; entries = before.memory.entries; from = from }))
