-- What a plant shows: its entries in memory, and what its disk holds of them.
use Rattle.std.specs.Prelude.{◌≡◌, ◌≤◌, ◌+◌, ℕ, ℤ, IsTrue, List, [], ◌∷◌, ◌++◌, Option, Some, None, ◌⊎◌}
use Rattle.outside_api.specs.Counts.{counted}
use Rattle.outside_api.specs.Disk.{DiskView}
use Rattle.date_loading.specs.Loading.{AreSettled}
use Rattle.day_rows.specs.Chronicle.{date_of, log, DatesAscend}
use Rattle.day_rows.specs.declared.entry.Entry.{Entry}
use Rattle.day_rows.specs.declared.entry.Entry.TheVariants as e
use Rattle.partition_set.specs.Records.{IsManifest}
use Rattle.partition_set.specs.declared.record.ManifestRecord.{ManifestRecord}
use Rattle.partition_set.specs.declared.record.ManifestRecord.TheVariants as m
use Rattle.date_logs.specs.Moments.{Throughout, RestartsFrom, RestartsEither}
use Rattle.date_logs.specs.Stores.{DateLogsView, Stores, Leaves, IsReady}
use Rattle.plant_memory.specs.Memory.{MemoryView}

-- a plant: its entries in memory, its logs and their disk, and the disk as it was when the plant was loaded
pub record PlantView (D : Type 0) : Type 0 where
  pub memory : MemoryView
  pub logs : DateLogsView
  pub disk : D
  pub origin : D

-- the same, by what its disk shows
pub record ShownPlant : Type 0 where
  pub memory : MemoryView
  pub logs : DateLogsView
  pub disk : DiskView
  pub origin : DiskView

abbrev pub shown_by : {D : Type 0} → (D → DiskView) → PlantView D → ShownPlant
shown_by shown plant = record { memory = plant.memory; logs = plant.logs; disk = shown plant.disk; origin = shown plant.origin }

-- the disk stores the log, which is the chronicle without its faults; and maybe a late entry, which may count after it
abbrev pub StoresLog : ShownPlant → Option Entry → Type 0
StoresLog plant late = Stores plant.disk plant.logs plant.memory.frame.schema plant.memory.frame.first (log plant.memory.entries) late

-- after a call that failed at this entry: the log, and what might count before it, nothing, or this entry
abbrev pub LeavesLog : ShownPlant → Option Entry → Entry → Type 0
LeavesLog plant late entry = Leaves plant.disk plant.logs plant.memory.frame.schema plant.memory.frame.first (log plant.memory.entries) late entry

-- at each moment of a call each image of the disk restarts as the log from before it, alone or with one of these entries at its end
abbrev pub RestartsAllAlong : ShownPlant → ShownPlant → Option Entry → Entry → Type 0
RestartsAllAlong old new late entry =
    IsTrue old.disk.tells
    → Throughout old.disk new.disk (RestartsEither old.memory.frame.schema old.memory.frame.first (log old.memory.entries) late (Some entry))

-- the number of faults
abbrev pub fault_count : List Entry → ℕ
fault_count [] = 0
fault_count (e.Upd by table columns ∷ entries) = fault_count entries
fault_count (e.Roll by date ∷ entries) = fault_count entries
fault_count (e.Fault by ∷ entries) = fault_count entries + 1

-- the last entry is a fault: a commit failed, and none succeeded after it
abbrev pub EndsInFault : List Entry → Type 0
EndsInFault entries = (front : List Entry) × (by : ℕ) × (entries ≡ front ++ e.Fault by ∷ [])

-- a late entry is there only where the last entry is a fault
abbrev pub MayBeLate : List Entry → Option Entry → Type 0
MayBeLate entries late = (late ≡ None) ⊎ EndsInFault entries

-- what holds of each plant
pub record IsSound (plant : ShownPlant) : Type 0 where
  -- each roll opens a later date
  pub ascend : DatesAscend plant.memory.frame.first plant.memory.entries
  -- whatever a restart finds is the log, or, where the last commit failed, maybe the log and one late entry; where no sync had failed
  -- before the plant was loaded
  pub restarts :
      AreSettled plant.origin → IsTrue plant.disk.tells
      → (late : Option Entry) × MayBeLate plant.memory.entries late
      × RestartsFrom plant.memory.frame.schema plant.memory.frame.first (log plant.memory.entries) late plant.disk.now
  -- there are no more faults than the disk has counted since then
  pub faults : counted plant.origin.faults (fault_count plant.memory.entries) ≤ plant.disk.faults

-- the manifest's last date is this one
abbrev pub IsOpenDate : List ManifestRecord → ℤ → Type 0
IsOpenDate records date = (front : List ManifestRecord) × (by : ℕ) × (records ≡ front ++ m.Opened by date ∷ [])

-- what the memory, the logs and the disk say of each other
pub record IsPlant (plant : ShownPlant) : Type 0 where
  pub ascend : DatesAscend plant.memory.frame.first plant.memory.entries
  pub stored : AreSettled plant.origin → (late : Option Entry) × MayBeLate plant.memory.entries late × StoresLog plant late
  pub ready : IsReady plant.disk plant.logs
  pub lawful : IsManifest plant.logs.manifest.records
  pub latest : IsOpenDate plant.logs.manifest.records (date_of plant.memory.frame.first plant.memory.entries)
  pub faults : counted plant.origin.faults (fault_count plant.memory.entries) ≤ plant.disk.faults

-- nothing changed on the disk, and at most the room for a date of the manifest
pub record LeavesDisk (old new : ShownPlant) : Type 0 where
  pub disk : new.disk ≡ old.disk
  pub origin : new.origin ≡ old.origin
  pub logs : new.logs ≡ record old.logs { manifest = record old.logs.manifest { room = new.logs.manifest.room } }
