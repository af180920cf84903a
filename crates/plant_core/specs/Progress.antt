-- A load under way: the dates that were read so far, and the memory that holds them.
use Rattle.std.specs.Prelude.{◌≡◌, ℤ, IsTrue, List, ◌∷◌, Some, None}
use Rattle.outside_api.specs.Disk.{DiskView}
use Rattle.day_rows.specs.Chronicle.{date_of, DatesAscend}
use Rattle.day_rows.specs.declared.schema.Shape.{Shape}
use Rattle.date_logs.specs.Restart.{Dated, entries_of}
use Rattle.date_logs.specs.Stores.{DateLogsView}
use Rattle.date_loading.specs.Loading.{LoadingView, IsUnderWay, loaded_date, Read, Loaded, HasGates, ReadsAsBefore, AreSettled}
use Rattle.date_loading.specs.Manifests.{tables_of, last_date, IsNotAfter}
use Rattle.date_loading.specs.declared.refusal.LoadRefusal.{LoadRefusal}
use Rattle.date_loading.specs.declared.refusal.LoadRefusal.TheVariants as l
use Rattle.gated_journal.specs.declared.state.State.TheVariants as s
use Rattle.plant_memory.specs.Memory.{MemoryView}
use Rattle.plant_core.specs.Load.{IsLoaded}
use Rattle.plant_core.specs.Plant.{ShownPlant, IsPlant, StoresLog, fault_count}

-- the disk reads as it did when the load began, and no fault came
pub record IsSame (origin disk : DiskView) : Type 0 where
  pub bytes : ReadsAsBefore origin disk
  pub tells : disk.tells ≡ origin.tells
  pub faults : disk.faults ≡ origin.faults

-- a load on a date for these tables, of which these dates were read
pub record HasRead (origin disk : DiskView) (date : ℤ) (loading : LoadingView) (schema : List Shape) (dates : List Dated) : Type 0 where
  pub same : IsSame origin disk
  pub read : Read disk loading schema dates
  pub loaded : AreSettled origin → Loaded disk loading schema dates
  pub gates : HasGates disk loading
  pub tables : tables_of loading.manifest.records ≡ schema
  pub not_after : IsNotAfter (last_date loading.manifest.records) date
  pub under_way : IsUnderWay loading
  pub clean : loading.manifest.journal.state ≡ s.Clean

-- the memory has the entries of the dates that were read, the last of which is open
pub record IsLoading (origin disk : DiskView) (date : ℤ) (loading : LoadingView) (memory : MemoryView) : Type 0 where
  pub earliest : Dated
  pub later : List Dated
  pub read : HasRead origin disk date loading memory.frame.schema (earliest ∷ later)
  pub entries : memory.entries ≡ entries_of (earliest ∷ later)
  pub begins : earliest.date ≡ memory.frame.first
  pub last : loaded_date loading ≡ Some (date_of memory.frame.first memory.entries)
  pub ascend : DatesAscend memory.frame.first memory.entries
  pub faultless : fault_count memory.entries ≡ 0

abbrev pub plant_of : MemoryView → DateLogsView → DiskView → DiskView → ShownPlant
plant_of memory logs disk origin = record { memory = memory; logs = logs; disk = disk; origin = origin }

-- the memory and the logs are those of a plant, whose disk stores its log and nothing else
pub record IsWhole (origin disk : DiskView) (memory : MemoryView) (logs : DateLogsView) : Type 0 where
  pub plant : IsPlant (plant_of memory logs disk origin)
  pub stored : AreSettled origin → StoresLog (plant_of memory logs disk origin) None

-- the same of a plant that was loaded, which is open at the date
pub record IsReadPlant (origin disk : DiskView) (date : ℤ) (memory : MemoryView) (logs : DateLogsView) : Type 0 where
  pub whole : IsWhole origin disk memory logs
  pub opened : date_of memory.frame.first memory.entries ≡ date
  pub loaded : IsTrue origin.tells → IsLoaded origin memory.frame.schema date memory

-- the disk failed, or there was no memory
abbrev pub IsFree : LoadRefusal → Type 0
IsFree (l.BadManifest bytes) = ⊥
IsFree (l.SchemaDiffers table kept given) = ⊥
IsFree (l.EarlierDate kept) = ⊥
IsFree (l.CorruptLog day chunks bytes) = ⊥
IsFree l.DiskFault = Unit {0}
IsFree l.NumbersSpent = ⊥
IsFree l.NoMemory = Unit {0}
