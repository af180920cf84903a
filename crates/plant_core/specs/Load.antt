-- What a load gives, and why it is refused.
use Rattle.std.specs.Prelude.{◌≡◌, ◌<◌, ◌≤ℤ◌, ◌+◌, ◌-◌, ◌^◌, ℕ, ℤ, if◌then◌else◌, int_lt, IsTrue, List, [], ◌∷◌, ◌++◌, map, Err}
use Rattle.std.specs.List.{AllByRecursion}
use Rattle.outside_api.specs.Disk.{DiskView}
use Rattle.gated_journal.specs.Format.{Reads}
use Rattle.day_rows.specs.Chronicle.{date_of}
use Rattle.day_rows.specs.declared.entry.Entry.{Entry}
use Rattle.day_rows.specs.declared.entry.Entry.TheVariants as e
use Rattle.day_rows.specs.declared.schema.Shape.{Shape}
use Rattle.partition_set.specs.Records.{payloads_of}
use Rattle.partition_set.specs.declared.record.ManifestRecord.{ManifestRecord}
use Rattle.partition_set.specs.declared.record.ManifestRecord.TheVariants as m
use Rattle.date_logs.specs.Restart.{log_file, Dated, manifest_of, LogHolds, Restarts}
use Rattle.date_loading.specs.Manifests.{HasRecords, tables_of, last_date, IsNotAfter}
use Rattle.date_loading.specs.Loading.{ReadsAsBefore}
use Rattle.date_loading.specs.Refusals.{OpenRefuses, IsDamagedLog, LoadCounts}
use Rattle.date_loading.specs.declared.refusal.LoadRefusal.{LoadRefusal}
use Rattle.date_loading.specs.declared.refusal.LoadRefusal.TheVariants as l
use Rattle.plant_memory.specs.Chronicle.{top_by}
use Rattle.plant_memory.specs.Memory.{MemoryView}

-- the files of a disk, as reads give them
abbrev pub files_of : DiskView → ℕ → List ℕ
files_of disk k = (disk.now k).bytes

-- the roll from the open date to a later one, by pass 0
abbrev pub roll_to : ℤ → ℤ → List Entry
roll_to latest date = if int_lt latest date then e.Roll 0 date ∷ [] else []

-- the entries are what the files restart as, which has opened no later date and has a number left for a pass, and then one roll where the
-- date is later; where no date was opened, this one is the first
pub record IsLoaded (disk : DiskView) (schema : List Shape) (date : ℤ) (memory : MemoryView) : Type 0 where
  pub kept : List Entry
  pub restarts : Restarts schema memory.frame.first (files_of disk) kept
  pub not_after : date_of memory.frame.first kept ≤ℤ date
  pub few : top_by kept + 2 < 2 ^ 64
  pub entries : memory.entries ≡ kept ++ roll_to (date_of memory.frame.first kept) date
  pub begun : Reads (disk.now 0).bytes (payloads_of (map m.Shape schema)) → memory.frame.first ≡ date

-- the logs of some first dates of the manifest are whole, and that of the next one is damaged
pub record IsDamagedAt (disk : DiskView) (schema : List Shape) (date : ℤ) (day : ℤ) (chunks bytes : ℕ) : Type 0 where
  pub records : List ManifestRecord
  pub has : HasRecords (disk.now 0).bytes records
  pub tables : tables_of records ≡ schema
  pub not_after : IsNotAfter (last_date records) date
  pub before : List Dated
  pub by : ℕ
  pub rest : List ManifestRecord
  pub split : records ≡ manifest_of schema before ++ m.Opened by day ∷ rest
  pub whole : AllByRecursion (λ d. LogHolds schema (disk.now (log_file d.date)).bytes d.updates) before
  pub damaged : IsDamagedLog schema (disk.now (log_file day)).bytes chunks bytes

-- the files restart as entries whose greatest pass number is the last one
pub record IsSpent (disk : DiskView) (schema : List Shape) (date : ℤ) : Type 0 where
  pub first : ℤ
  pub kept : List Entry
  pub restarts : Restarts schema first (files_of disk) kept
  pub not_after : date_of first kept ≤ℤ date
  pub spent : top_by kept ≡ 2 ^ 64 - 2

-- why a load is refused
abbrev pub LoadRefuses : DiskView → List Shape → ℤ → LoadRefusal → Type 0
LoadRefuses disk schema date (l.BadManifest bytes) = OpenRefuses disk schema date (l.BadManifest bytes)
LoadRefuses disk schema date (l.SchemaDiffers table kept given) = OpenRefuses disk schema date (l.SchemaDiffers table kept given)
LoadRefuses disk schema date (l.EarlierDate kept) = OpenRefuses disk schema date (l.EarlierDate kept)
LoadRefuses disk schema date (l.CorruptLog day chunks bytes) = IsTrue disk.tells → IsDamagedAt disk schema date day chunks bytes
LoadRefuses disk schema date l.DiskFault = Unit {0}
LoadRefuses disk schema date l.NumbersSpent = IsTrue disk.tells → IsSpent disk schema date
LoadRefuses disk schema date l.NoMemory = Unit {0}

-- the disk counted nothing
abbrev pub CountsNothing : DiskView → DiskView → Type 0
CountsNothing old new = (new.faults ≡ old.faults) × (new.tells ≡ old.tells)

-- what the disk of a refused load counted: the fault that the load was refused for, if it was for one, and nothing else
abbrev pub RefusalCounts : DiskView → DiskView → LoadRefusal → Type 0
RefusalCounts old new why = LoadCounts {T = Unit {0}} old new (Err why)

-- a refused load leaves each file as it reads, unless the disk failed
abbrev pub LeavesFiles : DiskView → DiskView → LoadRefusal → Type 0
LeavesFiles old new (l.BadManifest bytes) = ReadsAsBefore old new
LeavesFiles old new (l.SchemaDiffers table kept given) = ReadsAsBefore old new
LeavesFiles old new (l.EarlierDate kept) = ReadsAsBefore old new
LeavesFiles old new (l.CorruptLog day chunks bytes) = ReadsAsBefore old new
LeavesFiles old new l.DiskFault = Unit {0}
LeavesFiles old new l.NumbersSpent = ReadsAsBefore old new
LeavesFiles old new l.NoMemory = ReadsAsBefore old new
