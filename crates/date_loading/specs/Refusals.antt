-- Why a load is refused.
use Rattle.std.specs.Prelude.{◌≡◌, ◌⊎◌, ◌<ℤ◌, ℕ, ℤ, IsTrue, List, Some, Result, Ok, Err}
use Rattle.outside_api.specs.Counts.{counted}
use Rattle.outside_api.specs.Disk.{DiskView}
use Rattle.gated_journal.specs.Format.{Reads, IsCorrupt}
use Rattle.day_rows.specs.declared.schema.Shape.{Shape}
use Rattle.tick_log.specs.Replay.{NoChunkAt}
use Rattle.partition_set.specs.Manifest.{IsDamaged}
use Rattle.partition_set.specs.declared.record.ManifestRecord.{ManifestRecord}
use Rattle.partition_set.specs.declared.refusal.ManifestRefusal.{ManifestRefusal}
use Rattle.partition_set.specs.declared.refusal.ManifestRefusal.TheVariants as r
use Rattle.date_logs.specs.Restart.{log_file}
use Rattle.date_loading.specs.Differences.{DifferFirst}
use Rattle.date_loading.specs.Manifests.{HasRecords, tables_of, last_date}
use Rattle.date_loading.specs.declared.refusal.LoadRefusal.{LoadRefusal}
use Rattle.date_loading.specs.declared.refusal.LoadRefusal.TheVariants as l

-- the refusal of a load whose manifest was refused
abbrev pub refusal_of : ManifestRefusal → LoadRefusal
refusal_of (r.BadManifest bytes) = l.BadManifest bytes
refusal_of r.DiskFault = l.DiskFault
refusal_of r.NoMemory = l.NoMemory

-- why the tables of a manifest are not accepted for a schema
abbrev pub TablesRefuse : List ManifestRecord → List Shape → LoadRefusal → Type 0
TablesRefuse records schema (l.BadManifest bytes) = ⊥
TablesRefuse records schema (l.SchemaDiffers table kept given) = DifferFirst (tables_of records) schema table kept given
TablesRefuse records schema (l.EarlierDate kept) = ⊥
TablesRefuse records schema (l.CorruptLog day chunks bytes) = ⊥
TablesRefuse records schema l.DiskFault = ⊥
TablesRefuse records schema l.NumbersSpent = ⊥
TablesRefuse records schema l.NoMemory = Unit {0}

-- its dates are not accepted for a date: the last one, this, is later
abbrev pub IsTooLate : List ManifestRecord → List Shape → ℤ → ℤ → Type 0
IsTooLate records schema date kept = (tables_of records ≡ schema) × (last_date records ≡ Some kept) × (date <ℤ kept)

-- why a load doesn't begin: file 0 is no manifest, or one of records that aren't accepted
abbrev pub OpenRefuses : DiskView → List Shape → ℤ → LoadRefusal → Type 0
OpenRefuses disk schema date (l.BadManifest bytes) = IsTrue disk.tells → IsDamaged (disk.now 0).bytes bytes
OpenRefuses disk schema date (l.SchemaDiffers table kept given) =
    IsTrue disk.tells → (records : List ManifestRecord) × HasRecords (disk.now 0).bytes records × DifferFirst (tables_of records) schema table kept given
OpenRefuses disk schema date (l.EarlierDate kept) =
    IsTrue disk.tells → (records : List ManifestRecord) × HasRecords (disk.now 0).bytes records × IsTooLate records schema date kept
OpenRefuses disk schema date (l.CorruptLog day chunks bytes) = ⊥
OpenRefuses disk schema date l.DiskFault = Unit {0}
OpenRefuses disk schema date l.NumbersSpent = ⊥
OpenRefuses disk schema date l.NoMemory = Unit {0}

-- the file is no journal from this offset on, or a journal whose record there is no chunk, after this number of chunks
abbrev pub IsDamagedLog : List Shape → List ℕ → ℕ → ℕ → Type 0
IsDamagedLog schema file chunks bytes =
    IsCorrupt file chunks bytes ⊎ ((records : List (List ℕ)) × Reads file records × NoChunkAt schema records chunks bytes)

-- why the log of a date isn't loaded
abbrev pub LogRefuses : DiskView → List Shape → ℤ → LoadRefusal → Type 0
LogRefuses disk schema date (l.BadManifest bytes) = ⊥
LogRefuses disk schema date (l.SchemaDiffers table kept given) = ⊥
LogRefuses disk schema date (l.EarlierDate kept) = ⊥
LogRefuses disk schema date (l.CorruptLog day chunks bytes) =
    (day ≡ date) × (IsTrue disk.tells → IsDamagedLog schema (disk.now (log_file date)).bytes chunks bytes)
LogRefuses disk schema date l.DiskFault = Unit {0}
LogRefuses disk schema date l.NumbersSpent = ⊥
LogRefuses disk schema date l.NoMemory = Unit {0}

-- a fault of the disk is counted, and comes only then
abbrev pub LoadCounts : {T : Type 0} → DiskView → DiskView → Result T LoadRefusal → Type 0
LoadCounts old new (Ok _) = (new.faults ≡ old.faults) × (new.tells ≡ old.tells)
LoadCounts old new (Err (l.BadManifest bytes)) = (new.faults ≡ old.faults) × (new.tells ≡ old.tells)
LoadCounts old new (Err (l.SchemaDiffers table kept given)) = (new.faults ≡ old.faults) × (new.tells ≡ old.tells)
LoadCounts old new (Err (l.EarlierDate kept)) = (new.faults ≡ old.faults) × (new.tells ≡ old.tells)
LoadCounts old new (Err (l.CorruptLog date chunks bytes)) = (new.faults ≡ old.faults) × (new.tells ≡ old.tells)
LoadCounts old new (Err l.DiskFault) = (new.faults ≡ counted old.faults 1) × (new.tells ≡ old.tells)
LoadCounts old new (Err l.NumbersSpent) = (new.faults ≡ old.faults) × (new.tells ≡ old.tells)
LoadCounts old new (Err l.NoMemory) = (new.faults ≡ old.faults) × (new.tells ≡ old.tells)
