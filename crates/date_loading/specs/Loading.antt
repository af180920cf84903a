-- What was loaded so far.
use Rattle.std.specs.Prelude.{◌≡◌, ◌≢◌, ◌≤◌, ◌⊎◌, ℕ, ℤ, ◌+◌, IsTrue, List, [], ◌∷◌, ◌++◌, length, take, drop, map}
use Rattle.std.specs.Prelude.{slice_get, Option, Some, None}
use Rattle.std.specs.List.{AllByRecursion}
use Rattle.outside_api.specs.Disk.{FileState, DiskView, IsImage, IsSettled}
use Rattle.gated_journal.specs.Format.{Reads}
use Rattle.gated_journal.specs.Journal.{JournalView, Holds, HasLastGate}
use Rattle.day_rows.specs.declared.schema.Shape.{Shape}
use Rattle.tick_log.specs.Replay.{AreChunks}
use Rattle.partition_set.specs.Manifest.{ManifestView, Keeps}
use Rattle.partition_set.specs.Records.{payloads_of, IsManifest, IsRecord, IsOpened}
use Rattle.partition_set.specs.declared.record.ManifestRecord.{ManifestRecord}
use Rattle.partition_set.specs.declared.record.ManifestRecord.TheVariants as m
use Rattle.date_logs.specs.Moments.{Throughout}
use Rattle.date_logs.specs.Restart.{log_file, Dated, manifest_of, LogHolds, BeginsAt, entries_of, Restarts}
use Rattle.date_logs.specs.Stores.{DateLogsView, IsLogOf, Stores, IsReady}
use Rattle.date_loading.specs.Logs.{IsDayOn}
use Rattle.date_loading.specs.Manifests.{tables_of, last_date, IsBefore}
use Rattle.date_loading.specs.Refusals.{LogRefuses}
use Rattle.date_loading.specs.declared.loading.LoadedDay.{LoadedDay}
use Rattle.date_loading.specs.declared.loading.Finished.{Finished}
use Rattle.date_loading.specs.declared.loading.Finished.TheVariants as f
use Rattle.date_loading.specs.declared.refusal.LoadRefusal.{LoadRefusal}

-- what a loading is seen as: the manifest, how many of its records were loaded, and the log of the last date
pub record LoadingView : Type 0 where
  pub manifest : ManifestView
  pub next : ℕ
  pub log : Option JournalView

-- the records that were loaded: the tables, and some dates
abbrev pub loaded_records : LoadingView → List ManifestRecord
loaded_records loading = take loading.next loading.manifest.records

-- the date that was loaded last, if one was
abbrev pub loaded_date : LoadingView → Option ℤ
loaded_date loading = last_date (loaded_records loading)

-- the log is that of the last date among these records; where there is none, no date was loaded
abbrev pub IsLogAfter : List ManifestRecord → Option JournalView → Type 0
IsLogAfter records None = last_date records ≡ None
IsLogAfter records (Some log) =
    (front : List ManifestRecord) × (by : ℕ) × (date : ℤ) × (records ≡ front ++ m.Opened by date ∷ []) × (log.file ≡ log_file date)

-- the records that weren't loaded yet are dates
pub record IsUnderWay (loading : LoadingView) : Type 0 where
  pub lawful : IsManifest loading.manifest.records
  pub manifest_file : loading.manifest.journal.file ≡ 0
  pub within : loading.next ≤ length loading.manifest.records
  pub dates : AllByRecursion IsOpened (drop loading.next loading.manifest.records)
  pub log : IsLogAfter (loaded_records loading) loading.log

-- a load of which only the tables, those of the schema, were loaded
pub record IsBegun (schema : List Shape) (loading : LoadingView) : Type 0 where
  pub tables : tables_of loading.manifest.records ≡ schema
  pub next : loading.next ≡ length schema
  pub none : loaded_date loading ≡ None

-- ---- the next date

-- the day that the next record of the manifest opens, later than each that was loaded
pub record IsNextDay (loading : LoadingView) (schema : List Shape) (found : LoadedDay) : Type 0 where
  pub opened : slice_get loading.manifest.records loading.next ≡ Some (m.Opened found.by found.day.day.date)
  pub own : IsRecord (m.Opened found.by found.day.day.date)
  pub later : IsBefore (loaded_date loading) found.day.day.date
  pub day : IsDayOn schema found.day.day.date found.day found.counts

-- one record more was loaded, that of this date
pub record IsOneFurther (before after : LoadingView) (date : ℤ) : Type 0 where
  pub manifest : after.manifest ≡ before.manifest
  pub next : after.next ≡ before.next + 1
  pub last : loaded_date after ≡ Some date

-- one date more was loaded; or each was already, and nothing happened
abbrev pub GoesOn : DiskView → DiskView → LoadingView → LoadingView → Option LoadedDay → Type 0
GoesOn old new before after None = (after ≡ before) × (before.next ≡ length before.manifest.records) × (new ≡ old)
GoesOn old new before after (Some found) = IsOneFurther before after found.day.day.date

-- why the next date isn't loaded: its log refuses
abbrev pub NextRefuses : DiskView → LoadingView → List Shape → LoadRefusal → Type 0
NextRefuses disk loading schema why =
    (by : ℕ) × (date : ℤ) × (slice_get loading.manifest.records loading.next ≡ Some (m.Opened by date)) × LogRefuses disk schema date why

-- a date that was loaded, with its updates
abbrev pub dated : LoadedDay → Dated
dated found = record { by = found.by; date = found.day.day.date; updates = found.day.day.updates }

-- ---- what was read

-- these dates were read, with these updates, from files that read as they do
pub record ReadIn (files : ℕ → FileState) (loading : LoadingView) (schema : List Shape) (dates : List Dated) : Type 0 where
  pub records : loaded_records loading ≡ manifest_of schema dates
  pub manifest : Reads (files 0).bytes (payloads_of loading.manifest.records)
  pub logs : AllByRecursion (λ d. LogHolds schema (files (log_file d.date)).bytes d.updates) dates

abbrev pub Read : DiskView → LoadingView → List Shape → List Dated → Type 0
Read disk loading schema dates = IsTrue disk.tells → ReadIn disk.now loading schema dates

-- where the disk reports, each file reads as before
abbrev pub ReadsAsBefore : DiskView → DiskView → Type 0
ReadsAsBefore old new = IsTrue old.tells → (k : ℕ) → (new.now k).bytes ≡ (old.now k).bytes

-- where the disk reports, at each moment since, each image of a file is one from before, or what reads give
abbrev pub KeepsFiles : DiskView → DiskView → Type 0
KeepsFiles old new =
    IsTrue old.tells
    → Throughout old new (λ files. (k : ℕ) (image : List ℕ) → IsImage (files k) image → IsImage (old.now k) image ⊎ (image ≡ (old.now k).bytes))

-- ---- what is kept

-- where the disk reports, no sync of a file has failed
abbrev pub AreSettled : DiskView → Type 0
AreSettled disk = IsTrue disk.tells → (k : ℕ) → IsSettled (disk.now k)

-- the journal is the log of the last of these dates
pub record IsLogOfLast (schema : List Shape) (files : ℕ → FileState) (dates : List Dated) (log : JournalView) : Type 0 where
  pub ended : List Dated
  pub last : Dated
  pub split : dates ≡ ended ++ last ∷ []
  pub file : log.file ≡ log_file last.date
  pub payloads : List (List ℕ)
  pub chunks : AreChunks schema 0 payloads last.updates
  pub holds : Holds log (files log.file) payloads None

abbrev pub HasLog : List Shape → (ℕ → FileState) → List Dated → Option JournalView → Type 0
HasLog schema files dates None = dates ≡ []
HasLog schema files dates (Some log) = IsLogOfLast schema files dates log

-- these dates were loaded, with these updates, and each image has them; no sync of another log has failed
pub record LoadedIn (files : ℕ → FileState) (loading : LoadingView) (schema : List Shape) (dates : List Dated) : Type 0 where
  pub records : loaded_records loading ≡ manifest_of schema dates
  pub manifest : Holds loading.manifest.journal (files 0) (payloads_of loading.manifest.records) None
  pub logs : AllByRecursion (λ d. IsLogOf schema (files (log_file d.date)) d.updates) dates
  pub log : HasLog schema files dates loading.log
  pub settled : (k : ℕ) → k ≢ 0 → IsSettled (files k)

abbrev pub Loaded : DiskView → LoadingView → List Shape → List Dated → Type 0
Loaded disk loading schema dates = IsTrue disk.tells → LoadedIn disk.now loading schema dates

-- where the disk reports, the files of the manifest and of the last log reach beyond their last gates
abbrev pub HasLogGate : DiskView → Option JournalView → Type 0
HasLogGate disk None = Unit {0}
HasLogGate disk (Some log) = HasLastGate disk log

pub record HasGates (disk : DiskView) (loading : LoadingView) : Type 0 where
  pub manifest : HasLastGate disk loading.manifest.journal
  pub log : HasLogGate disk loading.log

-- ---- the end

-- the files restart as the entries of the dates that were read
abbrev pub RestartsSo : LoadingView → Type 0
RestartsSo loading =
    (disk : DiskView) (schema : List Shape) (first : ℤ) (dates : List Dated) → Read disk loading schema dates → BeginsAt first dates
    → IsTrue disk.tells → Restarts schema first (λ k. (disk.now k).bytes) (entries_of dates)

-- the logs store the entries of the dates that were loaded
pub record AreLogsOf (loading : LoadingView) (logs : DateLogsView) : Type 0 where
  pub manifest : logs.manifest ≡ loading.manifest
  pub open_date : ℤ
  pub last : loaded_date loading ≡ Some open_date
  pub stored : (disk : DiskView) (schema : List Shape) (first : ℤ) (dates : List Dated) → Loaded disk loading schema dates → BeginsAt first dates
      → Stores disk logs schema first (entries_of dates) None
  pub ready : (disk : DiskView) → HasGates disk loading → IsReady disk logs

-- the manifest has tables and no date
pub record IsUndated (loading : LoadingView) (manifest : ManifestView) : Type 0 where
  pub same : manifest ≡ loading.manifest
  pub none : loaded_date loading ≡ None
  pub records : manifest.records ≡ map m.Shape (tables_of manifest.records)
  pub empty : (schema : List Shape) (dates : List Dated) → loaded_records loading ≡ manifest_of schema dates → dates ≡ []
  pub kept : (disk : DiskView) (schema : List Shape) (dates : List Dated) → Loaded disk loading schema dates → Keeps disk manifest None

abbrev pub FinishesAs : LoadingView → Finished → Type 0
FinishesAs loading (f.Dated logs) = AreLogsOf loading logs
FinishesAs loading (f.Undated manifest) = IsUndated loading manifest
