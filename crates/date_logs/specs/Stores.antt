-- What a disk holds of the manifest and the dates' logs, by the states of its files.
use Rattle.std.specs.Prelude.{◌≡◌, ◌⊎◌, ℕ, ℤ, IsTrue, List, [], ◌∷◌, ◌++◌, Option, Some, None}
use Rattle.std.specs.List.{AllByRecursion}
use Rattle.outside_api.specs.Disk.{FileState, DiskView}
use Rattle.gated_journal.specs.Format.{Reads}
use Rattle.gated_journal.specs.Journal.{JournalView, Holds, HasLastGate}
use Rattle.gated_journal.specs.declared.state.State.{State}
use Rattle.gated_journal.specs.declared.state.State.TheVariants.{Clean, BodyFailed, GateFailed}
use Rattle.day_rows.specs.Day.{total_rows}
use Rattle.day_rows.specs.declared.entry.Entry.{Entry}
use Rattle.day_rows.specs.declared.entry.Entry.TheVariants as e
use Rattle.day_rows.specs.declared.schema.Shape.{Shape}
use Rattle.tick_log.specs.Chunk.{IsChunk}
use Rattle.tick_log.specs.Replay.{AreChunks}
use Rattle.partition_set.specs.Manifest.{ManifestView}
use Rattle.partition_set.specs.Records.{payload_of, payloads_of, IsManifest}
use Rattle.partition_set.specs.declared.record.ManifestRecord.{ManifestRecord}
use Rattle.partition_set.specs.declared.record.ManifestRecord.TheVariants as m
use Rattle.date_logs.specs.Restart.{IsFound, log_file, Dated, manifest_of, AreDates, LogHolds}

-- what the logs are seen as: the manifest, and the journal of the open date
pub record DateLogsView : Type 0 where
  pub manifest : ManifestView
  pub log : JournalView

-- the manifest is in its file, and the journal is that of the date that it opened last
pub record IsWhole (logs : DateLogsView) : Type 0 where
  pub front : List ManifestRecord
  pub by : ℕ
  pub date : ℤ
  pub records : logs.manifest.records ≡ front ++ m.Opened by date ∷ []
  pub lawful : IsManifest logs.manifest.records
  pub manifest_file : logs.manifest.journal.file ≡ 0
  pub log_file : logs.log.file ≡ log_file date

-- where the disk reports, the files of the manifest and of the log, as reads give them, reach beyond their last gates
pub record IsReady (disk : DiskView) (logs : DateLogsView) : Type 0 where
  pub manifest : HasLastGate disk logs.manifest.journal
  pub log : HasLastGate disk logs.log

-- the record of the manifest that may count beside the others
abbrev pub late_record : Option Entry → Option (List ℕ)
late_record None = None
late_record (Some (e.Upd by table columns)) = None
late_record (Some (e.Roll by date)) = Some (payload_of (m.Opened by date))
late_record (Some (e.Fault by)) = None

-- the chunk that may count beside the others of a log with this many rows
abbrev pub IsLateChunk : List Shape → ℕ → Option Entry → Option (List ℕ) → Type 0
IsLateChunk schema before None chunk = chunk ≡ None
IsLateChunk schema before (Some (e.Upd by table columns)) chunk =
    (payload : List ℕ) × (chunk ≡ Some payload) × IsChunk schema before payload (e.Upd by table columns)
IsLateChunk schema before (Some (e.Roll by date)) chunk = chunk ≡ None
IsLateChunk schema before (Some (e.Fault by)) chunk = ⊥

-- a date that may count as opened is one that may come next, and no records are found in its log
abbrev pub OpensEmpty : (ℕ → FileState) → List ManifestRecord → Option Entry → Type 0
OpensEmpty files records None = Unit {0}
OpensEmpty files records (Some (e.Upd by table columns)) = Unit {0}
OpensEmpty files records (Some (e.Roll by date)) =
    IsManifest (records ++ m.Opened by date ∷ []) × ((found : List ℕ) → IsFound (files (log_file date)) found → Reads found [])
OpensEmpty files records (Some (e.Fault by)) = Unit {0}

-- whatever is found of the file is the log of these updates
abbrev pub IsLogOf : List Shape → FileState → List Entry → Type 0
IsLogOf schema file updates = (found : List ℕ) → IsFound file found → LogHolds schema found updates

-- the files hold these entries, and maybe a late one after them
pub record StoresIn (files : ℕ → FileState) (logs : DateLogsView) (schema : List Shape) (first : ℤ) (entries : List Entry) (late : Option Entry) : Type 0 where
  -- the dates that ended, and the open one
  pub ended : List Dated
  pub open_date : Dated
  pub are : AreDates schema first (ended ++ open_date ∷ []) entries
  pub ended_logs : AllByRecursion (λ d. IsLogOf schema (files (log_file d.date)) d.updates) ended
  -- the manifest has the tables and these dates
  pub records : logs.manifest.records ≡ manifest_of schema (ended ++ open_date ∷ [])
  pub manifest_file : logs.manifest.journal.file ≡ 0
  pub manifest : Holds logs.manifest.journal (files 0) (payloads_of logs.manifest.records) (late_record late)
  -- the log has the chunks of the open date's updates
  pub log_file : logs.log.file ≡ log_file open_date.date
  pub payloads : List (List ℕ)
  pub chunks : AreChunks schema 0 payloads open_date.updates
  pub late_chunk : Option (List ℕ)
  pub is_late : IsLateChunk schema (total_rows open_date.updates) late late_chunk
  pub log : Holds logs.log (files logs.log.file) payloads late_chunk
  pub opens : OpensEmpty files logs.manifest.records late

-- the same of a disk, where it reports what it holds
abbrev pub Stores : DiskView → DateLogsView → List Shape → ℤ → List Entry → Option Entry → Type 0
Stores disk logs schema first entries late = IsTrue disk.tells → StoresIn disk.now logs schema first entries late

-- after a call that failed: these entries, and what might count before it, nothing, or the call's own entry
abbrev pub Leaves : DiskView → DateLogsView → List Shape → ℤ → List Entry → Option Entry → Entry → Type 0
Leaves disk logs schema first entries late entry =
    Stores disk logs schema first entries late ⊎ (Stores disk logs schema first entries None ⊎ Stores disk logs schema first entries (Some entry))

-- the entry that may count after its call failed and left a journal in this state
abbrev pub left_of : State → Entry → Option Entry
left_of GateFailed entry = Some entry
left_of Clean entry = None
left_of BodyFailed entry = None

-- a repair of the log leaves no update that may count, and one of the manifest no roll
abbrev pub without_update : Option Entry → Option Entry
without_update None = None
without_update (Some (e.Upd by table columns)) = None
without_update (Some (e.Roll by date)) = Some (e.Roll by date)
without_update (Some (e.Fault by)) = None

abbrev pub without_roll : Option Entry → Option Entry
without_roll None = None
without_roll (Some (e.Upd by table columns)) = Some (e.Upd by table columns)
without_roll (Some (e.Roll by date)) = None
without_roll (Some (e.Fault by)) = None
