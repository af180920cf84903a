-- What a manifest and its file say of each other.
use Rattle.std.specs.Prelude.{◌≡◌, ◌⊎◌, ℕ, IsTrue, List, [], ◌∷◌, ◌++◌, length, Option, Result, Ok, Err, ⊤}
use Rattle.outside_api.specs.Counts.{counted}
use Rattle.outside_api.specs.Disk.{DiskView}
use Rattle.gated_journal.specs.Format.{Reads, IsCorrupt, before_gate}
use Rattle.gated_journal.specs.Journal.{JournalView, Holds}
use Rattle.partition_set.specs.Records.{payload_of, payloads_of, IsManifest}
use Rattle.partition_set.specs.declared.record.ManifestRecord.{ManifestRecord}
use Rattle.partition_set.specs.declared.refusal.ManifestRefusal.{ManifestRefusal}
use Rattle.partition_set.specs.declared.refusal.ManifestRefusal.TheVariants as r

-- what a manifest is seen as: its journal, its records, and how many more it has room for
pub record ManifestView : Type 0 where
  pub journal : JournalView
  pub records : List ManifestRecord
  pub room : ℕ

-- where the disk reports, the manifest's file holds its records; the payload of one that failed may count too, until it is
-- repaired
abbrev pub Keeps : DiskView → ManifestView → Option (List ℕ) → Type 0
Keeps disk manifest late = IsTrue disk.tells → Holds manifest.journal (disk.now manifest.journal.file) (payloads_of manifest.records) late

-- some records of a manifest are followed by a payload of none that may come next, and the gate before it has this offset
pub record BadAmong (payloads : List (List ℕ)) (at : ℕ) : Type 0 where
  pub records : List ManifestRecord
  pub payload : List ℕ
  pub rest : List (List ℕ)
  pub lawful : IsManifest records
  pub split : payloads ≡ payloads_of records ++ payload ∷ rest
  pub bad : (next : ManifestRecord) → payload ≡ payload_of next → IsManifest (records ++ next ∷ []) → ⊥
  pub place : at ≡ length (before_gate (payloads_of records))

-- a file that is no manifest from this offset on
abbrev pub IsDamaged : List ℕ → ℕ → Type 0
IsDamaged file at = ((count : ℕ) × IsCorrupt file count at) ⊎ ((payloads : List (List ℕ)) × Reads file payloads × BadAmong payloads at)

-- where the answer is `BadManifest`, this holds of its offset
abbrev pub IfBad : {T : Type 0} → Result T ManifestRefusal → (ℕ → Type 0) → Type 0
IfBad (Ok _) P = ⊤
IfBad (Err (r.BadManifest at)) P = P at
IfBad (Err r.DiskFault) P = ⊤
IfBad (Err r.NoMemory) P = ⊤

-- a fault of the disk is counted, and comes only then
abbrev pub Counts : {T : Type 0} → DiskView → DiskView → Result T ManifestRefusal → Type 0
Counts old new (Ok _) = (new.faults ≡ old.faults) × (new.tells ≡ old.tells)
Counts old new (Err (r.BadManifest at)) = (new.faults ≡ old.faults) × (new.tells ≡ old.tells)
Counts old new (Err r.DiskFault) = (new.faults ≡ counted old.faults 1) × (new.tells ≡ old.tells)
Counts old new (Err r.NoMemory) = (new.faults ≡ old.faults) × (new.tells ≡ old.tells)
