-- What a journal and its file say of each other.
use Rattle.std.specs.Prelude.{◌≡◌, ◌≢◌, ◌⊎◌, ◌<◌, ◌≤◌, ℕ, ◌+◌, IsTrue, List, [], ◌∷◌, ◌++◌, length, take, Option, Some, None}
use Rattle.std.specs.List.{AllByRecursion}
use Rattle.outside_api.specs.Disk.{FileState, IsImage, IsDurableAt, IsWithin, DiskView, put}
use Rattle.gated_journal.specs.Format.{Reads, IsPayload, before_gate, measured, open_gate, closed_gate}
use Rattle.gated_journal.specs.declared.state.State.{State}
use Rattle.gated_journal.specs.declared.state.State.TheVariants.{Clean, BodyFailed, GateFailed}

-- what a journal is seen as: its file's number, the offset of the last gate, and how its last call ended
pub record JournalView : Type 0 where
  pub file : ℕ
  pub end : ℕ
  pub state : State

-- what an append writes after the last gate: the record, and a closed gate
abbrev pub body : List ℕ → List ℕ
body payload = measured payload ++ closed_gate ∷ []

-- each offset from one to another is durable
abbrev pub IsDurableIn : FileState → ℕ → ℕ → Type 0
IsDurableIn file from to = (k : ℕ) → from ≤ k → k < to → IsDurableAt k file.ranges

-- the last gate isn't open, in any image
pub record IsShut (file : FileState) (front : List ℕ) (end : ℕ) : Type 0 where
  pub gate : ℕ
  pub shut : gate ≢ open_gate
  pub bytes : take (end + 1) file.bytes ≡ front ++ gate ∷ []
  pub long : end + 1 ≤ file.least
  pub durable : IsDurableIn file 0 (end + 1)

-- the last gate may be open in an image, and in each image a whole record follows it
pub record IsAjar (file : FileState) (front : List ℕ) (end : ℕ) (following : List ℕ) : Type 0 where
  pub gate : ℕ
  pub rest : List ℕ
  pub bytes : file.bytes ≡ front ++ gate ∷ (following ++ rest)
  pub long : end + 1 + length following ≤ file.least
  pub before : IsDurableIn file 0 end
  pub after : IsDurableIn file (end + 1) (end + 1 + length following)

-- the state of the file, and which payload may count beside the records
abbrev pub Stands : State → FileState → List ℕ → ℕ → Option (List ℕ) → Type 0
Stands Clean file front end None = IsShut file front end
Stands Clean file front end (Some payload) = ⊥
Stands BodyFailed file front end None = IsShut file front end
Stands BodyFailed file front end (Some payload) = ⊥
Stands GateFailed file front end None = ⊥
Stands GateFailed file front end (Some payload) = IsPayload payload × IsAjar file front end (body payload)

-- the file holds these records, or these and the late one
abbrev pub MayRead : List (List ℕ) → Option (List ℕ) → List ℕ → Type 0
MayRead records None image = Reads image records
MayRead records (Some payload) image = Reads image records ⊎ Reads image (records ++ payload ∷ [])

-- the journal's file holds these records; a payload whose append failed at its gate may count too, until it is repaired
pub record Holds (journal : JournalView) (file : FileState) (records : List (List ℕ)) (late : Option (List ℕ)) : Type 0 where
  pub end : journal.end ≡ length (before_gate records)
  pub sized : AllByRecursion IsPayload records
  pub stands : Stands journal.state file (before_gate records) journal.end late
  pub reads : MayRead records late file.bytes
  pub images : (image : List ℕ) → IsImage file image → MayRead records late image

-- the same of the journal's file on a disk, where the disk reports
abbrev pub Keeps : DiskView → JournalView → List (List ℕ) → Option (List ℕ) → Type 0
Keeps disk journal records late = IsTrue disk.tells → Holds journal (disk.now journal.file) records late

-- where the disk reports, the journal's file, as reads give it, reaches beyond the offset of the last gate
abbrev pub HasLastGate : DiskView → JournalView → Type 0
HasLastGate disk journal = IsWithin disk journal.file journal.end 1

-- the payload that may count after an append that failed
abbrev pub late_of : State → List ℕ → Option (List ℕ)
late_of GateFailed payload = Some payload
late_of Clean payload = None
late_of BodyFailed payload = None

-- the bytes after an append: the record after the last gate, and then that gate opened
abbrev pub appended : List ℕ → ℕ → List ℕ → List ℕ
appended bytes end payload = put (put bytes (end + 1) (body payload)) end (open_gate ∷ [])

-- the bytes after a repair: the last gate is closed again where it may be open
abbrev pub mended : State → List ℕ → ℕ → List ℕ
mended GateFailed bytes end = put bytes end (closed_gate ∷ [])
mended Clean bytes end = bytes
mended BodyFailed bytes end = bytes

-- the bytes of an empty journal
abbrev pub fresh_bytes : List ℕ
fresh_bytes = before_gate [] ++ closed_gate ∷ []
