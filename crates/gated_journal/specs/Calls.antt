-- The calls of a disk that a journal makes.
use Rattle.std.specs.Prelude.{◌⊎◌, ℕ, ◌+◌, IsTrue, List, [], ◌∷◌, Result, Ok, Err}
use Rattle.outside_api.specs.Disk.{DiskView}
use Rattle.outside_api.specs.Calls.{DiskCall, writes, cuts, syncs, sizes, reads, AllDone, FailsIn}
use Rattle.outside_api.specs.declared.disk.DiskFault.{DiskFault}
use Rattle.gated_journal.specs.Format.{open_gate, closed_gate}
use Rattle.gated_journal.specs.Journal.{JournalView, body, fresh_bytes}
use Rattle.gated_journal.specs.declared.state.State.{State}
use Rattle.gated_journal.specs.declared.state.State.TheVariants.{Clean, BodyFailed, GateFailed}
use Rattle.gated_journal.specs.declared.refusal.JournalRefusal.{JournalRefusal}
use Rattle.gated_journal.specs.declared.refusal.JournalRefusal.TheVariants as loading
use Rattle.gated_journal.specs.declared.refusal.ReadRefusal.{ReadRefusal}
use Rattle.gated_journal.specs.declared.refusal.ReadRefusal.TheVariants as reading

-- a record is written after the last gate, and synced
abbrev pub record_calls : ℕ → List ℕ → List DiskCall
record_calls end bytes = writes (end + 1) bytes ∷ syncs ∷ []

-- the last gate is written, and synced
abbrev pub gate_calls : ℕ → ℕ → List DiskCall
gate_calls end gate = writes end (gate ∷ []) ∷ syncs ∷ []

-- an append: the record with a closed gate at its end, a sync, the gate before it opened, a sync
abbrev pub append_calls : ℕ → List ℕ → List DiskCall
append_calls end payload = writes (end + 1) (body payload) ∷ syncs ∷ writes end (open_gate ∷ []) ∷ syncs ∷ []

-- a repair: where the last gate may be open it is closed again
abbrev pub mend_calls : State → ℕ → List DiskCall
mend_calls GateFailed end = gate_calls end closed_gate
mend_calls Clean end = syncs ∷ []
mend_calls BodyFailed end = syncs ∷ []

abbrev pub fresh_calls : List DiskCall
fresh_calls = cuts 0 ∷ writes 0 fresh_bytes ∷ syncs ∷ []

abbrev pub read_calls : List DiskCall
read_calls = sizes ∷ reads ∷ []

abbrev pub load_calls : List DiskCall
load_calls = syncs ∷ read_calls

-- the calls that an append makes, and the state in which they leave the journal: a fault in the first two leaves the gate
-- closed, and one in the last two leaves it open or closed
abbrev pub AppendMakes : {T : Type 0} → DiskView → DiskView → JournalView → List ℕ → State → Result T DiskFault → Type 0
AppendMakes old new journal payload state (Ok _) = IsTrue old.tells → AllDone journal.file (append_calls journal.end payload) old new
AppendMakes old new journal payload Clean (Err _) = ⊥
AppendMakes old new journal payload BodyFailed (Err _) = IsTrue old.tells → FailsIn journal.file (record_calls journal.end (body payload)) old new
AppendMakes old new journal payload GateFailed (Err _) = IsTrue old.tells
    → (mid : DiskView) × AllDone journal.file (record_calls journal.end (body payload)) old mid
    × FailsIn journal.file (gate_calls journal.end open_gate) mid new

-- the calls that a reading of a file makes; one that is out of memory may end before the read
abbrev pub ReadMakes : {T : Type 0} → DiskView → DiskView → ℕ → Result T ReadRefusal → Type 0
ReadMakes old new file (Ok _) = IsTrue old.tells → AllDone file read_calls old new
ReadMakes old new file (Err reading.DiskFault) = IsTrue old.tells → FailsIn file read_calls old new
ReadMakes old new file (Err reading.NoMemory) = IsTrue old.tells → AllDone file (sizes ∷ []) old new ⊎ AllDone file read_calls old new

-- the same of a load, which syncs first, also where the file is corrupt
abbrev pub LoadMakes : {T : Type 0} → DiskView → DiskView → ℕ → Result T JournalRefusal → Type 0
LoadMakes old new file (Ok _) = IsTrue old.tells → AllDone file load_calls old new
LoadMakes old new file (Err loading.DiskFault) = IsTrue old.tells → FailsIn file load_calls old new
LoadMakes old new file (Err (loading.Corrupt records bytes)) = IsTrue old.tells → AllDone file load_calls old new
LoadMakes old new file (Err loading.NoMemory) = IsTrue old.tells → AllDone file (syncs ∷ sizes ∷ []) old new ⊎ AllDone file load_calls old new
