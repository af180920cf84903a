-- A log's records, read as the entries of their chunks.
use Rattle.std.specs.Prelude.{◌≡◌, ◌<◌, ℕ, ◌+◌, max, List, [], ◌∷◌, length, take, Some, slice_get, Result, Ok, Err, ⊤}
use Rattle.gated_journal.specs.Format.{before_gate}
use Rattle.day_rows.specs.Day.{entry_rows, total_rows}
use Rattle.day_rows.specs.declared.entry.Entry.{Entry}
use Rattle.day_rows.specs.declared.entry.Entry.TheVariants as e
use Rattle.day_rows.specs.declared.schema.Shape.{Shape}
use Rattle.tick_log.specs.Chunk.{IsChunk, no_pass}
use Rattle.tick_log.specs.declared.day.Replayed.{Replayed}
use Rattle.tick_log.specs.declared.refusal.ReplayRefusal.{ReplayRefusal}
use Rattle.tick_log.specs.declared.refusal.ReplayRefusal.TheVariants.{Corrupt, NoMemory}

-- the payloads are the chunks of these entries, in order, in a log that has `before` rows before them
abbrev pub AreChunks : List Shape → ℕ → List (List ℕ) → List Entry → Type 0
AreChunks schema before [] [] = Unit {0}
AreChunks schema before [] (entry ∷ entries) = ⊥
AreChunks schema before (payload ∷ payloads) [] = ⊥
AreChunks schema before (payload ∷ payloads) (entry ∷ entries) =
    IsChunk schema before payload entry × AreChunks schema (before + entry_rows entry) payloads entries

-- the record after this many chunks is no chunk, and the gate before it is at this offset
pub record NoChunkAt (schema : List Shape) (records : List (List ℕ)) (chunks at : ℕ) : Type 0 where
  pub entries : List Entry
  pub payload : List ℕ
  pub good : AreChunks schema 0 (take chunks records) entries
  pub here : slice_get records chunks ≡ Some payload
  pub bad : (entry : Entry) → IsChunk schema (total_rows entries) payload entry → ⊥
  pub gate : at ≡ length (before_gate (take chunks records))

-- where the answer is `Corrupt`, this holds of its two numbers
abbrev pub IfCorrupt : {T : Type 0} → Result T ReplayRefusal → (ℕ → ℕ → Type 0) → Type 0
IfCorrupt (Ok x) P = ⊤
IfCorrupt (Err (Corrupt chunks bytes)) P = P chunks bytes
IfCorrupt (Err NoMemory) P = ⊤

-- the number of the pass that made an entry
abbrev pub by_of : Entry → ℕ
by_of (e.Upd by table columns) = by
by_of (e.Roll by date) = by
by_of (e.Fault by) = by

-- the greatest pass number of the entries, 0 where there are none
abbrev pub top_by : List Entry → ℕ
top_by [] = 0
top_by (entry ∷ entries) = max (by_of entry) (top_by entries)

-- the number of these updates and of their rows, and the greatest of their pass numbers, which is that of a pass
pub record AreCounts (updates : List Entry) (counts : Replayed) : Type 0 where
  pub number : counts.updates ≡ length updates
  pub rows : counts.rows ≡ total_rows updates
  pub greatest : counts.top_by ≡ top_by updates
  pub below : counts.top_by < no_pass
