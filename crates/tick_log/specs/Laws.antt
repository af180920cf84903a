-- A log is read in one way.
use Rattle.std.specs.Prelude.{◌≡◌, ℕ, List}
use Rattle.day_rows.specs.Schema.{IsSchema}
use Rattle.day_rows.specs.declared.entry.Entry.{Entry}
use Rattle.day_rows.specs.declared.schema.Shape.{Shape}
use Rattle.tick_log.specs.Chunk.{IsChunk}
use Rattle.tick_log.specs.Replay.{AreChunks, NoChunkAt}

-- bytes are the chunk of one entry at most
abbrev pub OneEntry : Type 0
OneEntry =
    (schema : List Shape) (before : ℕ) (bytes : List ℕ) (x y : Entry) → IsSchema schema → IsChunk schema before bytes x
    → IsChunk schema before bytes y → x ≡ y

-- records are the chunks of one list of entries at most
abbrev pub OneReplay : Type 0
OneReplay =
    (schema : List Shape) (before : ℕ) (records : List (List ℕ)) (xs ys : List Entry) → IsSchema schema → AreChunks schema before records xs
    → AreChunks schema before records ys → xs ≡ ys

-- records that are chunks have none that is no chunk
abbrev pub NeverBoth : Type 0
NeverBoth =
    (schema : List Shape) (records : List (List ℕ)) (entries : List Entry) (chunks at : ℕ) → IsSchema schema → AreChunks schema 0 records entries
    → NoChunkAt schema records chunks at → ⊥
