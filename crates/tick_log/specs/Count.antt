-- The good chunks of a log's file.
use Rattle.std.specs.Prelude.{◌≡◌, ◌⊎◌, ◌<◌, ◌≤◌, ℕ, true, false, List, length, take, Option, Some, None}
use Rattle.gated_journal.specs.Format.{IsPrefix, before_gate}
use Rattle.day_rows.specs.declared.entry.Entry.{Entry}
use Rattle.day_rows.specs.declared.schema.Shape.{Shape}
use Rattle.tick_log.specs.Replay.{AreChunks, NoChunkAt}
use Rattle.tick_log.specs.declared.count.Valid.{Valid}

-- after the last record: the gate that ends the journal, or the journal's first fault
abbrev pub EndsAt : List (List ℕ) → Option ℕ → Valid → Type 0
EndsAt records None valid = (valid.bytes ≡ length (before_gate records)) × (valid.damaged ≡ false)
EndsAt records (Some at) valid = (valid.bytes ≡ at) × (valid.damaged ≡ true)

-- the first records, this many, are chunks, and the next one, if there is one, is not
abbrev pub CountsChunks : List Shape → List (List ℕ) → ℕ → Type 0
CountsChunks schema records n =
    (n ≤ length records) × (n < length records → NoChunkAt schema records n (length (before_gate (take n records))))
    × (n ≡ length records → (entries : List Entry) × AreChunks schema 0 records entries)

-- a record that is no chunk comes first, or all records are chunks
abbrev pub CountsRecords : List Shape → List (List ℕ) → Option ℕ → Valid → Type 0
CountsRecords schema records fault valid =
    (NoChunkAt schema records valid.chunks valid.bytes × (valid.damaged ≡ true))
    ⊎ ((entries : List Entry) × AreChunks schema 0 records entries × (valid.chunks ≡ length records) × EndsAt records fault valid)

-- the number of chunks of a file before its first fault, the offset of the gate after them, and whether there is a fault
pub record CountsFile (schema : List Shape) (file : List ℕ) (valid : Valid) : Type 0 where
  pub records : List (List ℕ)
  pub fault : Option ℕ
  pub read : IsPrefix file records fault
  pub counted : CountsRecords schema records fault valid
