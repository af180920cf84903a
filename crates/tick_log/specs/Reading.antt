-- The parts of a chunk, as they are read one after another.
use Rattle.std.specs.Prelude.{◌≡◌, ◌<◌, ℕ, List, [], ◌∷◌, ◌++◌, length, Result, Ok, Err, ⊤}
use Rattle.std.specs.List.{AllByRecursion, flat_map}
use Rattle.byteorder.specs.Endian.{little_bytes}
use Rattle.q_values.specs.Contents.{Contents}
use Rattle.q_values.specs.declared.kind.Kind.{Kind}
use Rattle.ipc_codec.specs.Canonical.{IsWritable}
use Rattle.ipc_codec.specs.Written.{head, vector_bytes}
use Rattle.tick_log.specs.Chunk.{update_word, no_pass, AreLoggable}
use Rattle.tick_log.specs.declared.refusal.ChunkFault.{ChunkFault}
use Rattle.tick_log.specs.declared.refusal.ChunkFault.TheVariants.{NoChunk, NoMemory}

-- where the answer is that the bytes are no chunk, this holds
abbrev pub IfNoChunk : {T : Type 0} → Result T ChunkFault → Type 0 → Type 0
IfNoChunk (Ok x) P = ⊤
IfNoChunk (Err NoChunk) P = P
IfNoChunk (Err NoMemory) P = ⊤

-- the bytes begin with the number of a pass
pub record BeginsWithPass (bytes : List ℕ) (by : ℕ) (rest : List ℕ) : Type 0 where
  pub pass : by < no_pass
  pub split : bytes ≡ little_bytes 8 by ++ rest

-- what comes before a table's name: the head of a list of three, the word, and the type of a symbol
abbrev pub opening : List ℕ
opening = head 0 3 ++ 245 ∷ update_word ++ 0 ∷ 245 ∷ []

-- the bytes begin an update of a table of this name
abbrev pub BeginsWithTable : List ℕ → List ℕ → List ℕ → Type 0
BeginsWithTable bytes name rest = bytes ≡ opening ++ (name ++ 0 ∷ rest)

-- the bytes are vectors, each in its canonical encoding, and nothing else
pub record AreVectors (count : ℕ) (bytes : List ℕ) (columns : List Contents) : Type 0 where
  pub counted : length columns ≡ count
  pub writable : AllByRecursion IsWritable columns
  pub spelled : bytes ≡ flat_map vector_bytes columns

-- the bytes are the general list of these columns, which a log can hold
pub record AreLogged (kinds : List Kind) (bytes : List ℕ) (columns : List Contents) : Type 0 where
  pub loggable : AreLoggable kinds columns
  pub writable : AllByRecursion IsWritable columns
  pub spelled : bytes ≡ head 0 (length kinds) ++ flat_map vector_bytes columns
