-- A chunk: the payload of a log's record, which is one update.
use Rattle.std.specs.Prelude.{◌≡◌, ◌<◌, ◌≤◌, ℕ, ◌+◌, Bool, false, nat_lt, List, [], ◌∷◌, ◌++◌, length, map, Some, slice_get}
use Rattle.std.specs.List.{AllByRecursion, list_any}
use Rattle.byteorder.specs.Endian.{little_bytes}
use Rattle.q_values.specs.Contents.{Contents}
use Rattle.q_values.specs.Table.{rows_of}
use Rattle.q_values.specs.Tree.{Tree, atom, vector, list, no_items, item, items_of}
use Rattle.q_values.specs.declared.atom.Atom.{Atom}
use Rattle.q_values.specs.declared.atom.Atom.TheVariants as a
use Rattle.q_values.specs.declared.kind.Kind.{Kind}
use Rattle.day_rows.specs.Day.{AreColumns}
use Rattle.day_rows.specs.declared.entry.Entry.{Entry}
use Rattle.day_rows.specs.declared.entry.Entry.TheVariants as e
use Rattle.day_rows.specs.declared.schema.Shape.{Shape}
use Rattle.ipc_codec.specs.Canonical.{IsWritable}
use Rattle.ipc_codec.specs.Written.{written}

-- the word that each update begins with: "upd"
abbrev pub update_word : List ℕ
update_word = 0x75 ∷ 0x70 ∷ 0x64 ∷ []

-- an update as kdb+ sends it: the word, the table's name and its columns (KX, tick.q)
abbrev pub update_tree : List ℕ → List Contents → Tree
update_tree name columns = list (item (atom (a.Symbol update_word)) (item (atom (a.Symbol name)) (item (list (items_of (map vector columns))) no_items)))

-- the number of the pass in eight bytes, the lowest first, and the update in its canonical encoding
abbrev pub chunk_bytes : ℕ → List ℕ → List Contents → List ℕ
chunk_bytes by name columns = little_bytes 8 by ++ written (update_tree name columns)

-- the pass numbers of chunks are below this one
abbrev pub no_pass : ℕ
no_pass = 18446744073709551615

-- the most rows that the chunks of a log have together
abbrev pub most_rows : ℕ
most_rows = 4294967295

-- the most bytes that a chunk has
abbrev pub longest_chunk : ℕ
longest_chunk = 2147483647

-- a symbol of more than 256 bytes
abbrev pub is_long : Atom → Bool
is_long (a.Symbol text) = nat_lt 256 (length text)
is_long _ = false

-- no symbol of a column is that long
abbrev pub HasShortSymbols : Contents → Type 0
HasShortSymbols column = list_any is_long column.atoms ≡ false

-- the columns of an update that a log can hold: of the table's kinds, of one length, without long symbols
pub record AreLoggable (kinds : List Kind) (columns : List Contents) : Type 0 where
  pub fitting : AreColumns kinds columns
  pub symbols : AllByRecursion HasShortSymbols columns

-- the bytes are the chunk of this update, in a log that has `before` rows before it
pub record SpellsChunk (before : ℕ) (bytes : List ℕ) (by : ℕ) (shape : Shape) (columns : List Contents) : Type 0 where
  pub pass : by < no_pass
  pub loggable : AreLoggable shape.kinds columns
  pub writable : AllByRecursion IsWritable columns
  pub rows : before + rows_of columns ≤ most_rows
  pub spelled : bytes ≡ chunk_bytes by shape.table columns

-- the bytes are the chunk of this entry, an update of a table of the schema
abbrev pub IsChunk : List Shape → ℕ → List ℕ → Entry → Type 0
IsChunk schema before bytes (e.Upd by table columns) = (shape : Shape) × (slice_get schema table ≡ Some shape) × SpellsChunk before bytes by shape columns
IsChunk schema before bytes (e.Roll by date) = ⊥
IsChunk schema before bytes (e.Fault by) = ⊥

-- what a log can hold, and how many bytes its chunk has
pub record FitsLog (by : ℕ) (shape : Shape) (columns : List Contents) : Type 0 where
  pub pass : by < no_pass
  pub loggable : AreLoggable shape.kinds columns
  pub short : length (chunk_bytes by shape.table columns) ≤ longest_chunk

-- an update of a table of the schema that a log can hold
abbrev pub IsLoggable : List Shape → Entry → Type 0
IsLoggable schema (e.Upd by table columns) = (shape : Shape) × (slice_get schema table ≡ Some shape) × FitsLog by shape columns
IsLoggable schema (e.Roll by date) = ⊥
IsLoggable schema (e.Fault by) = ⊥
