-- The records of a manifest: how each is encoded as the payload of a journal's record, and which lists of them are allowed.
use Rattle.std.specs.Prelude.{◌≡◌, ◌<◌, ◌-◌, ◌<ℤ◌, ◌≤ℤ◌, ◌^◌, pos, negsuc, ℕ, List, [], ◌∷◌, ◌++◌, length, map, drop}
use Rattle.std.specs.List.{AllByRecursion}
use Rattle.std.specs.Int.{w32, w64, to_le_bytes, cast_unsigned}
use Rattle.std.specs.declared.cmp.Ordering.TheVariants.{Less}
use Rattle.q_values.specs.Contents.{Contents}
use Rattle.q_values.specs.Kind.{type_number}
use Rattle.q_values.specs.Tree.{Tree, atom, vector, list, items_of}
use Rattle.q_values.specs.declared.atom.Atom.TheVariants as a
use Rattle.q_values.specs.declared.kind.Kind.{Kind}
use Rattle.q_values.specs.declared.kind.Kind.TheVariants as k
use Rattle.ipc_codec.specs.Written.{written}
use Rattle.day_rows.specs.Schema.{IsShape, by_name}
use Rattle.day_rows.specs.Sorted.{IsAscending}
use Rattle.day_rows.specs.declared.schema.Shape.{Shape}
use Rattle.partition_set.specs.declared.record.ManifestRecord.{ManifestRecord}
use Rattle.partition_set.specs.declared.record.ManifestRecord.TheVariants as m

-- a vector of symbols
abbrev pub symbols : List (List ℕ) → Contents
symbols names = record { kind = k.Symbol; atoms = map a.Symbol names }

-- the types of columns, as a vector of bytes
abbrev pub types : List Kind → Contents
types kinds = record { kind = k.Byte; atoms = map a.Byte (map type_number kinds) }

-- a table as a kdb+ value: the list of its name, the names of its columns and their types
abbrev pub shape_parts : Shape → List Tree
shape_parts shape = atom (a.Symbol shape.table) ∷ vector (symbols shape.names) ∷ vector (types shape.kinds) ∷ []

abbrev pub shape_tree : Shape → Tree
shape_tree shape = list (items_of (shape_parts shape))

-- a record's payload: the byte 1 and the canonical encoding of the table, or the byte 2, the pass number in eight bytes and
-- the date in four, the lowest first
abbrev pub payload_of : ManifestRecord → List ℕ
payload_of (m.Shape shape) = 1 ∷ written (shape_tree shape)
payload_of (m.Opened by date) = 2 ∷ to_le_bytes w64 by ++ to_le_bytes w32 (cast_unsigned w32 date)

abbrev pub payloads_of : List ManifestRecord → List (List ℕ)
payloads_of records = map payload_of records

-- a record that is allowed by itself: a table of a schema, or a date that a plant may have, by a pass that has a number
abbrev pub IsRecord : ManifestRecord → Type 0
IsRecord (m.Shape shape) = IsShape shape
IsRecord (m.Opened by date) = (by < 2 ^ 64 - 1) × (negsuc 106751 ≤ℤ date) × (date ≤ℤ pos 106751)

-- the second record may stand after the first: tables come first, ascending by name, and dates ascend
abbrev pub MayFollow : ManifestRecord → ManifestRecord → Type 0
MayFollow (m.Shape one) (m.Shape other) = by_name one other ≡ Less
MayFollow (m.Shape one) (m.Opened by date) = Unit {0}
MayFollow (m.Opened by date) (m.Shape other) = ⊥
MayFollow (m.Opened by date) (m.Opened by' date') = date <ℤ date'

abbrev pub IsOpened : ManifestRecord → Type 0
IsOpened (m.Shape shape) = ⊥
IsOpened (m.Opened by date) = Unit {0}

-- where a record is a table, fewer than 64 records come before it
abbrev pub HasRoom : List ManifestRecord → ManifestRecord → Type 0
HasRoom records (m.Shape shape) = length records < 64
HasRoom records (m.Opened by date) = Unit {0}

-- the records of a manifest; tables come first, so there are at most 64 where no record after the 64th is one
pub record IsManifest (records : List ManifestRecord) : Type 0 where
  pub each : AllByRecursion IsRecord records
  pub in_order : IsAscending MayFollow records
  pub few_tables : AllByRecursion IsOpened (drop 64 records)
