-- Kinds: their type numbers (KX, Datatypes reference), and how their atoms are stored.
use Rattle.std.specs.Prelude.{ℕ, List, [], ◌∷◌, Option, Some, None, if◌then◌else◌, ◌==◌, Bool}
use Rattle.q_values.specs.declared.kind.Kind.{Kind}
use Rattle.q_values.specs.declared.kind.Kind.TheVariants as k
use Rattle.q_values.specs.declared.kind.ByteKind.TheVariants as b
use Rattle.q_values.specs.declared.kind.IntegerKind.TheVariants as i
use Rattle.q_values.specs.declared.kind.LongKind.TheVariants as l
use Rattle.q_values.specs.declared.kind.Storage.{Storage}
use Rattle.q_values.specs.declared.kind.Storage.TheVariants as s
use Rattle.q_values.specs.Column.{byte_kind, integer_kind, long_kind}

-- the type number of a kind's vectors
abbrev pub type_number : Kind → ℕ
type_number k.Boolean = 1
type_number k.Byte = 4
type_number k.Short = 5
type_number k.Integer = 6
type_number k.Long = 7
type_number k.Character = 10
type_number k.Symbol = 11
type_number k.Timestamp = 12
type_number k.Month = 13
type_number k.Date = 14
type_number k.Timespan = 16
type_number k.Minute = 17
type_number k.Second = 18
type_number k.Time = 19

-- every kind, by its type number
abbrev pub kinds : List Kind
kinds =
    k.Boolean ∷ k.Byte ∷ k.Short ∷ k.Integer ∷ k.Long ∷ k.Character ∷ k.Symbol ∷ k.Timestamp ∷ k.Month ∷ k.Date ∷ k.Timespan ∷
    k.Minute ∷ k.Second ∷ k.Time ∷ []

-- the first of these kinds that has the type number
abbrev pub kind_among : List Kind → ℕ → Option Kind
kind_among [] n = None
kind_among (kind ∷ others) n = if n == type_number kind then Some kind else kind_among others n

-- the kind whose vectors have this type number
abbrev pub kind_at : ℕ → Option Kind
kind_at = kind_among kinds

-- whether two kinds are one
abbrev pub is : Kind → Kind → Bool
is x y = type_number x == type_number y

-- how atoms of a kind are stored
abbrev pub storage_of : Kind → Storage
storage_of k.Boolean = s.Boolean
storage_of k.Byte = s.Byte b.Byte
storage_of k.Short = s.Short
storage_of k.Integer = s.Integer i.Integer
storage_of k.Long = s.Long l.Long
storage_of k.Character = s.Byte b.Character
storage_of k.Symbol = s.Symbol
storage_of k.Timestamp = s.Long l.Timestamp
storage_of k.Month = s.Integer i.Month
storage_of k.Date = s.Integer i.Date
storage_of k.Timespan = s.Long l.Timespan
storage_of k.Minute = s.Integer i.Minute
storage_of k.Second = s.Integer i.Second
storage_of k.Time = s.Integer i.Time

-- the kind of what is stored so
abbrev pub storage_kind : Storage → Kind
storage_kind s.Boolean = k.Boolean
storage_kind (s.Byte kind) = byte_kind kind
storage_kind s.Short = k.Short
storage_kind (s.Integer kind) = integer_kind kind
storage_kind (s.Long kind) = long_kind kind
storage_kind s.Symbol = k.Symbol

-- the number of bytes of what is stored so; a symbol's varies
abbrev pub storage_width : Storage → ℕ
storage_width s.Boolean = 1
storage_width (s.Byte kind) = 1
storage_width s.Short = 2
storage_width (s.Integer kind) = 4
storage_width (s.Long kind) = 8
storage_width s.Symbol = 0

-- the number of bytes of a kind's atoms; a symbol's varies
abbrev pub width : Kind → ℕ
width kind = storage_width (storage_of kind)
