-- The kinds of numbers.
use Rattle.q_values.specs.Column.{integer_kind, long_kind}
use Rattle.q_values.specs.declared.kind.Kind.{Kind}
use Rattle.q_values.specs.declared.kind.Kind.TheVariants as k
use Rattle.q_text.specs.declared.kinds.NumberKind.{NumberKind}
use Rattle.q_text.specs.declared.kinds.NumberKind.TheVariants as nk

-- the kind of values
abbrev pub kind_of : NumberKind → Kind
kind_of nk.Boolean = k.Boolean
kind_of nk.Byte = k.Byte
kind_of nk.Short = k.Short
kind_of (nk.Integers kind) = integer_kind kind
kind_of (nk.Longs kind) = long_kind kind
