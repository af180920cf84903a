-- Atoms as columns store them.
use Rattle.q_values.specs.Bytes.{HasNoNul}
use Rattle.q_values.specs.Column.{byte_kind, byte_atom, integer_kind, integer_atom, long_kind, long_atom}
use Rattle.q_values.specs.declared.atom.Atom.{Atom}
use Rattle.q_values.specs.declared.atom.Atom.TheVariants as a
use Rattle.q_values.specs.declared.atom.Element.{Element}
use Rattle.q_values.specs.declared.atom.Element.TheVariants as e
use Rattle.q_values.specs.declared.kind.Kind.{Kind}
use Rattle.q_values.specs.declared.kind.Kind.TheVariants as k

-- the atom that is stored so
abbrev pub element_atom : Element → Atom
element_atom (e.Boolean x) = a.Boolean x
element_atom (e.Byte kind x) = byte_atom kind x
element_atom (e.Short x) = a.Short x.now
element_atom (e.Integer kind x) = integer_atom kind x.now
element_atom (e.Long kind x) = long_atom kind x.now
element_atom (e.Symbol bytes) = a.Symbol bytes.now

-- its kind
abbrev pub element_kind : Element → Kind
element_kind (e.Boolean x) = k.Boolean
element_kind (e.Byte kind x) = byte_kind kind
element_kind (e.Short x) = k.Short
element_kind (e.Integer kind x) = integer_kind kind
element_kind (e.Long kind x) = long_kind kind
element_kind (e.Symbol bytes) = k.Symbol

-- if it is a symbol, none of its bytes is 0
abbrev pub HasNoNulInText : Element → Type 0
HasNoNulInText (e.Symbol bytes) = HasNoNul bytes.now
HasNoNulInText element = Unit {0}
