-- The items of a side as the loops read them.
use Rattle.std.specs.Prelude.{ℕ, List, map, replicate}
use Rattle.q_values.specs.Column.{byte_kind, byte_atom, integer_kind, integer_atom, long_kind, long_atom}
use Rattle.q_values.specs.declared.atom.Atom.{Atom}
use Rattle.q_values.specs.declared.atom.Atom.TheVariants as a
use Rattle.q_values.specs.declared.kind.Kind.{Kind}
use Rattle.q_values.specs.declared.kind.Kind.TheVariants as k
use Rattle.q_lanes.specs.declared.lane.Lane.{Lane}
use Rattle.q_lanes.specs.declared.lane.Lane.TheVariants as l
use Rattle.q_lanes.specs.declared.texts.Texts.{Texts}
use Rattle.q_lanes.specs.declared.texts.Texts.TheVariants as t
use Rattle.q_lanes.specs.declared.cells.Cells.{Cells}
use Rattle.q_lanes.specs.declared.cells.Cells.TheVariants as c

-- the items beside n items
abbrev pub lane_items : {T : Type 0} → ℕ → Lane T → List T
lane_items n (l.Each xs) = xs.now
lane_items n (l.Every x) = replicate n x

-- the symbols beside n items
abbrev pub text_items : ℕ → Texts → List (List ℕ)
text_items n (t.Each symbols) = symbols.now
text_items n (t.Every symbol) = replicate n symbol.now

abbrev pub cell_kind : Cells → Kind
cell_kind (c.Booleans xs) = k.Boolean
cell_kind (c.Bytes kind xs) = byte_kind kind
cell_kind (c.Shorts xs) = k.Short
cell_kind (c.Integers kind xs) = integer_kind kind
cell_kind (c.Longs kind xs) = long_kind kind
cell_kind (c.Symbols xs) = k.Symbol

-- the atoms beside n items
abbrev pub cell_atoms : ℕ → Cells → List Atom
cell_atoms n (c.Booleans xs) = map (λ x. a.Boolean x) (lane_items n xs)
cell_atoms n (c.Bytes kind xs) = map (byte_atom kind) (lane_items n xs)
cell_atoms n (c.Shorts xs) = map (λ x. a.Short x) (lane_items n xs)
cell_atoms n (c.Integers kind xs) = map (integer_atom kind) (lane_items n xs)
cell_atoms n (c.Longs kind xs) = map (long_atom kind) (lane_items n xs)
cell_atoms n (c.Symbols xs) = map (λ x. a.Symbol x) (text_items n xs)
