-- The sides of a verb: a column, or an atom that stands for each item beside it.
use Rattle.std.specs.Prelude.{◌≡◌, ℕ, List, length, replicate}
use Rattle.q_values.specs.Atom.{kind_of}
use Rattle.q_values.specs.declared.atom.Atom.{Atom}
use Rattle.q_values.specs.declared.kind.Kind.{Kind}
use Rattle.q_verbs.specs.declared.side.Side.{Side}
use Rattle.q_verbs.specs.declared.side.Side.TheVariants as s

abbrev pub side_kind : Side → Kind
side_kind (s.Column items) = items.now.kind
side_kind (s.Atom x) = kind_of x.now

-- the number of items that two sides have together: those of a column, or 1 of two atoms
abbrev pub rows : Side → Side → ℕ
rows (s.Column items) right = length items.now.atoms
rows (s.Atom x) (s.Column items) = length items.now.atoms
rows (s.Atom x) (s.Atom y) = 1

-- the items of a side beside n items: an atom stands for each
abbrev pub spread : ℕ → Side → List Atom
spread n (s.Column items) = items.now.atoms
spread n (s.Atom x) = replicate n x.now

-- the items of a side on its own: an atom is one
abbrev pub items_of : Side → List Atom
items_of side = spread 1 side

-- two columns have one length
abbrev pub AreBeside : Side → Side → Type 0
AreBeside (s.Column items) (s.Column others) = length items.now.atoms ≡ length others.now.atoms
AreBeside left right = Unit {0}
