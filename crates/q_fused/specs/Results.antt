-- The results of a verb for two sides.
use Rattle.std.specs.Prelude.{List}
use Rattle.std.specs.Simd.Lanes.{zip2}
use Rattle.q_values.specs.declared.atom.Atom.{Atom}
use Rattle.q_values.specs.declared.kind.Kind.{Kind}
use Rattle.q_verbs.specs.declared.side.Side.{Side}
use Rattle.q_verbs.specs.declared.verb.Verb.{Verb}
use Rattle.q_verbs.specs.Places.{value_of}
use Rattle.q_verbs.specs.Sides.{side_kind, rows, spread}

-- the verb's results in this kind, item by item, where an atom stands for each item beside it
abbrev pub results : Verb → Kind → Side → Side → List Atom
results verb kind left right =
    zip2 (value_of verb (side_kind left) (side_kind right) kind) (spread (rows left right) left) (spread (rows left right) right)
