-- An aggregate of what a verb makes of two sides.
use Rattle.std.specs.Prelude.{Bool, true, false, ◌&&◌}
use Rattle.q_values.specs.declared.atom.Atom.{Atom}
use Rattle.q_fused.specs.Results.{results}
use Rattle.q_verbs.specs.Aggregates.{aggregate_of}
use Rattle.q_verbs.specs.Sides.{side_kind}
use Rattle.q_verbs.specs.declared.side.Side.{Side}
use Rattle.q_verbs.specs.declared.verb.Verb.{Verb}
use Rattle.q_verbs.specs.declared.verb.Verb.TheVariants as v
use Rattle.q_verbs.specs.declared.verb.Verb1.{Verb1}
use Rattle.q_verbs.specs.declared.verb.Verb1.TheVariants as u
use Rattle.qsql_values.specs.Values.{kind_with}

-- `min` and `max`
abbrev pub is_extreme : Verb1 → Bool
is_extreme u.Min = true
is_extreme u.Max = true
is_extreme _ = false

-- `+` and `-`
abbrev pub adds : Verb → Bool
adds v.Add = true
adds v.Sub = true
adds _ = false

-- the least or the greatest of sums or differences
abbrev pub is_in_one_loop : Verb1 → Verb → Bool
is_in_one_loop outer inner = is_extreme outer && adds inner

-- the aggregate of the verb's results for two sides, in the kind that the verb's table gives
abbrev pub aggregate_of_sides : Verb1 → Verb → Side → Side → Atom
aggregate_of_sides outer inner left right =
    aggregate_of outer (kind_with inner (side_kind left) (side_kind right)) (results inner (kind_with inner (side_kind left) (side_kind right)) left right)
