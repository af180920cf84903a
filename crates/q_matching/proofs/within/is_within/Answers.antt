use Rattle.std.proofs.Common.{Bool, List, map, ap, ◌∙◌}
use Rattle.q_values.specs.Contents.{Contents}
use Rattle.q_values.specs.declared.atom.Atom.{Atom}
use Rattle.q_values.specs.declared.atom.Atom.TheVariants as a
use Rattle.q_values.specs.declared.kind.Kind.TheVariants as k
use Rattle.q_verbs.specs.Numbers.{worth}
use Rattle.q_verbs.specs.Sides.{items_of}
use Rattle.q_verbs.specs.Tests.{lies_within}
use Rattle.q_lanes.proofs.MapLemmas.{map-mapped}
use Rattle.q_matching.proofs.within.is_within.Goals as goal

pub returns : goal.returns
returns c =
    let of_atoms : List Atom → Contents = λ atoms. record { kind = k.Boolean; atoms = atoms } in
    let boolean : Bool → Atom = λ b. a.Boolean b in
    let test : Atom → Bool = λ x. lies_within (worth c.args.low.now) (worth c.args.high.now) (worth x) in
    c.booleans.ensures ∙ ap of_atoms (ap (map boolean) c.in_ok-values.ensures ∙ map-mapped boolean test (items_of c.args.left.now))
