use Rattle.std.proofs.Common.{Bool, List, map, ap, ◌∙◌}
use Rattle.q_values.specs.Contents.{Contents}
use Rattle.q_values.specs.declared.atom.Atom.{Atom}
use Rattle.q_values.specs.declared.atom.Atom.TheVariants as a
use Rattle.q_values.specs.declared.kind.Kind.TheVariants as k
use Rattle.q_verbs.specs.Numbers.{worth}
use Rattle.q_verbs.specs.Lists.{is_zero}
use Rattle.q_lanes.proofs.MapLemmas.{map-mapped}
use Rattle.q_unary.proofs.one_side.negated_tests.Goals as goal

pub returns : goal.returns
returns c =
    let of_atoms : List Atom → Contents = λ atoms. record { kind = k.Boolean; atoms = atoms } in
    let boolean : Bool → Atom = λ b. a.Boolean b in
    let test : Atom → Bool = λ x. is_zero (worth x).number in
    c.booleans.ensures ∙ ap of_atoms (ap (map boolean) (c.in_ok-values.ensures ∙ ap (λ (v : Contents). map test v.atoms) c.column.ensures) ∙ map-mapped boolean test c.args.x.now.atoms)
