use Rattle.std.proofs.Common.{Bool, List, map, ap, ◌∙◌}
use Rattle.q_values.specs.Contents.{Contents}
use Rattle.q_values.specs.declared.atom.Atom.{Atom}
use Rattle.q_values.specs.declared.atom.Atom.TheVariants as a
use Rattle.q_values.specs.declared.kind.Kind.TheVariants as k
use Rattle.q_verbs.specs.Numbers.{worth, worth_cmp}
use Rattle.q_verbs.specs.Sides.{spread}
use Rattle.q_lanes.proofs.ZipLemmas.{map-zip2}
use Rattle.q_binary.proofs.comparison.compare.Goals as goal

pub returns : goal.returns
returns g c =
    let of_atoms : List Atom → Contents = λ atoms. record { kind = k.Boolean; atoms = atoms } in
    let boolean : Bool → Atom = λ b. a.Boolean b in
    let relates : Atom → Atom → Bool = λ x y. g.P.Relation.relates (worth_cmp (worth x) (worth y)) in
    c.booleans.ensures ∙ ap of_atoms (ap (map boolean) c.in_ok-values.ensures ∙ map-zip2 boolean relates (spread c.args.count c.args.left.now) (spread c.args.count c.args.right.now))
