use Rattle.std.proofs.Common.{◌≡◌, List, map, ap, ◌∙◌}
use Rattle.q_values.specs.Contents.{Contents}
use Rattle.q_values.specs.declared.atom.Atom.{Atom}
use Rattle.q_lanes.specs.Lanes.{lane_items}
use Rattle.q_verbs.specs.Numbers.{worth}
use Rattle.q_lanes.specs.Loops.{worth_in_64}
use Rattle.q_verbs.specs.Sides.{side_kind, spread}
use Rattle.q_binary.proofs.WrittenLemmas.{values-given}
use Rattle.q_binary.proofs.arithmetic.arithmetic_in_64.Goals as goal

pub returns : goal.returns
returns c =
    let n = c.args.count in
    let of_atoms : List Atom → Contents = λ atoms. record { kind = c.args.kind; atoms = atoms } in
    let left : map worth_in_64 (lane_items n c.lane.result) ≡ map worth (spread n c.args.left.now) = ap (map worth_in_64) (c.lane.ensures n) ∙ c.in_ok-some.ensures n in
    let right : map worth_in_64 (lane_items n c.lane-2.result) ≡ map worth (spread n c.args.right.now) = ap (map worth_in_64) (c.lane-2.ensures n) ∙ c.in_ok-others.ensures n in
    c.in_ok-column.ensures ∙ ap of_atoms (values-given worth_in_64 c.args.kind c.kind.result c.kind-2.result (side_kind c.args.left.now) (side_kind c.args.right.now) c.args.verb (lane_items n c.lane.result) (lane_items n c.lane-2.result) (spread n c.args.left.now) (spread n c.args.right.now) c.kind.ensures c.kind-2.ensures left right)
