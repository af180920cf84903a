use Rattle.std.proofs.Common.{rules, FitsSigned, ap, ◌∙◌}
use Rattle.std.specs.Int.{w64}
use Rattle.std.proofs.lemmas.Int.{to_z-of_z}
use Rattle.q_values.specs.Column.{long_atom}
use Rattle.q_lanes.specs.Lanes.{lane_items}
use Rattle.q_fused.proofs.FusedLemmas.{least_sum, least_difference, greatest_sum, greatest_difference}
use Rattle.q_fused.proofs.lanes.extreme_of_longs.Goals as goal

pub returns-in-Min-Add : goal.returns-in-Min-Add
returns-in-Min-Add c =
    let best = c.picked_of_lanes.result in
    let fits : FitsSigned w64 best = search rules in
    λ own left right. rw (c.in-Min-Add.is-0, c.in-Min-Add.is-1)
    (ap (long_atom own) (to_z-of_z w64 best fits)
    ∙ least_sum own left right (lane_items c.args.count c.args.left.now) (lane_items c.args.count c.args.right.now) best c.picked_of_lanes.ensures)

pub returns-in-Min-Sub : goal.returns-in-Min-Sub
returns-in-Min-Sub c =
    let best = c.picked_of_lanes-in-Min-Sub.result in
    let fits : FitsSigned w64 best = search rules in
    λ own left right. rw (c.in-Min-Sub.is-0, c.in-Min-Sub.is-1)
    (ap (long_atom own) (to_z-of_z w64 best fits)
    ∙ least_difference own left right (lane_items c.args.count c.args.left.now) (lane_items c.args.count c.args.right.now) best c.picked_of_lanes-in-Min-Sub.ensures)

pub returns-in-Max-Add : goal.returns-in-Max-Add
returns-in-Max-Add c =
    let best = c.picked_of_lanes-in-Max-Add.result in
    let fits : FitsSigned w64 best = search rules in
    λ own left right. rw (c.in-Max-Add.is-0, c.in-Max-Add.is-1)
    (ap (long_atom own) (to_z-of_z w64 best fits)
    ∙ greatest_sum own left right (lane_items c.args.count c.args.left.now) (lane_items c.args.count c.args.right.now) best c.picked_of_lanes-in-Max-Add.ensures)

pub returns-in-Max-Sub : goal.returns-in-Max-Sub
returns-in-Max-Sub c =
    let best = c.picked_of_lanes-in-Max-Sub.result in
    let fits : FitsSigned w64 best = search rules in
    λ own left right. rw (c.in-Max-Sub.is-0, c.in-Max-Sub.is-1)
    (ap (long_atom own) (to_z-of_z w64 best fits)
    ∙ greatest_difference own left right (lane_items c.args.count c.args.left.now) (lane_items c.args.count c.args.right.now) best c.picked_of_lanes-in-Max-Sub.ensures)
