use Rattle.std.proofs.Common.{map, ap, ◌∙◌}
use Rattle.q_lanes.specs.Lanes.{lane_items}
use Rattle.q_verbs.specs.Numbers.{worth, worth_cmp}
use Rattle.q_lanes.specs.Loops.{worth_in_64}
use Rattle.q_verbs.specs.Sides.{spread}
use Rattle.q_lanes.proofs.ZipLemmas.{zip2_through}
use Rattle.q_binary.proofs.comparison.compare_wide.Goals as goal

pub returns : goal.returns
returns g c =
    let n = c.args.count in
    let left = ap (map worth_in_64) (c.lane.ensures n) ∙ c.in_ok-some.ensures n in
    let right = ap (map worth_in_64) (c.lane-2.ensures n) ∙ c.in_ok-others.ensures n in
    c.in_ok-values.ensures ∙ zip2_through (λ x y. g.P.Relation.relates (worth_cmp x y)) worth_in_64 worth (lane_items n c.lane.result) (lane_items n c.lane-2.result) (spread n c.args.left.now) (spread n c.args.right.now) left right
