use Rattle.std.proofs.Common.{rules, FitsSigned, ◌∙◌}
use Rattle.std.specs.Int.{w16}
use Rattle.q_lanes.proofs.NumberLemmas.{same-16, bits-same}
use Rattle.q_lanes.proofs.number.same_in_16.Goals as goal

pub returns : goal.returns
returns c =
    let left : FitsSigned w16 c.args.x.now = search rules in
    let right : FitsSigned w16 c.args.y.now = search rules in
    bits-same w16 c.args.x.now c.args.y.now left right ∙ same-16 c.args.x.now c.args.y.now left right
