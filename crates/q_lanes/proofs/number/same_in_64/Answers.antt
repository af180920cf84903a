use Rattle.std.proofs.Common.{rules, FitsSigned, ◌∙◌}
use Rattle.std.specs.Int.{w64}
use Rattle.q_lanes.proofs.NumberLemmas.{same-64, bits-same}
use Rattle.q_lanes.proofs.number.same_in_64.Goals as goal

pub returns : goal.returns
returns c =
    let left : FitsSigned w64 c.args.x.now = search rules in
    let right : FitsSigned w64 c.args.y.now = search rules in
    bits-same w64 c.args.x.now c.args.y.now left right ∙ same-64 c.args.x.now c.args.y.now left right
