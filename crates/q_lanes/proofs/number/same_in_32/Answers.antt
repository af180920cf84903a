use Rattle.std.proofs.Common.{rules, FitsSigned, ◌∙◌}
use Rattle.std.specs.Int.{w32}
use Rattle.q_lanes.proofs.NumberLemmas.{same-32, bits-same}
use Rattle.q_lanes.proofs.number.same_in_32.Goals as goal

pub returns : goal.returns
returns c =
    let left : FitsSigned w32 c.args.x.now = search rules in
    let right : FitsSigned w32 c.args.y.now = search rules in
    bits-same w32 c.args.x.now c.args.y.now left right ∙ same-32 c.args.x.now c.args.y.now left right
