use Rattle.std.proofs.Common.{rules, FitsSigned}
use Rattle.std.specs.Int.{w64}
use Rattle.std.proofs.lemmas.Int.{wrapping_add_is}
use Rattle.q_unary.proofs.totals.joined.Goals as goal

pub returns : goal.returns
returns c =
    let sum : FitsSigned w64 c.args.sum.now = search rules in
    let other : FitsSigned w64 c.args.other.now = search rules in
    wrapping_add_is w64 c.args.sum.now c.args.other.now sum other
