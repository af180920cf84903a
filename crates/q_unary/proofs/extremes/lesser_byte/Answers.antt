use Rattle.std.proofs.Common.{◌≤◌, arith, ◌∙◌}
use Rattle.q_unary.proofs.ExtremeLemmas.{least_byte}
use Rattle.q_unary.proofs.extremes.lesser_byte.Goals as goal

pub returns-clause-picks : goal.returns-clause-picks
returns-clause-picks c =
    let within : c.args.x.now ≤ 255 = omega arith in
    λ chosen e. c.min.ensures ∙ least_byte c.args.best c.args.x.now within chosen e
