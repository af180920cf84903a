use Rattle.std.proofs.Common.{rules, negsuc, FitsSigned, ◌∙◌}
use Rattle.std.specs.Int.{w32, int_max}
use Rattle.std.proofs.lemmas.Int.{to_z-of_z}
use Rattle.q_lanes.proofs.OrderLemmas.{worth_cmp-32}
use Rattle.q_unary.proofs.ExtremeLemmas.{greatest_step, bottom-32, null-32}
use Rattle.q_unary.proofs.extremes.greater_32.Goals as goal

pub returns-clause-picks : goal.returns-clause-picks
returns-clause-picks c =
    let x = c.args.x.now in
    let best = c.args.best in
    let x_fits : FitsSigned w32 x = search rules in
    let best_fits : FitsSigned w32 best = search rules in
    let result_fits : FitsSigned w32 c.max.result = search rules in
    λ chosen e.
    to_z-of_z w32 c.max.result result_fits
    ∙ c.max.ensures.value
    ∙ (λ i. int_max (to_z-of_z w32 best best_fits i) (to_z-of_z w32 x x_fits i))
    ∙ greatest_step w32 (negsuc 2147483646) best x (worth_cmp-32 best x best_fits x_fits) (bottom-32 x) (null-32 best x best_fits x_fits) chosen e
