use Rattle.std.proofs.Common.{rules, negsuc, FitsSigned, ◌∙◌}
use Rattle.std.specs.Int.{w16, int_max}
use Rattle.std.proofs.lemmas.Int.{to_z-of_z}
use Rattle.q_lanes.proofs.OrderLemmas.{worth_cmp-16}
use Rattle.q_unary.proofs.ExtremeLemmas.{greatest_step, bottom-16, null-16}
use Rattle.q_unary.proofs.extremes.greater_16.Goals as goal

pub returns-clause-picks : goal.returns-clause-picks
returns-clause-picks c =
    let x = c.args.x.now in
    let best = c.args.best in
    let x_fits : FitsSigned w16 x = search rules in
    let best_fits : FitsSigned w16 best = search rules in
    let result_fits : FitsSigned w16 c.max.result = search rules in
    λ chosen e.
    to_z-of_z w16 c.max.result result_fits
    ∙ c.max.ensures.value
    ∙ (λ i. int_max (to_z-of_z w16 best best_fits i) (to_z-of_z w16 x x_fits i))
    ∙ greatest_step w16 (negsuc 32766) best x (worth_cmp-16 best x best_fits x_fits) (bottom-16 x) (null-16 best x best_fits x_fits) chosen e
