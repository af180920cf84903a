use Rattle.std.proofs.Common.{rules, pos, FitsSigned, unwrap_or, ap, ◌∙◌}
use Rattle.std.specs.Int.{w16, int_min}
use Rattle.std.proofs.lemmas.Int.{to_z-of_z}
use Rattle.q_lanes.proofs.OrderLemmas.{worth_cmp-16}
use Rattle.q_unary.specs.Extremes.{raised}
use Rattle.q_unary.proofs.ExtremeLemmas.{least_step, raised_min, raised_under, raised-16, top-16}
use Rattle.q_verbs.specs.Numbers.{number_in}
use Rattle.q_unary.proofs.extremes.lesser_16.Goals as goal

pub returns-clause-picks : goal.returns-clause-picks
returns-clause-picks c =
    let x = c.args.x.now in
    let state = c.args.state in
    let other = c.lowered_16.result in
    let top = pos 32767 in
    let x_fits : FitsSigned w16 x = search rules in
    let state_fits : FitsSigned w16 state = search rules in
    let other_fits : FitsSigned w16 other = search rules in
    let result_fits : FitsSigned w16 c.min.result = search rules in
    let lowered = c.lowered_16.ensures ∙ ap (λ z. unwrap_or (number_in w16 z) top) (to_z-of_z w16 x x_fits) in
    λ chosen e.
    ap (raised top) (to_z-of_z w16 c.min.result result_fits ∙ c.min.ensures.value ∙ (λ i. int_min (to_z-of_z w16 state state_fits i) (to_z-of_z w16 other other_fits i)))
    ∙ raised_min top state other
    ∙ ap (int_min (raised top state)) lowered
    ∙ least_step w16 top (raised top state) x (worth_cmp-16 (raised top state) x (raised-16 state state_fits) x_fits) (top-16 x x_fits) (raised_under top state) chosen e
