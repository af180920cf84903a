use Rattle.std.proofs.Common.{rules, pos, FitsSigned, unwrap_or, ap, ◌∙◌}
use Rattle.std.specs.Int.{w64, int_min}
use Rattle.std.proofs.lemmas.Int.{to_z-of_z}
use Rattle.q_lanes.proofs.OrderLemmas.{worth_cmp-64}
use Rattle.q_unary.specs.Extremes.{raised}
use Rattle.q_unary.proofs.ExtremeLemmas.{least_step, raised_min, raised_under, raised-64, top-64}
use Rattle.q_verbs.specs.Numbers.{number_in}
use Rattle.q_unary.proofs.extremes.lesser_64.Goals as goal

pub returns-clause-picks : goal.returns-clause-picks
returns-clause-picks c =
    let x = c.args.x.now in
    let state = c.args.state in
    let other = c.lowered_64.result in
    let top = pos 9223372036854775807 in
    let x_fits : FitsSigned w64 x = search rules in
    let state_fits : FitsSigned w64 state = search rules in
    let other_fits : FitsSigned w64 other = search rules in
    let result_fits : FitsSigned w64 c.min.result = search rules in
    let lowered = c.lowered_64.ensures ∙ ap (λ z. unwrap_or (number_in w64 z) top) (to_z-of_z w64 x x_fits) in
    λ chosen e.
    ap (raised top) (to_z-of_z w64 c.min.result result_fits ∙ c.min.ensures.value ∙ (λ i. int_min (to_z-of_z w64 state state_fits i) (to_z-of_z w64 other other_fits i)))
    ∙ raised_min top state other
    ∙ ap (int_min (raised top state)) lowered
    ∙ least_step w64 top (raised top state) x (worth_cmp-64 (raised top state) x (raised-64 state state_fits) x_fits) (top-64 x x_fits) (raised_under top state) chosen e
