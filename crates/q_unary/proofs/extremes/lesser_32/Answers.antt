use Rattle.std.proofs.Common.{rules, pos, FitsSigned, unwrap_or, ap, ◌∙◌}
use Rattle.std.specs.Int.{w32, int_min}
use Rattle.std.proofs.lemmas.Int.{to_z-of_z}
use Rattle.q_lanes.proofs.OrderLemmas.{worth_cmp-32}
use Rattle.q_unary.specs.Extremes.{raised}
use Rattle.q_unary.proofs.ExtremeLemmas.{least_step, raised_min, raised_under, raised-32, top-32}
use Rattle.q_verbs.specs.Numbers.{number_in}
use Rattle.q_unary.proofs.extremes.lesser_32.Goals as goal

pub returns-clause-picks : goal.returns-clause-picks
returns-clause-picks c =
    let x = c.args.x.now in
    let state = c.args.state in
    let other = c.lowered_32.result in
    let top = pos 2147483647 in
    let x_fits : FitsSigned w32 x = search rules in
    let state_fits : FitsSigned w32 state = search rules in
    let other_fits : FitsSigned w32 other = search rules in
    let result_fits : FitsSigned w32 c.min.result = search rules in
    let lowered = c.lowered_32.ensures ∙ ap (λ z. unwrap_or (number_in w32 z) top) (to_z-of_z w32 x x_fits) in
    λ chosen e.
    ap (raised top) (to_z-of_z w32 c.min.result result_fits ∙ c.min.ensures.value ∙ (λ i. int_min (to_z-of_z w32 state state_fits i) (to_z-of_z w32 other other_fits i)))
    ∙ raised_min top state other
    ∙ ap (int_min (raised top state)) lowered
    ∙ least_step w32 top (raised top state) x (worth_cmp-32 (raised top state) x (raised-32 state state_fits) x_fits) (top-32 x x_fits) (raised_under top state) chosen e
