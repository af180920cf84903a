use Rattle.std.proofs.Common.{rules, FitsSigned, map, ap, ◌∙◌}
use Rattle.std.specs.Int.{w64}
use Rattle.std.proofs.lemmas.Int.{to_z-of_z}
use Rattle.q_lanes.specs.Loops.{worth_in_64}
use Rattle.q_verbs.specs.Numbers.{worth}
use Rattle.q_verbs.specs.Tests.{lies_within}
use Rattle.q_matching.proofs.within.within_numbers_of.Goals as goal

pub returns : goal.returns
returns c =
    let low_fits : FitsSigned w64 c.number_of_atom.result = search rules in
    let high_fits : FitsSigned w64 c.number_of_atom-2.result = search rules in
    let low_is = ap worth_in_64 (to_z-of_z w64 c.number_of_atom.result low_fits) ∙ c.number_of_atom.ensures in
    let high_is = ap worth_in_64 (to_z-of_z w64 c.number_of_atom-2.result high_fits) ∙ c.number_of_atom-2.ensures in
    c.in_ok-values.ensures ∙ (λ i. map (λ x. lies_within (low_is i) (high_is i) (worth x)) (c.of-cells.ensures.atoms 1 i))
