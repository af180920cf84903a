use Rattle.std.proofs.Common.{rules, FitsSigned, ap, ◌∙◌}
use Rattle.std.specs.Int.{w64, int_wrapping_neg}
use Rattle.std.proofs.lemmas.Int.{to_z-of_z}
use Rattle.q_unary.proofs.OneSideLemmas.{negated-64}
use Rattle.q_unary.proofs.one_side.negated_64.Goals as goal

pub returns : goal.returns
returns c =
    let fits : FitsSigned w64 c.args.x.now = search rules in
    let result : FitsSigned w64 c.wrapping_neg.result = search rules in
    to_z-of_z w64 c.wrapping_neg.result result ∙ c.wrapping_neg.ensures ∙ ap (int_wrapping_neg w64) (to_z-of_z w64 c.args.x.now fits) ∙ negated-64 c.args.x.now fits
