use Rattle.std.proofs.Common.{rules, FitsSigned, ap, ◌∙◌}
use Rattle.std.specs.Int.{w32, int_wrapping_neg}
use Rattle.std.proofs.lemmas.Int.{to_z-of_z}
use Rattle.q_unary.proofs.OneSideLemmas.{negated-32}
use Rattle.q_unary.proofs.one_side.negated_32.Goals as goal

pub returns : goal.returns
returns c =
    let fits : FitsSigned w32 c.args.x.now = search rules in
    let result : FitsSigned w32 c.wrapping_neg.result = search rules in
    to_z-of_z w32 c.wrapping_neg.result result ∙ c.wrapping_neg.ensures ∙ ap (int_wrapping_neg w32) (to_z-of_z w32 c.args.x.now fits) ∙ negated-32 c.args.x.now fits
