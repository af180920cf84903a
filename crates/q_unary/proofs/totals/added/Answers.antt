use Rattle.std.proofs.Common.{◌≡◌, ◌+ℤ◌, rules, arith, pos, Some, FitsSigned, ap, sym, ◌∙◌, unwrap_or}
use Rattle.std.specs.Int.{w64, int_wrap}
use Rattle.std.proofs.lemmas.Int.{ints, wrapping_add_is}
use Rattle.q_verbs.specs.Numbers.{number_in}
use Rattle.q_unary.proofs.totals.added.Goals as goal

pub returns-then-x-gtminus9223372036854775808 : goal.returns-then-x-gtminus9223372036854775808
returns-then-x-gtminus9223372036854775808 c =
    let sum : FitsSigned w64 c.args.sum.now = search rules in
    let item : FitsSigned w64 c.args.x.now = search rules in
    let here : number_in w64 c.args.x.now ≡ Some c.args.x.now = grind (arith, ints) in
    wrapping_add_is w64 c.args.sum.now c.args.x.now sum item ∙ ap (λ n. int_wrap w64 (c.args.sum.now +ℤ unwrap_or n (pos 0))) (sym here)
