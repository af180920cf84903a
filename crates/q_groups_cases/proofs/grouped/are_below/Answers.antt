use Rattle.std.proofs.Common.{arith, below_more}
use Rattle.std.proofs.lemmas.List.{get_or_default}
use Rattle.q_groups_cases.proofs.grouped.are_below.Goals as goal

pub loop-code-preserved : goal.loop-code-preserved
loop-code-preserved c = below_more _ _ c.loop-code.invariant (omega arith)

pub returns : goal.returns
returns c = λ _ k d low.
    let is = get_or_default c.args.codes.now k d 0 low in
    let h = c.loop-code.invariant k (omega (arith, low, c.loop-code-test.false)) in
    omega (arith, is, h)
