use Rattle.std.proofs.Common.{◌≡◌, ◌<◌, ◌++◌, ◌∷◌, [], length, arith, sym, ◌∙◌}
use Rattle.outside_mem.proofs.CopyLemmas.{taken_more}
use Rattle.outside_mem.proofs.copying.copy_columns.Goals as goal

pub loop-i-preserved : goal.loop-i-preserved
loop-i-preserved c =
    let inside : c.loop-i.i < length c.args.columns.now = omega (arith, c.len-i-end.ensures) in
    c.in_ok-push.ensures.ok ∙ (λ i. c.loop-i.invariant i ++ c.in_ok-copy_column.ensures i ∷ []) ∙ sym (taken_more c.args.columns.now c.loop-i.i c.at.result.now inside c.at.ensures)
