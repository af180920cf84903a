use Rattle.std.proofs.Common.{◌≡◌, ◌<◌, ◌++◌, ◌∷◌, [], length, arith, sym, ◌∙◌}
use Rattle.outside_mem.proofs.CopyLemmas.{taken_more}
use Rattle.outside_mem.proofs.copying.copy_names.Goals as goal

pub loop-i-preserved : goal.loop-i-preserved
loop-i-preserved c =
    let inside : c.loop-i.i < length c.args.names.now = omega (arith, c.len-i-end.ensures) in
    let same : c.in_ok-copied-2.field-0 ≡ c.at.result.now = c.in_ok-copied-2.ensures ∙ c.bytes.ensures.value in
    c.in_ok-push.ensures.ok ∙ (λ i. c.loop-i.invariant i ++ same i ∷ []) ∙ sym (taken_more c.args.names.now c.loop-i.i c.at.result.now inside c.at.ensures)
