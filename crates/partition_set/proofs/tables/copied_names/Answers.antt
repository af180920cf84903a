use Rattle.std.proofs.Common.{◌≡◌, ◌+◌, suc, ◌∷◌, ◌++◌, [], take, arith, length, ap, ap₂, sym, ◌∙◌}
use Rattle.partition_set.proofs.TableLemmas.{take-got}
use Rattle.partition_set.proofs.tables.copied_names.Goals as goal

pub loop-i-preserved : goal.loop-i-preserved
loop-i-preserved c =
    let next : suc c.loop-i.i ≡ c.loop-i.i + 1 = omega arith in
    c.in_ok-push.ensures.ok ∙ ap₂ (λ a b. a ++ b ∷ []) c.loop-i.invariant c.in_ok-copied.ensures ∙ sym (take-got c.args.items.now c.loop-i.i c.at.result.now c.at.ensures.value) ∙ ap (λ n. take n c.args.items.now) next
