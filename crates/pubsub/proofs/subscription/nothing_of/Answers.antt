use Rattle.std.proofs.Common.{◌<◌, ◌++◌, ◌∷◌, [], length, ap, arith, sym, ◌∙◌}
use Rattle.pubsub.specs.declared.filter.Filter.{Filter}
use Rattle.pubsub.proofs.FilterLemmas.{nothing_more}
use Rattle.pubsub.proofs.subscription.nothing_of.Goals as goal

pub loop-i-preserved : goal.loop-i-preserved
loop-i-preserved c =
    let inside : c.loop-i.i < length c.args.schema.now = omega (arith, c.len-i-end.ensures.value) in
    c.in_ok-push.ensures.items
    ∙ ap (λ l. l ++ Filter.Nothing ∷ []) c.loop-i.invariant
    ∙ sym (nothing_more c.args.schema.now c.loop-i.i inside)
