use Rattle.std.proofs.Common.{◌||◌, sym, ◌∙◌}
use Rattle.std.specs.Str.{bytes_eq}
use Rattle.pubsub.proofs.SetLemmas.{any_more_at}
use Rattle.pubsub.proofs.symbol_set.is_one_of.Goals as goal

pub loop-item-preserved : goal.loop-item-preserved
loop-item-preserved c =
    (λ i. c.loop-item.invariant i || c.eq-found.ensures i)
    ∙ sym (any_more_at (bytes_eq c.args.symbol.now) c.args.items.now c.loop-item.item-index c.item-item.result c.loop-item-test.true c.item-item.is)
