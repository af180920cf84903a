use Rattle.std.specs.HashSet.{contains}
use Rattle.std.specs.Str.{bytes_eq}
use Rattle.pubsub.proofs.SetLemmas.{set_more}
use Rattle.pubsub.proofs.symbol_set.short_set.Goals as goal

pub loop-item-preserved : goal.loop-item-preserved
loop-item-preserved c bytes =
    set_more bytes c.args.items.now c.loop-item.item-index c.item-item.result (contains bytes_eq c.loop-item.set bytes) (contains bytes_eq c.insert.new.self bytes) c.loop-item-test.true c.item-item.is
    (c.loop-item.invariant bytes) (c.in_ok-insert.ensures.updates.0 bytes)
