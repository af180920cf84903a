use Rattle.std.proofs.Common.{◌<◌, length, arith}
use Rattle.pubsub.proofs.FilterLemmas.{replaced_push}
use Rattle.pubsub.proofs.subscription.replaced.Goals as goal

pub loop-i-preserved : goal.loop-i-preserved
loop-i-preserved c =
    let inside : c.loop-i.i < length c.args.tables.now = omega (arith, c.len-i-end.ensures) in
    replaced_push c.args.asked.now c.args.new.now c.args.tables.now c.args.filters.now c.loop-i.i c.at.result.now c.index-filters-i.result c.in_ok-filter_after.field-0 c.loop-i.found.items c.push.new.self.items c.is_asked.result
    c.requires inside c.at.ensures c.index-filters-i.is c.is_asked.ensures c.in_ok-filter_after.ensures c.loop-i.invariant c.in_ok-push.ensures.items
