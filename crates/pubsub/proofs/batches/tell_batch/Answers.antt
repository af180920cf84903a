use Rattle.std.proofs.Common.{◌≡◌, length, map, arith}
use Rattle.pubsub.specs.Told.{publication}
use Rattle.pubsub.proofs.BatchLemmas.{all_tables}
use Rattle.pubsub.proofs.batches.tell_batch.Goals as goal

pub returns : goal.returns
returns c =
    let all : c.loop-table.table ≡ length c.args.schema.now = omega (arith, c.loop-table-test.false, c.loop-table.auto.table-end, c.len-table-end.ensures.value) in
    all_tables (map publication c.args.messages.now.items) (map publication c.loop-table.messages.items) c.args.subscription.now c.args.schema.now c.args.batch.now c.loop-table.table c.requires.own all c.loop-table.invariant
