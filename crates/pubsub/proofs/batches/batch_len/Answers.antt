use Rattle.std.proofs.Common.{◌+◌, arith}
use Rattle.pubsub.proofs.BatchLemmas.{quiet_more, count_more, ends_full}
use Rattle.pubsub.proofs.batches.batch_len.Goals as goal

pub returns-then-is_full-clause-batch : goal.returns-then-is_full-clause-batch
returns-then-is_full-clause-batch c =
    let entries = c.args.entries.now in
    let entry = c.index-entries-i.result in
    let quiet = quiet_more entries c.loop-i.i entry c.loop-i-test.true c.index-entries-i.is c.loop-i.invariant.quiet c.if-is_roll.ensures.other in
    let count = count_more entries c.loop-i.i entry c.loop-i-test.true c.index-entries-i.is c.loop-i.invariant.quiet in
    ends_full entries (c.loop-i.i + 1) quiet (omega (arith, count, c.loop-i.invariant.count_is, c.count_updates-count.ensures.value, c.if-is_full.ensures.full))

pub loop-i-preserved : goal.loop-i-preserved
loop-i-preserved c =
    let entries = c.args.entries.now in
    let entry = c.index-entries-i.result in
    let count = count_more entries c.loop-i.i entry c.loop-i-test.true c.index-entries-i.is c.loop-i.invariant.quiet in
    record {
      quiet = quiet_more entries c.loop-i.i entry c.loop-i-test.true c.index-entries-i.is c.loop-i.invariant.quiet c.if-is_roll.ensures.other;
      count_is = omega (arith, count, c.loop-i.invariant.count_is, c.count_updates-count.ensures.value);
      few = omega (arith, c.loop-i.invariant.few, c.count_updates-count.ensures.few, c.if-is_full.ensures.more);
    }
