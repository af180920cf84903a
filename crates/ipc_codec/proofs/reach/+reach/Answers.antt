use Rattle.std.proofs.lemmas.Result.{err_from_is_err_and}
use Rattle.ipc_codec.specs.Extent.{after_object}
use Rattle.ipc_codec.proofs.ReadingLemmas.{after_items-more, after_items-ends, after_items-done}
use Rattle.ipc_codec.proofs.reach.+reach.Goals as goal

pub after_items_of-returns-in_err-after : goal.after_items_of-returns-in_err-after
after_items_of-returns-in_err-after t c =
    let p = err_from_is_err_and c.from_residual.result c.from_residual.ensures.1 in
    rw (p.1, p.2) (after_items-ends (after_object c.args.room c.args.order) c.args.count c.loop.counter c.args.bytes.now c.loop.rest.now c.in_err-after.field-0.0 c.loop-test.true c.in_err-after.ensures c.loop.invariant)

pub after_items_of-loop-preserved : goal.after_items_of-loop-preserved
after_items_of-loop-preserved t c = after_items-more (after_object c.args.room c.args.order) c.args.count c.loop.counter c.args.bytes.now c.loop.rest.now c.in_ok-after.field-0-0 c.in_ok-after.after.now c.loop-test.true c.in_ok-after.ensures c.loop.invariant

pub after_items_of-returns : goal.after_items_of-returns
after_items_of-returns t c = after_items-done (after_object c.args.room c.args.order) c.args.count c.loop.counter c.args.bytes.now c.loop.rest.now c.loop-test.false c.loop.invariant
