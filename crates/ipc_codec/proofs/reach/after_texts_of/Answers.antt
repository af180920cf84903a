use Rattle.std.proofs.lemmas.Result.{err_from_is_err_and}
use Rattle.ipc_codec.proofs.ReadingLemmas.{after_texts-more, after_texts-ends, after_texts-done}
use Rattle.ipc_codec.proofs.reach.after_texts_of.Goals as goal

pub returns-in_err-after : goal.returns-in_err-after
returns-in_err-after c =
    let p = err_from_is_err_and c.from_residual.result c.from_residual.ensures.1 in
    rw (p.1, p.2) (after_texts-ends c.args.count c.loop.counter c.args.bytes.now c.loop.rest.now c.in_err-after.field-0.0 c.loop-test.true c.in_err-after.ensures.found c.loop.invariant)

pub loop-preserved : goal.loop-preserved
loop-preserved c = after_texts-more c.args.count c.loop.counter c.args.bytes.now c.loop.rest.now c.in_ok-after.field-0-0.now c.in_ok-after.after.now c.loop-test.true c.in_ok-after.ensures.found c.loop.invariant

pub returns : goal.returns
returns c = after_texts-done c.args.count c.loop.counter c.args.bytes.now c.loop.rest.now c.loop-test.false c.loop.invariant
