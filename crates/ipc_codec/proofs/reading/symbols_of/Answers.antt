use Rattle.std.proofs.Common.{◌-◌}
use Rattle.std.proofs.lemmas.Result.{err_from_is_err_and}
use Rattle.ipc_codec.specs.Reading.{texts_at}
use Rattle.ipc_codec.proofs.FrontLemmas.{texts_at-more, texts_at-ends, texts_at-done}
use Rattle.ipc_codec.proofs.reading.symbols_of.Goals as goal

pub returns-in_err-text : goal.returns-in_err-text
returns-in_err-text c =
    let p = err_from_is_err_and c.from_residual-in_err-text.result c.from_residual-in_err-text.ensures.1 in
    rw (p.1, p.2) (texts_at-ends c.loop.symbols (c.args.count - c.len.result) c.loop.counter c.loop.rest.now c.in_err-text.field-0.0 (texts_at c.args.count c.args.bytes.now) c.loop-test.true c.in_err-text.ensures.found c.loop.invariant)

pub loop-preserved : goal.loop-preserved
loop-preserved c = rw c.in_ok-push.ensures.ok (texts_at-more c.loop.symbols (c.args.count - c.len.result) c.loop.counter c.loop.rest.now c.in_ok-text.text.now c.in_ok-text.after.now (texts_at c.args.count c.args.bytes.now) c.loop-test.true c.in_ok-text.ensures.found c.loop.invariant)

pub returns : goal.returns
returns c = texts_at-done c.loop.symbols (c.args.count - c.len.result) c.loop.counter c.loop.rest.now (texts_at c.args.count c.args.bytes.now) c.loop-test.false c.loop.invariant
