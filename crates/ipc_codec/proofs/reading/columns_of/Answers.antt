use Rattle.std.proofs.lemmas.Result.{err_from_is_err_and}
use Rattle.ipc_codec.specs.Reading.{column_at, columns_at}
use Rattle.ipc_codec.proofs.FrontLemmas.{Stops-from, columns_at-more, columns_at-ends, columns_at-done}
use Rattle.ipc_codec.proofs.reading.columns_of.Goals as goal

pub returns-in_err-column : goal.returns-in_err-column
returns-in_err-column c =
    let p = err_from_is_err_and c.from_residual-in_err-column.result c.from_residual-in_err-column.ensures.1 in
    let total = columns_at c.args.room c.args.order c.args.count c.args.bytes.now in
    rw (p.1, p.2) (Stops-from c.in_err-column.field-0.0 (column_at c.args.room c.args.order c.loop.rest.now) total (λ f e. columns_at-ends c.args.room c.args.order c.loop.columns c.args.count c.loop.counter c.loop.rest.now f total c.loop-test.true e c.loop.invariant) c.in_err-column.ensures)

pub loop-preserved : goal.loop-preserved
loop-preserved c = rw c.in_ok-push.ensures.ok (columns_at-more c.args.room c.args.order c.loop.columns c.args.count c.loop.counter c.loop.rest.now c.in_ok-column.column c.in_ok-column.after.now (columns_at c.args.room c.args.order c.args.count c.args.bytes.now) c.loop-test.true c.in_ok-column.ensures c.loop.invariant)

pub returns : goal.returns
returns c = columns_at-done c.args.room c.args.order c.loop.columns c.args.count c.loop.counter c.loop.rest.now (columns_at c.args.room c.args.order c.args.count c.args.bytes.now) c.loop-test.false c.loop.invariant
