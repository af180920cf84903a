use Rattle.std.proofs.Common.{◌≡◌, ◌∙◌, nat_eq}
use Rattle.std.specs.Prelude.{◌&&◌}
use Rattle.ipc_codec.proofs.reach.after_columns_of.Goals.{then-have_equal_lengths, else-have_equal_lengths}
use Rattle.std.proofs.lemmas.Result.{err_from_is_err_and}
use Rattle.ipc_codec.proofs.ReadingLemmas.{after_columns-more, after_columns-ends, after_columns-done}
use Rattle.ipc_codec.proofs.reach.after_columns_of.Goals as goal

pub returns-in_err-here : goal.returns-in_err-here
returns-in_err-here c =
    let p = err_from_is_err_and c.from_residual.result c.from_residual.ensures.1 in
    rw (p.1, p.2) (after_columns-ends c.args.room c.args.order c.args.rows c.args.count c.loop.counter c.args.bytes.now c.loop.rest.now c.loop.have_equal_lengths c.in_err-here.field-0.0 c.loop-test.true c.in_err-here.ensures c.loop.invariant)

pub loop-preserved : goal.loop-preserved
loop-preserved c =
    let both : c.if-have_equal_lengths.have_equal_lengths ≡ (c.loop.have_equal_lengths && nat_eq c.in_ok-here.here c.args.rows) =
    elim c.if-have_equal_lengths.branch [ then-have_equal_lengths w ↦ rw w.if-have_equal_lengths.true w.have_equal_lengths-is | else-have_equal_lengths w ↦ rw w.if-have_equal_lengths.false (w.have_equal_lengths-is ∙ w.if-have_equal_lengths.false) ] in
    rw both (after_columns-more c.args.room c.args.order c.args.rows c.args.count c.loop.counter c.args.bytes.now c.loop.rest.now c.loop.have_equal_lengths c.in_ok-here.here c.in_ok-here.after.now c.loop-test.true c.in_ok-here.ensures c.loop.invariant)

pub returns : goal.returns
returns c = after_columns-done c.args.room c.args.order c.args.rows c.args.count c.loop.counter c.args.bytes.now c.loop.rest.now c.loop.have_equal_lengths c.loop-test.false c.loop.invariant
