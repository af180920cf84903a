use Rattle.std.proofs.Common.{sym}
use Rattle.ipc_codec.proofs.ExtentLemmas.{measured-ok, measured-err}
use Rattle.ipc_codec.proofs.reach.measure.Goals as goal

pub returns-in-Ok : goal.returns-in-Ok
returns-in-Ok c = rw c.saturating_sub.ensures (sym (measured-ok c.args.order c.args.bytes.now c.in-Ok.field-0-0 c.in-Ok.rest.now c.in-Ok.ensures))

pub returns-in-Err : goal.returns-in-Err
returns-in-Err c = rw c.placed_in.ensures (sym (measured-err c.args.order c.args.bytes.now c.in-Err.fault c.in-Err.ensures))
