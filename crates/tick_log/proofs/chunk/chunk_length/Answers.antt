use Rattle.std.proofs.Common.{length, ap, arith}
use Rattle.tick_log.proofs.Made.{length-chunk}
use Rattle.tick_log.proofs.chunk.chunk_length.Goals as goal

pub returns-clause-value : goal.returns-clause-value
returns-clause-value c = λ by.
    omega (arith, length-chunk by c.args.table.now c.args.columns.now, c.columns_length.ensures.value, c.saturating_add.ensures, c.saturating_add-2.ensures, ap length c.bytes.ensures.value)
