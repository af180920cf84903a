use Rattle.std.proofs.Common.{◌<◌, List, subst, arith}
use Rattle.q_values.specs.declared.kind.Kind.{Kind}
use Rattle.tick_log.specs.Chunk.{no_pass, AreLoggable}
use Rattle.tick_log.proofs.Made.{fits_both}
use Rattle.tick_log.proofs.chunk.fits_log.Goals as goal

pub returns : goal.returns
returns c =
    let pass : c.args.by < no_pass = omega (arith, c.ranges.by.fits) in
    fits_both c.chunk_length.result c.args.by c.args.shape.now c.args.columns.now (c.chunk_length.ensures.value c.args.by) pass (subst (λ (ks : List Kind). AreLoggable ks c.args.columns.now) c.as_slice.ensures (c.are_loggable.ensures.0 c.if-not-are_loggable.false))
