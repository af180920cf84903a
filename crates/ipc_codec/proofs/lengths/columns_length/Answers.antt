use Rattle.std.proofs.Common.{◌∙◌, subst}
use Rattle.std.proofs.lemmas.List.Elements.{All-more}
use Rattle.ipc_codec.specs.Written.{vector_bytes, VectorFits}
use Rattle.ipc_codec.proofs.LengthLemmas.{length-more}
use Rattle.ipc_codec.proofs.lengths.columns_length.Goals as goal

pub loop-column-preserved : goal.loop-column-preserved
loop-column-preserved c =
    let columns = c.args.columns.now in
    let i = c.loop-column.column-index in
    let x = c.column-item.result in
    record {
      total = c.saturating_add-total.ensures ∙ length-more vector_bytes columns i x c.loop-column.total c.vector_length.result c.loop-column-test.true c.column-item.is c.loop-column.invariant.total c.vector_length.ensures.value;
      fit = All-more VectorFits columns i x c.loop-column-test.true c.loop-column.invariant.fit (subst VectorFits c.column-item.is c.vector_length.ensures.fit);
    }
