use Rattle.std.proofs.Common.{◌≡◌, List, length, ap, ◌∙◌, arith}
use Rattle.std.proofs.lemmas.Option.{slice_get_within}
use Rattle.std.proofs.lemmas.Result.{err_from_is_err_and}
use Rattle.q_values.specs.Contents.{Contents}
use Rattle.q_values.specs.Table.{rows_of}
use Rattle.day_rows.specs.declared.entry.Entry.{Entry}
use Rattle.tick_log.specs.Chunk.{IsChunk}
use Rattle.tick_log.specs.Reading.{AreLogged}
use Rattle.tick_log.proofs.Chunks.{no_table_no_chunk}
use Rattle.tick_log.proofs.Entries.{chunk_refuses, no_columns, too_many, entry_found}
use Rattle.tick_log.proofs.Tables.{shape_at}
use Rattle.tick_log.proofs.reading.entry_of.Goals as goal

pub returns-in_default-table_of-clause-none : goal.returns-in_default-table_of-clause-none
returns-in_default-table_of-clause-none c = no_table_no_chunk c.args.schema.now c.args.before c.args.payload.now c.in-Some.rest.now c.in-Some.by c.in-Some.ensures.some c.in_default-table_of.ensures.none

pub at-requires : goal.at-requires
at-requires c = slice_get_within c.args.schema.now c.in-Some-table_of.table c.in-Some-table_of.ensures.some.0 c.in-Some-table_of.ensures.some.1

pub columns_of-requires : goal.columns_of-requires
columns_of-requires c =
    let shape = shape_at c.args.schema.now c.in-Some-table_of.table c.at.result.now c.at.ensures.lawful c.at.ensures.value in
    omega (arith, ap length c.as_slice.ensures, shape.few, shape.named)

pub returns-in_err-columns-clause-none : goal.returns-in_err-columns-clause-none
returns-in_err-columns-clause-none c =
    let p = err_from_is_err_and c.from_residual.result c.from_residual.ensures.1 in
    chunk_refuses c.from_residual.result p.0 c.in_err-columns.field-0.0 ((columns : List Contents) → AreLogged c.as_slice.result.now c.in-Some-table_of.rest.now columns → ⊥)
    ((x : Entry) → IsChunk c.args.schema.now c.args.before c.args.payload.now x → ⊥) p.1 p.2 c.in_err-columns.ensures.none
    (no_columns c.args.schema.now c.args.before c.args.payload.now c.in-Some.rest.now c.in-Some-table_of.rest.now c.in-Some.by c.in-Some-table_of.table c.at.result.now c.as_slice.result.now c.at.ensures.lawful c.in-Some.ensures.some c.in-Some-table_of.ensures.some c.at.ensures.value c.as_slice.ensures)

pub returns-then-rows-before-clause-none : goal.returns-then-rows-before-clause-none
returns-then-rows-before-clause-none c =
    let rows : c.row_count-rows.result ≡ rows_of c.in_ok-columns.columns = c.row_count-rows.ensures ∙ ap rows_of c.as_slice-2.ensures in
    too_many c.args.schema.now c.args.before c.args.payload.now c.in-Some.rest.now c.in-Some-table_of.rest.now c.in-Some.by c.in-Some-table_of.table c.at.result.now c.as_slice.result.now c.at.ensures.lawful c.in-Some.ensures.some c.in-Some-table_of.ensures.some c.at.ensures.value c.as_slice.ensures
    c.in_ok-columns.columns c.in_ok-columns.ensures.found (omega (arith, rows, c.if-rows-before.true))

pub overflow_cast-table : goal.overflow_cast-table
overflow_cast-table c =
    let low = slice_get_within c.args.schema.now c.in-Some-table_of.table c.in-Some-table_of.ensures.some.0 c.in-Some-table_of.ensures.some.1 in
    omega (arith, low, c.at.ensures.lawful.few)

pub returns-clause-found : goal.returns-clause-found
returns-clause-found c =
    let rows : c.row_count-rows.result ≡ rows_of c.in_ok-columns.columns = c.row_count-rows.ensures ∙ ap rows_of c.as_slice-2.ensures in
    entry_found c.args.schema.now c.args.before c.args.payload.now c.in-Some.rest.now c.in-Some-table_of.rest.now c.in-Some.by c.in-Some-table_of.table c.at.result.now c.as_slice.result.now c.at.ensures.lawful c.in-Some.ensures.some c.in-Some-table_of.ensures.some c.at.ensures.value c.as_slice.ensures
    c.in_ok-columns.columns c.in_ok-columns.ensures.found c.requires (omega (arith, rows, c.if-rows-before.false))
