use Rattle.std.proofs.Common.{◌≡◌, ℕ, List, ap, ◌∙◌, None, Some}
use Rattle.std.specs.Prelude.{slice_get}
use Rattle.std.proofs.lemmas.Option.{slice_get_within}
use Rattle.day_rows.specs.declared.schema.Shape.{Shape}
use Rattle.qsql_request.specs.Views.{query_of}
use Rattle.qsql_eval.specs.Judgement.{all_columns}
use Rattle.qsql_eval.specs.Meaning.{meaning}
use Rattle.gateway.specs.Answer.{table_index}
use Rattle.gateway.specs.TableRows.{table_rows}
use Rattle.gateway.proofs.KeptLemmas.{read_value}
use Rattle.gateway.proofs.FitLemmas.{fits_at, same_table, shape_at}
use Rattle.gateway.proofs.PartLemmas.{rows_fit, rows_value}
use Rattle.gateway.proofs.values.rows_of_typed.Goals as goal

pub at-table-requires : goal.at-table-requires
at-table-requires c =
    let schema = c.args.schema.now in
    let is : c.index_of-index.result ≡ table_index c.args.typed.now.query.now.table schema = c.index_of-index.ensures ∙ ap (λ (n : List ℕ). table_index n schema) c.bytes.ensures.value in
    slice_get_within schema c.index_of-index.result c.args.typed.now.table.now (ap (slice_get schema) is ∙ fits_at (query_of c.args.typed.now.query.now) schema c.args.typed.now.table.now c.requires.fits)

pub rows_of_part-requires-clause-table : goal.rows_of_part-requires-clause-table
rows_of_part-requires-clause-table c = ap (λ (s : List Shape). slice_get s c.index_of-index.result) c.requires.same ∙ c.at-table.ensures.value

pub rows_of_part-requires-clause-named : goal.rows_of_part-requires-clause-named
rows_of_part-requires-clause-named c = (shape_at c.args.schema.now c.index_of-index.result c.at-table.result.now c.at-table.ensures.lawful c.at-table.ensures.value).named

pub rows_of_part-requires-clause-few : goal.rows_of_part-requires-clause-few
rows_of_part-requires-clause-few c = (shape_at c.args.schema.now c.index_of-index.result c.at-table.result.now c.at-table.ensures.lawful c.at-table.ensures.value).few

pub returns-clause-columns : goal.returns-clause-columns
returns-clause-columns c =
    let schema = c.args.schema.now in
    let q = query_of c.args.typed.now.query.now in
    let table = c.args.typed.now.table.now in
    let is : c.index_of-index.result ≡ table_index c.args.typed.now.query.now.table schema = c.index_of-index.ensures ∙ ap (λ (n : List ℕ). table_index n schema) c.bytes.ensures.value in
    let found : slice_get schema c.index_of-index.result ≡ Some table = ap (slice_get schema) is ∙ fits_at q schema table c.requires.fits in
    let lawful = shape_at schema c.index_of-index.result c.at-table.result.now c.at-table.ensures.lawful c.at-table.ensures.value in
    rows_fit None c.deref.result.now c.args.snapshot.now.frame.first c.args.snapshot.now.entries c.index_of-index.result c.at-table.result.now table q c.in_ok-wanted.wanted c.in_ok-rows.rows.names c.in_ok-rows.rows.columns
    (same_table schema c.index_of-index.result c.at-table.result.now table c.at-table.ensures.value found)
    c.in_ok-wanted.ensures c.in_ok-rows.ensures.names c.in_ok-rows.ensures.columns lawful.named c.args.typed.now.fit tt

pub returns-clause-value : goal.returns-clause-value
returns-clause-value c =
    let schema = c.args.schema.now in
    let q = query_of c.args.typed.now.query.now in
    let table = c.args.typed.now.table.now in
    let is : c.index_of-index.result ≡ table_index c.args.typed.now.query.now.table schema = c.index_of-index.ensures ∙ ap (λ (n : List ℕ). table_index n schema) c.bytes.ensures.value in
    let found : slice_get schema c.index_of-index.result ≡ Some table = ap (slice_get schema) is ∙ fits_at q schema table c.requires.fits in
    let lawful = shape_at schema c.index_of-index.result c.at-table.result.now c.at-table.ensures.lawful c.at-table.ensures.value in
    rows_value None c.deref.result.now c.args.snapshot.now.frame.first c.args.snapshot.now.entries c.index_of-index.result c.at-table.result.now table q c.in_ok-wanted.wanted c.in_ok-rows.rows.names c.in_ok-rows.rows.columns
    (same_table schema c.index_of-index.result c.at-table.result.now table c.at-table.ensures.value found)
    c.in_ok-wanted.ensures c.in_ok-rows.ensures.names c.in_ok-rows.ensures.columns lawful.named c.args.typed.now.fit tt
    ∙ read_value (all_columns table) q c.args.snapshot.now.frame.first c.args.snapshot.now.entries c.index_of-index.result table c.deref.result.now c.dates-dates.ensures.ascend (c.deref.ensures.value ∙ c.in_ok-dates.ensures.dates)
    ∙ ap (λ (i : ℕ). meaning (all_columns table) q (table_rows c.args.snapshot.now.frame.first c.args.snapshot.now.entries i table)) is
