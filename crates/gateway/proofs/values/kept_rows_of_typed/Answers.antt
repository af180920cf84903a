use Rattle.std.proofs.Common.{◌≡◌, ℕ, List, ap, ◌∙◌}
use Rattle.std.specs.Prelude.{slice_get}
use Rattle.std.proofs.lemmas.Option.{slice_get_within}
use Rattle.day_rows.specs.declared.schema.Shape.{Shape}
use Rattle.qsql_request.specs.Views.{query_of}
use Rattle.qsql_eval.specs.Judgement.{all_columns}
use Rattle.qsql_eval.specs.Meaning.{meaning}
use Rattle.gateway.specs.Answer.{table_index}
use Rattle.gateway.specs.TableRows.{table_rows}
use Rattle.gateway.proofs.FitLemmas.{fits_at, shape_at}
use Rattle.gateway.proofs.KeptLemmas.{read_value}
use Rattle.gateway.proofs.values.kept_rows_of_typed.Goals as goal

pub at-table-requires : goal.at-table-requires
at-table-requires c =
    let schema = c.args.schema.now in
    let is : c.index_of-index.result ≡ table_index c.args.typed.now.query.now.table schema = c.index_of-index.ensures ∙ ap (λ (n : List ℕ). table_index n schema) c.bytes.ensures.value in
    slice_get_within schema c.index_of-index.result c.args.typed.now.table.now (ap (slice_get schema) is ∙ fits_at (query_of c.args.typed.now.query.now) schema c.args.typed.now.table.now c.requires.fits)

pub kept_rows_on-requires-clause-table : goal.kept_rows_on-requires-clause-table
kept_rows_on-requires-clause-table c =
    let schema = c.args.schema.now in
    let is : c.index_of-index.result ≡ table_index c.args.typed.now.query.now.table schema = c.index_of-index.ensures ∙ ap (λ (n : List ℕ). table_index n schema) c.bytes.ensures.value in
    ap (λ (s : List Shape). slice_get s c.index_of-index.result) c.requires.same ∙ ap (slice_get schema) is ∙ fits_at (query_of c.args.typed.now.query.now) schema c.args.typed.now.table.now c.requires.fits

pub kept_rows_on-requires-clause-named : goal.kept_rows_on-requires-clause-named
kept_rows_on-requires-clause-named c =
    let schema = c.args.schema.now in
    let is : c.index_of-index.result ≡ table_index c.args.typed.now.query.now.table schema = c.index_of-index.ensures ∙ ap (λ (n : List ℕ). table_index n schema) c.bytes.ensures.value in
    (shape_at schema c.index_of-index.result c.args.typed.now.table.now c.at-table.ensures.lawful (ap (slice_get schema) is ∙ fits_at (query_of c.args.typed.now.query.now) schema c.args.typed.now.table.now c.requires.fits)).named

pub kept_rows_on-requires-clause-few : goal.kept_rows_on-requires-clause-few
kept_rows_on-requires-clause-few c =
    let schema = c.args.schema.now in
    let is : c.index_of-index.result ≡ table_index c.args.typed.now.query.now.table schema = c.index_of-index.ensures ∙ ap (λ (n : List ℕ). table_index n schema) c.bytes.ensures.value in
    (shape_at schema c.index_of-index.result c.args.typed.now.table.now c.at-table.ensures.lawful (ap (slice_get schema) is ∙ fits_at (query_of c.args.typed.now.query.now) schema c.args.typed.now.table.now c.requires.fits)).few

pub returns-clause-value : goal.returns-clause-value
returns-clause-value c =
    let schema = c.args.schema.now in
    let q = query_of c.args.typed.now.query.now in
    let table = c.args.typed.now.table.now in
    let first = c.args.snapshot.now.frame.first in
    let entries = c.args.snapshot.now.entries in
    let is : c.index_of-index.result ≡ table_index c.args.typed.now.query.now.table schema = c.index_of-index.ensures ∙ ap (λ (n : List ℕ). table_index n schema) c.bytes.ensures.value in
    c.in_ok-rows.ensures.value
    ∙ read_value (all_columns table) q first entries c.index_of-index.result table c.deref.result.now c.dates-dates.ensures.ascend (c.deref.ensures.value ∙ c.in_ok-dates.ensures.dates)
    ∙ ap (λ (i : ℕ). meaning (all_columns table) q (table_rows first entries i table)) is
