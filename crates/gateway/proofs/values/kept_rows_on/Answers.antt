use Rattle.std.proofs.Common.{◌<◌, ℕ, List, Some, length, All, ap, sym, subst, ◌∙◌}
use Rattle.qsql_request.specs.Views.{query_of}
use Rattle.qsql_values.specs.Frames.{rows_at}
use Rattle.gateway.specs.DateRows.{rows_on}
use Rattle.gateway.specs.Kept.{table_rows_on}
use Rattle.gateway.proofs.PartLemmas.{rows_fit}
use Rattle.gateway.proofs.RestLemmas.{kept_rows_value}
use Rattle.gateway.proofs.values.kept_rows_on.Goals as goal

pub rows_at_places-requires-clause-places : goal.rows_at_places-requires-clause-places
rows_at_places-requires-clause-places c =
    subst (All (λ (p : ℕ). p < length (rows_on c.args.dates.now c.args.snapshot.now.frame.first c.args.snapshot.now.entries c.args.index))) (sym c.deref.ensures.value) c.in_ok-places.ensures.within

pub returns-clause-columns : goal.returns-clause-columns
returns-clause-columns c =
    let rest = c.args.rest.now in
    let within = subst (All (λ (p : ℕ). p < length (rows_on c.args.dates.now c.args.snapshot.now.frame.first c.args.snapshot.now.entries c.args.index))) (sym c.deref.ensures.value) c.in_ok-places.ensures.within in
    rows_fit (Some c.deref.result.now) c.args.dates.now c.args.snapshot.now.frame.first c.args.snapshot.now.entries c.args.index c.args.typed.now.table.now rest.table.now (query_of rest.query.now)
    c.in_ok-wanted.wanted c.in_ok-rows.rows.names c.in_ok-rows.rows.columns (sym c.requires.same) c.in_ok-wanted.ensures c.in_ok-rows.ensures.names c.in_ok-rows.ensures.columns c.requires.named rest.fit within

pub returns-clause-value : goal.returns-clause-value
returns-clause-value c =
    let typed = c.args.typed.now in
    let rest = c.args.rest.now in
    let first = c.args.snapshot.now.frame.first in
    let entries = c.args.snapshot.now.entries in
    let frame = table_rows_on c.args.dates.now first entries c.args.index typed.table.now in
    let within = subst (All (λ (p : ℕ). p < length (rows_on c.args.dates.now first entries c.args.index))) (sym c.deref.ensures.value) c.in_ok-places.ensures.within in
    kept_rows_value c.deref.result.now c.args.dates.now first entries c.args.index rest.table.now typed.table.now (query_of typed.query.now) (query_of rest.query.now)
    c.in_ok-wanted.wanted c.in_ok-rows.rows.names c.in_ok-rows.rows.columns c.requires.same c.requires.rest c.in_ok-wanted.ensures c.in_ok-rows.ensures.names c.in_ok-rows.ensures.columns c.requires.named rest.fit within
    (ap (λ (ps : List ℕ). rows_at ps frame) c.deref.ensures.value ∙ c.in_ok-places.ensures.rows)
