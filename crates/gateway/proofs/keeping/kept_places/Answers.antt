use Rattle.std.proofs.Common.{ℕ, List, ap, ◌∙◌}
use Rattle.qsql_request.specs.Views.{form}
use Rattle.qsql_values.specs.Frames.{rows_at}
use Rattle.qsql_values.specs.Values.{rows_where}
use Rattle.gateway.specs.Kept.{table_rows_on}
use Rattle.gateway.proofs.PartLemmas.{one_more}
use Rattle.gateway.proofs.keeping.kept_places.Goals as goal

pub loop-i-init : goal.loop-i-init
loop-i-init c =
    let frame = table_rows_on c.args.dates.now c.args.snapshot.now.frame.first c.args.snapshot.now.entries c.args.index c.args.typed.now.table.now in
    record {
      within = c.in_ok-places.ensures.within;
      rows = one_more c.args.typed.now.query.now.phrases 0 c.phrase_at-first.result.now frame (rows_at c.in_ok-places.places.items frame) c.phrase_at-first.ensures.is c.in_ok-places.ensures.rows;
    }

pub loop-i-preserved : goal.loop-i-preserved
loop-i-preserved c =
    let frame = table_rows_on c.args.dates.now c.args.snapshot.now.frame.first c.args.snapshot.now.entries c.args.index c.args.typed.now.table.now in
    record {
      within = c.in_ok-places-2.ensures.within;
      rows = one_more c.args.typed.now.query.now.phrases c.loop-i.i c.phrase_at-phrase.result.now frame (rows_at c.in_ok-places-2.places.items frame) c.phrase_at-phrase.ensures.is
          (c.in_ok-places-2.ensures.rows
          ∙ ap (λ (ps : List ℕ). rows_where (form c.phrase_at-phrase.result.now) (rows_at ps frame)) c.deref.ensures.value
          ∙ ap (rows_where (form c.phrase_at-phrase.result.now)) c.loop-i.invariant.rows);
    }
