use Rattle.std.proofs.Common.{sym, subst}
use Rattle.qsql_request.specs.Views.{query_of}
use Rattle.qsql_values.specs.Frames.{frame_of}
use Rattle.gateway.specs.Shaped.{IsShaped}
use Rattle.gateway.proofs.RestLemmas.{made_fit}
use Rattle.gateway.proofs.ShapedLemmas.{meaning_shaped}
use Rattle.gateway.proofs.values.value_of_kept.Goals as goal

pub invariant_of-rest : goal.invariant_of-rest
invariant_of-rest c = record { fit = made_fit c.args.typed.now.table.now (query_of c.args.typed.now.query.now) (query_of c.in_ok-query.query) c.in_ok-query.ensures c.args.typed.now.fit }

pub returns-clause-shaped : goal.returns-clause-shaped
returns-clause-shaped c =
    let typed = c.args.typed.now in
    let fit = made_fit typed.table.now (query_of typed.query.now) (query_of c.in_ok-query.query) c.in_ok-query.ensures typed.fit in
    subst IsShaped (sym c.in_ok-value.ensures) (meaning_shaped typed.table.now c.in_ok-query.query (frame_of c.in_ok-rows.rows.names c.in_ok-rows.rows.columns) fit c.in_ok-rows.ensures.columns)
