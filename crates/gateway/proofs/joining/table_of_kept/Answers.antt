use Rattle.qsql_request.specs.Views.{query_of}
use Rattle.asof_join.specs.Views.{grid_in}
use Rattle.gateway.proofs.RestLemmas.{made_fit, rest_source, source_of_rest}
use Rattle.gateway.proofs.joining.table_of_kept.Goals as goal

pub invariant_of-rest : goal.invariant_of-rest
invariant_of-rest c = record { fit = made_fit c.args.typed.now.table.now (query_of c.args.typed.now.query.now) (query_of c.in_ok-query.query) c.in_ok-query.ensures c.args.typed.now.fit }

pub table_of_side-requires-clause-typed : goal.table_of_side-requires-clause-typed
table_of_side-requires-clause-typed c =
    let typed = c.args.typed.now in
    rest_source typed.table.now (query_of typed.query.now) (query_of c.in_ok-query.query) c.in_ok-query.ensures c.requires.typed

pub returns-clause-source : goal.returns-clause-source
returns-clause-source c =
    let typed = c.args.typed.now in
    source_of_rest typed.table.now (query_of typed.query.now) (query_of c.in_ok-query.query) (grid_in c.in_ok-found.found) c.in_ok-query.ensures c.in_ok-found.ensures.source
