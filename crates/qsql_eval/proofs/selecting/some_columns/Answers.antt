use Rattle.qsql_eval.proofs.ReadyLemmas.{shown_table}
use Rattle.qsql_eval.proofs.selecting.some_columns.Goals as goal

pub invariant_of-result : goal.invariant_of-result
invariant_of-result c = record {
  in_shape =
      shown_table c.args.scope.now c.args.first.now c.args.columns.now c.row_count_of-count.result c.in_ok-names.names c.in_ok-columns.columns c.requires.some c.requires.ready c.requires.lists c.row_count_of-count.ensures c.in_ok-names.ensures c.in_ok-columns.ensures;
}
