use Rattle.qsql_eval.proofs.GroupLemmas.{column_table_of}
use Rattle.qsql_eval.proofs.by_group.column_table.Goals as goal

pub invariant_of-result : goal.invariant_of-result
invariant_of-result c = record {
  in_shape = (column_table_of c.args.grouping.now c.args.columns.now c.in_ok-names.names c.in_ok-made.made c.requires.some c.requires.values c.in_ok-names.ensures c.in_ok-made.ensures).is;
}

pub returns-clause-size : goal.returns-clause-size
returns-clause-size c = (column_table_of c.args.grouping.now c.args.columns.now c.in_ok-names.names c.in_ok-made.made c.requires.some c.requires.values c.in_ok-names.ensures c.in_ok-made.ensures).size
