use Rattle.qsql_request.specs.Views.{form}
use Rattle.qsql_values.specs.Operands.{operand_tree}
use Rattle.qsql_groups.proofs.RowLemmas.{row_by_group}
use Rattle.qsql_groups.proofs.values.by_row.Goals as goal

pub returns : goal.returns
returns c =
    row_by_group c.args.scope.now c.args.groups.now (form c.args.expr.now) (operand_tree c.in_ok-value.value) c.is_column-by_row.result c.requires.by_row c.requires.ready c.requires.size c.in_ok-value.ensures.value c.is_column-by_row.ensures
    c.in_ok-value.ensures.kind
