use Rattle.qsql_values.specs.Operands.{operand_tree}
use Rattle.qsql_groups.proofs.StepLemmas.{one_values}
use Rattle.qsql_groups.proofs.values.each_item.Goals as goal

pub returns-clause-values : goal.returns-clause-values
returns-clause-values c =
    one_values c.args.groups.now c.args.verb c.args.side.now.by_row (operand_tree c.args.side.now.value) (operand_tree c.in_ok-value.value) c.requires.verb c.requires.items c.kind_of-kind.ensures.kinds c.in_ok-value.ensures.value
