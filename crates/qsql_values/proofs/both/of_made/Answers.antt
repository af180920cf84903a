use Rattle.qsql_values.proofs.BothLemmas.{some_inner}
use Rattle.q_verbs.specs.Kinds.{result_kind_of}
use Rattle.qsql_values.specs.Operands.{operand_tree, kind_of_tree}
use Rattle.qsql_values.proofs.both.of_made.Goals as goal

pub apply_two-requires-clause-row : goal.apply_two-requires-clause-row
apply_two-requires-clause-row c = some_inner c.args.outer (result_kind_of c.args.inner (kind_of_tree (operand_tree c.args.left.now)) (kind_of_tree (operand_tree c.args.right.now))) c.requires.rows
