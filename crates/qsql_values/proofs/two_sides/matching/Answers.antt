use Rattle.std.proofs.Common.{◌∙◌}
use Rattle.q_verbs.specs.Sides.{items_of}
use Rattle.qsql_values.specs.Operands.{operand_tree}
use Rattle.qsql_values.specs.Values.{items_in}
use Rattle.qsql_values.proofs.OperandLemmas.{matched}
use Rattle.qsql_values.proofs.two_sides.matching.Goals as goal

pub returns : goal.returns
returns c =
    matched c.in_ok-made.made c.vector.result.now (items_in (operand_tree c.args.right.now)) (items_of c.side.result) (items_in (operand_tree c.args.left.now)).atoms c.text_of.result.now c.text_of.ensures (c.vector.ensures ∙ c.in_ok-pattern.ensures)
    c.side.ensures.items c.in_ok-made.ensures
