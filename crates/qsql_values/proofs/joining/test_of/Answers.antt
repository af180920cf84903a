use Rattle.std.proofs.Common.{length, ap, subst}
use Rattle.std.specs.Prelude.{is_some}
use Rattle.qsql_request.specs.Views.{form}
use Rattle.qsql_request.specs.declared.shapes.Shape.TheVariants as s
use Rattle.qsql_values.specs.Frames.{kind_beside}
use Rattle.qsql_values.specs.Operands.{HasShape, operand_tree}
use Rattle.qsql_values.specs.declared.operand.Operand.{Operand}
use Rattle.qsql_values.proofs.ShapeLemmas.{phrase_shape}
use Rattle.qsql_values.proofs.joining.test_of.Goals as goal

pub unreachable-requires : goal.unreachable-requires
unreachable-requires c =
    let shape = phrase_shape c.args.scope.now (kind_beside c.args.scope.now) (form c.args.phrase.now) (operand_tree c.in_ok-value_of.field-0) (ap is_some c.requires.kind) c.requires.built c.in_ok-value_of.ensures.value in
    subst (λ (o : Operand). HasShape (length c.args.scope.now.rows) s.Rows (operand_tree o)) c.in-Atom.is shape

pub returns-clause-size : goal.returns-clause-size
returns-clause-size c =
    let shape = phrase_shape c.args.scope.now (kind_beside c.args.scope.now) (form c.args.phrase.now) (operand_tree c.in_ok-value_of.field-0) (ap is_some c.requires.kind) c.requires.built c.in_ok-value_of.ensures.value in
    subst (λ (o : Operand). HasShape (length c.args.scope.now.rows) s.Rows (operand_tree o)) c.in-Column.is shape
