use Rattle.std.proofs.Common.{◌≡◌, Some, sym, ap, ◌∙◌}
use Rattle.q_values.specs.declared.kind.Kind.{Kind}
use Rattle.qsql_request.specs.Views.{form}
use Rattle.qsql_values.specs.Frames.{Frame, kind_beside}
use Rattle.qsql_values.specs.Kinds.{kind_in}
use Rattle.qsql_values.specs.Operands.{kind_of_tree, operand_tree}
use Rattle.qsql_groups.proofs.by_group.push_value.Goals as goal

same : (x y : Kind) → Some x ≡ Some y → x ≡ y
same x y e = cc

pub push_items-requires : goal.push_items-requires
push_items-requires c =
    let kind : kind_in (kind_beside c.args.grouping.now.rows) (form c.args.expr.now) ≡ Some (kind_of_tree (operand_tree c.in_ok-value.value)) =
    ap (λ (f : Frame). kind_in (kind_beside f) (form c.args.expr.now)) (sym c.rows_at-rows.ensures) ∙ c.in_ok-value.ensures.kind in
    same (kind_of_tree (operand_tree c.in_ok-value.value)) c.args.items.now.kind (sym kind ∙ c.requires.kind)
