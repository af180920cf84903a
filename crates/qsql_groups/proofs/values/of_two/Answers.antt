use Rattle.std.proofs.Common.{◌≡◌, ℕ, false, Some, refl, sym, ◌∙◌}
use Rattle.std.proofs.lemmas.Result.{IfOk-at_ok}
use Rattle.q_verbs.specs.Kinds.{result_kind_of}
use Rattle.qsql_request.specs.Forms.{two}
use Rattle.qsql_request.specs.Shapes.{shape_of_two}
use Rattle.qsql_values.specs.Operands.{operand_tree, kind_of_tree}
use Rattle.qsql_values.specs.Values.{value_of_two}
use Rattle.qsql_groups.specs.OnePass.{IsByGroup, IsForGroups, of_group, shape_by}
use Rattle.qsql_groups.specs.declared.values.ByGroup.{ByGroup}
use Rattle.qsql_groups.proofs.ByGroupLemmas.{by_three, two_by_group}
use Rattle.qsql_groups.proofs.values.of_two.Goals as goal

pub returns-in-Ok-right : goal.returns-in-Ok-right
returns-in-Ok-right c frame e f test kind left right =
    let verb = c.args.verb in
    let groups = c.args.groups.now in
    let l = c.in-Ok.first in
    let r = c.in-Ok-right.second in
    let first = IfOk-at_ok (λ (s : ByGroup). IsByGroup frame groups e s.by_row (operand_tree s.value)) c.in-Ok.is left in
    let second = IfOk-at_ok (λ (s : ByGroup). IsByGroup frame groups f s.by_row (operand_tree s.value)) (sym c.replace-right.ensures.value ∙ c.in-Ok-right.is) right in
    by_three
    c.two_sides.result
    (λ (v : ByGroup). IsForGroups groups (λ (g : ℕ). value_of_two verb (of_group l.by_row g groups.codes (operand_tree l.value)) (of_group r.by_row g groups.codes (operand_tree r.value))) v.by_row (operand_tree v.value))
    (λ (v : ByGroup). result_kind_of verb (kind_of_tree (operand_tree l.value)) (kind_of_tree (operand_tree r.value)) ≡ Some (kind_of_tree (operand_tree v.value)))
    (λ (v : ByGroup). shape_of_two false (shape_by l.by_row) (shape_by r.by_row) ≡ shape_by v.by_row)
    (λ (v : ByGroup). IsByGroup frame groups (two verb e f) v.by_row (operand_tree v.value))
    (λ v values kinds shape. two_by_group frame groups (two verb e f) verb e f l.by_row (operand_tree l.value) r.by_row (operand_tree r.value) v.by_row (operand_tree v.value) refl test kind first second values kinds shape)
    c.two_sides.ensures.values
    c.two_sides.ensures.kind
    c.two_sides.ensures.shape
