use Rattle.std.proofs.Common.{◌≡◌, ℕ, Some, refl}
use Rattle.std.proofs.lemmas.Result.{IfOk-at_ok}
use Rattle.q_verbs.specs.Kinds.{result_kind1_of}
use Rattle.qsql_request.specs.Forms.{one}
use Rattle.qsql_request.specs.Shapes.{shape_of_one}
use Rattle.qsql_values.specs.Operands.{operand_tree, kind_of_tree}
use Rattle.qsql_values.specs.Values.{value_of_one}
use Rattle.qsql_groups.specs.OnePass.{IsByGroup, IsForGroups, of_group, shape_by}
use Rattle.qsql_groups.specs.declared.values.ByGroup.{ByGroup}
use Rattle.qsql_groups.proofs.ByGroupLemmas.{by_three, one_by_group}
use Rattle.qsql_groups.proofs.values.of_one.Goals as goal

pub returns-in-Ok : goal.returns-in-Ok
returns-in-Ok c frame e is =
    let verb = c.args.verb in
    let groups = c.args.groups.now in
    let side = c.in-Ok.side in
    let found = IfOk-at_ok (λ (s : ByGroup). IsByGroup frame groups e s.by_row (operand_tree s.value)) c.in-Ok.is is in
    by_three
    c.one_side.result
    (λ (v : ByGroup). IsForGroups groups (λ (g : ℕ). value_of_one verb (of_group side.by_row g groups.codes (operand_tree side.value))) v.by_row (operand_tree v.value))
    (λ (v : ByGroup). result_kind1_of verb (kind_of_tree (operand_tree side.value)) ≡ Some (kind_of_tree (operand_tree v.value)))
    (λ (v : ByGroup). shape_of_one verb (shape_by side.by_row) ≡ shape_by v.by_row)
    (λ (v : ByGroup). IsByGroup frame groups (one verb e) v.by_row (operand_tree v.value))
    (λ v values kind shape. one_by_group frame groups (one verb e) verb e side.by_row (operand_tree side.value) v.by_row (operand_tree v.value) refl found values kind shape)
    c.one_side.ensures.values
    c.one_side.ensures.kind
    c.one_side.ensures.shape
