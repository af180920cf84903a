use Rattle.std.proofs.Common.{ap, ap₂, ◌∙◌, sym, ℕ, ◌<◌, List, length, All, subst}
use Rattle.std.specs.Prelude.{is_some}
use Rattle.q_values.specs.declared.kind.Kind.{Kind}
use Rattle.q_verbs.specs.Kinds.{result_kind_of}
use Rattle.qsql_values.specs.Operands.{operand_tree, kind_of_tree}
use Rattle.qsql_groups.specs.OnePass.{shape_by}
use Rattle.qsql_groups.proofs.ByGroupLemmas.{joined_by}
use Rattle.qsql_groups.proofs.StepLemmas.{lent_kind, lent_sides, two_values}
use Rattle.qsql_groups.proofs.values.two_sides.Goals as goal

pub by_item-requires-clause-row : goal.by_item-requires-clause-row
by_item-requires-clause-row c =
    let first = ap kind_of_tree c.in_ok-first.ensures ∙ lent_kind c.has_rows-by_row.result c.args.left.by_row c.args.groups.now.codes (operand_tree c.args.left.value) in
    let second = ap kind_of_tree c.in_ok-second.ensures ∙ lent_kind c.has_rows-by_row.result c.args.right.by_row c.args.groups.now.codes (operand_tree c.args.right.value) in
    ap₂ (λ (kl kr : Kind). is_some (result_kind_of c.args.verb kl kr)) first second ∙ c.requires.row

pub by_item-requires-clause-even : goal.by_item-requires-clause-even
by_item-requires-clause-even c =
    lent_sides c.args.groups.now c.args.left.by_row c.args.right.by_row c.has_rows-by_row.result (operand_tree c.args.left.value) (operand_tree c.args.right.value) (operand_tree c.in_ok-first.first) (operand_tree c.in_ok-second.second)
    c.has_rows-by_row.ensures (subst (λ (cs : List ℕ). All (λ (i : ℕ). i < length c.args.groups.now.firsts) cs) c.codes-codes.ensures.codes c.codes-codes.ensures.within) c.requires.left c.requires.right c.in_ok-first.ensures c.in_ok-second.ensures

pub returns-clause-values : goal.returns-clause-values
returns-clause-values c =
    two_values c.args.groups.now c.args.verb c.args.left.by_row c.args.right.by_row c.has_rows-by_row.result (operand_tree c.args.left.value) (operand_tree c.args.right.value) (operand_tree c.in_ok-first.first) (operand_tree c.in_ok-second.second)
    (operand_tree c.in_ok-value.value) c.requires.verb c.has_rows-by_row.ensures (subst (λ (cs : List ℕ). All (λ (i : ℕ). i < length c.args.groups.now.firsts) cs) c.codes-codes.ensures.codes c.codes-codes.ensures.within) c.requires.left
    c.requires.right c.kind_of-left.ensures.kinds c.kind_of-right.ensures.kinds c.in_ok-first.ensures c.in_ok-second.ensures c.in_ok-value.ensures.value

pub returns-clause-kind : goal.returns-clause-kind
returns-clause-kind c =
    let first = ap kind_of_tree c.in_ok-first.ensures ∙ lent_kind c.has_rows-by_row.result c.args.left.by_row c.args.groups.now.codes (operand_tree c.args.left.value) in
    let second = ap kind_of_tree c.in_ok-second.ensures ∙ lent_kind c.has_rows-by_row.result c.args.right.by_row c.args.groups.now.codes (operand_tree c.args.right.value) in
    ap₂ (λ (kl kr : Kind). result_kind_of c.args.verb kl kr) (sym first) (sym second) ∙ c.in_ok-value.ensures.kind

pub returns-clause-shape : goal.returns-clause-shape
returns-clause-shape c = joined_by c.args.left.by_row c.args.right.by_row ∙ ap shape_by (sym c.has_rows-by_row.ensures)
