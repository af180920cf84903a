use Rattle.std.proofs.Common.{ℕ, List, length, ap, ap₂, ◌∙◌, sym}
use Rattle.qsql_request.specs.Views.{form}
use Rattle.qsql_values.specs.Frames.{Frame}
use Rattle.qsql_values.specs.Operands.{operand_tree}
use Rattle.qsql_groups.specs.OnePass.{per_group}
use Rattle.qsql_groups.proofs.ByGroupLemmas.{value_at, value_for}
use Rattle.qsql_groups.proofs.by_group.values_at_once.Goals as goal

pub returns : goal.returns
returns c =
    let g = c.args.grouping.now in
    let e = form c.args.expr.now in
    let t = operand_tree c.in_ok-made.made.value in
    c.in_ok-items.ensures
    ∙ ap (λ (n : ℕ). per_group n t) (c.len.ensures ∙ sym (ap length c.groups.ensures.firsts))
    ∙ value_for c.rows-rows.result c.groups.result.now e c.in_ok-made.made.by_row t c.in_ok-made.ensures c.requires.value.scalar
    ∙ ap (λ (f : Frame). value_at f c.groups.result.now.codes e (length c.groups.result.now.firsts)) c.rows-rows.ensures
    ∙ ap₂ (λ (cs fs : List ℕ). value_at g.rows cs e (length fs)) c.groups.ensures.codes c.groups.ensures.firsts
