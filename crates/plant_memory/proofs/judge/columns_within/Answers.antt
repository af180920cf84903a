use Rattle.std.proofs.Common.{sym, ◌∙◌, ap, ◌∷◌, map}
use Rattle.q_values.specs.Tree.{tree}
use Rattle.plant_memory.specs.Items.{spread}
use Rattle.plant_memory.proofs.JudgeLemmas.{columns_fit, record_long}
use Rattle.plant_memory.proofs.judge.columns_within.Goals as goal

pub returns-then-is_long_record : goal.returns-then-is_long_record
returns-then-is_long_record c =
    let made = c.in_ok-columns.ensures ∙ ap (λ n. map (spread n) (tree c.args.first.now ∷ map tree c.args.others.now)) c.count_atoms.ensures in
    record_long c.args.limits.now c.args.rows c.args.name.now (tree c.args.first.now ∷ map tree c.args.others.now) _ (sym c.if-holds_too_much.ensures) (sym (rw c.as_slice.ensures at c.if-is_long_record.ensures)) made

pub returns : goal.returns
returns c =
    let made = c.in_ok-columns.ensures ∙ ap (λ n. map (spread n) (tree c.args.first.now ∷ map tree c.args.others.now)) c.count_atoms.ensures in
    columns_fit c.args.limits.now c.args.rows c.args.name.now (tree c.args.first.now ∷ map tree c.args.others.now) _ (sym c.if-holds_too_much.ensures) (sym (rw c.as_slice.ensures at c.if-is_long_record.ensures)) made
