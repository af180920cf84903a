use Rattle.std.proofs.Common.{◌≡◌, cond, sym, ◌∙◌, ap, w32, w64, to_z, of_z, rules}
use Rattle.plant_memory.proofs.JudgeLemmas.{passes_items, fits_items}
use Rattle.plant_memory.proofs.judge.judge_items.Goals as goal
use Rattle.plant_memory.proofs.judge.judge_items.Goals.{then-rolls, else-rolls}

pub returns-clause-rules : goal.returns-clause-rules
returns-clause-rules c =
    let left : c.if-rolls.rows ≡ cond c.is_next_day-rolls.result 0 c.args.standing.now.rows =
    elim c.if-rolls.branch [
      | then-rolls w ↦ w.rows-is ∙ ap (λ b. cond b 0 c.args.standing.now.rows) (sym w.if-rolls.true)
      | else-rolls w ↦ w.rows-is ∙ ap (λ b. cond b 0 c.args.standing.now.rows) (sym w.if-rolls.false)
    ] in
    let date : to_z w32 (of_z w32 c.args.standing.now.date) ≡ c.args.standing.now.date = search rules in
    let moment : to_z w64 (of_z w64 c.args.standing.now.moment) ≡ c.args.standing.now.moment = search rules in
    let near = rw (date, moment) at c.if-is_past_next_day.ensures in
    let rolls = rw (date, moment) at c.is_next_day-rolls.ensures in
    passes_items _ _ _ _ _ _ _ _ _ _ c.is_next_day-rolls.result c.if-rolls.rows _ (sym c.if-not-have_matching_lengths.ensures) (sym c.in_default.ensures.value) (sym near) rolls left c.in_ok-columns.ensures

pub returns-clause-fits : goal.returns-clause-fits
returns-clause-fits c =
    fits_items _ _ _ _ _ _ _ c.is_next_day-rolls.result c.if-rolls.rows _ c.requires.lawful (sym c.if-not-have_matching_lengths.ensures) (sym c.in_default.ensures.value) c.in_ok-columns.ensures
