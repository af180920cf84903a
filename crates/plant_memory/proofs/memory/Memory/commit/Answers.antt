use Rattle.std.proofs.Common.{ap, ◌∙◌, sym}
use Rattle.day_rows.specs.Day.{Opened}
use Rattle.plant_memory.proofs.MemoryLemmas.{date_after, today_after}
use Rattle.plant_memory.proofs.memory.Memory.commit.Goals as goal

pub replace-requires-clause-date : goal.replace-requires-clause-date
replace-requires-clause-date c =
    let follows = rw (← c.update.view_is, ← c.self.view_is) at c.requires.follows in
    ap (λ (o : Opened). o.day.date) (c.update.invariant.fresh_is _ c.in-Some.is) ∙ sym (date_after _ _ _ _ _ c.update.inside.fresh _ c.in-Some.is follows)

pub replace-requires-clause-begun : goal.replace-requires-clause-begun
replace-requires-clause-begun c =
    let follows = rw (← c.update.view_is, ← c.self.view_is) at c.requires.follows in
    today_after _ _ _ _ c.update.inside.fresh _ c.in-Some.is follows
