use Rattle.std.proofs.Common.{ap, ◌∙◌, sym, subst}
use Rattle.day_rows.specs.Day.{Day}
use Rattle.plant_memory.specs.History.{IsHistory, history_of}
use Rattle.plant_memory.proofs.FaultLemmas.{woven-none}
use Rattle.plant_memory.proofs.HistoryLemmas.{same_day, date_of-chronicle, today-chronicle}
use Rattle.plant_memory.proofs.history.History.replace.Goals as goal

pub invariant_of-self : goal.invariant_of-self
invariant_of-self c =
    let date = (rw (← c.self.view_is) at c.requires.date) ∙ date_of-chronicle _ _ _ _ c.self.inside.faults.marks c.self.invariant.follow in
    let none = c.requires.none ∙ sym (woven-none c.self.inside.faults.marks _ (sym (today-chronicle _ _ _ _ c.self.inside.faults.marks c.self.invariant.follow) ∙ (rw (← c.self.view_is) at c.requires.begun))) in
    let same = same_day c.args.fresh.day c.self.inside.current.day date (rw (← c.self.view_is) at c.requires.kinds) none in
    subst (λ (d : Day). IsHistory c.self.inside.first c.self.inside.ended.items d c.self.inside.faults.marks c.self.inside.faults.since c.self.inside.length c.self.inside.opened_at c.self.inside.rows c.self.inside.top_by) (sym same) c.self.invariant

pub returns : goal.returns
returns c =
    let date = (rw (← c.self.view_is) at c.requires.date) ∙ date_of-chronicle _ _ _ _ c.self.inside.faults.marks c.self.invariant.follow in
    let none = c.requires.none ∙ sym (woven-none c.self.inside.faults.marks _ (sym (today-chronicle _ _ _ _ c.self.inside.faults.marks c.self.invariant.follow) ∙ (rw (← c.self.view_is) at c.requires.begun))) in
    let same = same_day c.args.fresh.day c.self.inside.current.day date (rw (← c.self.view_is) at c.requires.kinds) none in
    rw (← c.self.view_is) (ap (λ (d : Day). history_of c.self.inside.first c.self.inside.ended.items (record { day = d; room = c.args.fresh.room }) c.self.inside.faults) same)
