use Rattle.std.proofs.Common.{ap, ◌≡◌, ◌∙◌, sym, arith, max, [], rules}
use Rattle.plant_memory.specs.Faults.{woven}
use Rattle.plant_memory.proofs.HistoryLemmas.{date_of-chronicle, entries-adopted, history-adopted, since_within, today-chronicle}
use Rattle.plant_memory.proofs.history.History.adopt.Goals as goal

pub count_updates-requires : goal.count_updates-requires
count_updates-requires c =
    let few = rw (← c.self.view_is) at c.requires.few in
    omega (arith, since_within _ _ _ _ _ _ _ _ _ c.self.invariant, few)

pub invariant_of-self : goal.invariant_of-self
invariant_of-self c =
    let date = (rw (← c.self.view_is) at c.requires.date) ∙ date_of-chronicle _ _ _ _ c.self.inside.faults.marks c.self.invariant.follow in
    let none : woven c.self.inside.faults.marks c.self.inside.current.day.updates ≡ [] = sym (today-chronicle _ _ _ _ c.self.inside.faults.marks c.self.invariant.follow) ∙ (rw (← c.self.view_is) at c.requires.begun) in
    rw c.count_updates.ensures (history-adopted _ _ c.self.inside.current.day c.args.day.day _ _ _ _ _ _ _ _ _ c.self.invariant none date (rw (← c.self.view_is) at c.requires.kinds) c.date-date.ensures.lawful c.requires.updates c.requires.rows
    (c.max-self-inside.ensures ∙ ap (max c.self.inside.top_by) c.requires.top) (rw c.requires.top at c.requires.by))

pub returns : goal.returns
returns c =
    let none : woven c.self.inside.faults.marks c.self.inside.current.day.updates ≡ [] = sym (today-chronicle _ _ _ _ c.self.inside.faults.marks c.self.invariant.follow) ∙ (rw (← c.self.view_is) at c.requires.begun) in
    rw (c.count_updates.ensures, entries-adopted c.self.inside.ended.items c.self.inside.faults.marks _ c.args.day.day.updates none) search rules
