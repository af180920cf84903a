use Rattle.std.proofs.Common.{ap, ◌∙◌, arith, max, List, drop}
use Rattle.day_rows.specs.Day.{Opened}
use Rattle.day_rows.specs.declared.entry.Entry.{Entry}
use Rattle.plant_memory.specs.History.{history_of}
use Rattle.plant_memory.proofs.HistoryLemmas.{history-pushed, entries-pushed, since_within}
use Rattle.plant_memory.proofs.history.History.push.Goals as goal

pub count_updates-requires : goal.count_updates-requires
count_updates-requires c =
    let few = rw (← c.self.view_is) at c.requires.few in
    omega (arith, since_within _ _ _ _ _ _ _ _ _ c.self.invariant, few)

pub invariant_of-self : goal.invariant_of-self
invariant_of-self c =
    rw c.count_updates.ensures (history-pushed _ _ c.self.inside.current.day c.push.new.self.day _ c.args.entry _ _ _ _ _ _ _ c.self.invariant (ap (λ (o : Opened). o.day) c.push.ensures) c.date-date.ensures.lawful
    (c.max-self-inside.ensures ∙ ap (max c.self.inside.top_by) c.by_of-by.ensures) c.rows_of-rows.ensures c.requires.by)

pub returns : goal.returns
returns c =
    rw (← c.self.view_is) (
    (λ i. history_of c.self.inside.first c.self.inside.ended.items (c.push.ensures i) (c.count_updates.ensures i))
    ∙ ap
    (λ (es : List Entry). record { first = c.self.inside.first; kinds = c.self.inside.current.day.kinds; entries = es; room = drop 1 c.self.inside.current.room; spare = c.self.inside.faults.spare })
    (entries-pushed c.self.inside.ended.items c.self.inside.faults.marks c.self.inside.current.day.updates c.args.entry _ c.self.invariant.since_is)
    )
