use Rattle.std.proofs.Common.{ap, List}
use Rattle.day_rows.specs.declared.entry.Entry.{Entry}
use Rattle.plant_memory.proofs.HistoryLemmas.{history-failed, entries-failed}
use Rattle.plant_memory.proofs.history.History.push_fault.Goals as goal

pub invariant_of-self : goal.invariant_of-self
invariant_of-self c =
    history-failed _ _ c.self.inside.current.day _ _ c.args.by _ _ _ _ _ _ _ c.self.invariant c.push.ensures.marks c.push.ensures.since c.max-self-inside.ensures c.requires.by

pub returns : goal.returns
returns c =
    rw (← c.self.view_is) (ap
    (λ (es : List Entry). record { first = c.self.inside.first; kinds = c.self.inside.current.day.kinds; entries = es; room = c.self.inside.current.room; spare = c.push.new.self.spare })
    (entries-failed c.self.inside.ended.items c.self.inside.faults.marks _ c.self.inside.current.day.updates c.args.by _ c.push.ensures.marks c.self.invariant.since_is))
