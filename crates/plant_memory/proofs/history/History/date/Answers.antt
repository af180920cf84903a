use Rattle.std.proofs.Common.{◌≡◌, ◌∙◌, sym, w32, to_z, of_z, rules}
use Rattle.plant_memory.proofs.HistoryLemmas.{date_of-chronicle, ascend-chronicle}
use Rattle.plant_memory.proofs.history.History.date.Goals as goal

pub returns-clause-value : goal.returns-clause-value
returns-clause-value c =
    let same : to_z w32 (of_z w32 c.date.result) ≡ c.date.result = search rules in
    rw (← c.self.view_is) (same ∙ c.date.ensures.value ∙ sym (date_of-chronicle _ _ _ _ c.self.inside.faults.marks c.self.invariant.follow))

pub returns-clause-first : goal.returns-clause-first
returns-clause-first c =
    let same : to_z w32 (of_z w32 c.date.result) ≡ c.date.result = search rules in
    rw (same, c.date.ensures.value) c.self.invariant.early

pub returns-clause-last : goal.returns-clause-last
returns-clause-last c =
    let same : to_z w32 (of_z w32 c.date.result) ≡ c.date.result = search rules in
    rw (same, c.date.ensures.value) c.self.invariant.late

pub returns-clause-ascend : goal.returns-clause-ascend
returns-clause-ascend c = rw (← c.self.view_is) (ascend-chronicle _ _ _ _ c.self.inside.faults.marks c.self.invariant.follow)
