use Rattle.plant_memory.proofs.HistoryLemmas.{today_counted}
use Rattle.plant_memory.proofs.history.History.updates_today.Goals as goal

pub overflow_sub-result : goal.overflow_sub-result
overflow_sub-result c = (today_counted _ _ _ _ _ _ _ _ _ c.self.invariant).below

pub overflow_sub-result-2 : goal.overflow_sub-result-2
overflow_sub-result-2 c = rw c.len.ensures (today_counted _ _ _ _ _ _ _ _ _ c.self.invariant).few

pub returns : goal.returns
returns c = rw (← c.self.view_is, c.len.ensures) (today_counted _ _ _ _ _ _ _ _ _ c.self.invariant).updates
