use Rattle.std.proofs.Common.{arith}
use Rattle.plant_memory.proofs.HistoryLemmas.{ascend-chronicle}
use Rattle.plant_memory.proofs.ShownLemmas.{length-dates}
use Rattle.plant_memory.proofs.history.History.dates.Goals as goal

pub returns-clause-ascend : goal.returns-clause-ascend
returns-clause-ascend c = rw (← c.self.view_is) (ascend-chronicle _ _ _ _ c.self.inside.faults.marks c.self.invariant.follow)

pub returns-clause-count : goal.returns-clause-count
returns-clause-count c =
    let size = length-dates _ _ _ _ c.self.inside.faults.marks c.self.invariant.follow in
    rw (← c.self.view_is) (omega (arith, size, c.len.ensures, c.self.inside.ended.ok))
