use Rattle.std.proofs.Common.{arith, ap, ◌≡◌, ◌∙◌, sym}
use Rattle.day_rows.specs.Day.{total_rows}
use Rattle.plant_memory.specs.Chronicle.{today}
use Rattle.plant_memory.proofs.FaultLemmas.{total_rows-woven}
use Rattle.plant_memory.proofs.HistoryLemmas.{today-chronicle}
use Rattle.plant_memory.proofs.history.History.reserve.Goals as goal

pub reserve-requires-clause-bounded : goal.reserve-requires-clause-bounded
reserve-requires-clause-bounded c =
    let same : total_rows c.self.inside.current.day.updates ≡ total_rows (today c.args.self.now.entries) = rw (← c.self.view_is) (sym (total_rows-woven c.self.inside.faults.marks _) ∙ ap total_rows (sym (today-chronicle _ _ _ _ c.self.inside.faults.marks c.self.invariant.follow))) in
    omega (arith, same, c.requires.bounded)
