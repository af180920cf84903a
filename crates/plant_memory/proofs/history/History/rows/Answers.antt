use Rattle.std.proofs.Common.{◌∙◌, sym, ap}
use Rattle.day_rows.specs.Day.{total_rows}
use Rattle.plant_memory.proofs.FaultLemmas.{total_rows-woven}
use Rattle.plant_memory.proofs.HistoryLemmas.{today-chronicle}
use Rattle.plant_memory.proofs.history.History.rows.Goals as goal

pub returns : goal.returns
returns c = rw (← c.self.view_is) (c.self.invariant.rows_is ∙ sym (total_rows-woven c.self.inside.faults.marks _) ∙ ap total_rows (sym (today-chronicle _ _ _ _ c.self.inside.faults.marks c.self.invariant.follow)))
