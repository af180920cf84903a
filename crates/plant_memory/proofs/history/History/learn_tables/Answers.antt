use Rattle.plant_memory.proofs.TableLemmas.{chronicle-tables}
use Rattle.plant_memory.proofs.history.History.learn_tables.Goals as goal

pub returns : goal.returns
returns c = rw (← c.self.view_is) (chronicle-tables _ _ _ _ c.self.inside.faults.marks c.self.invariant.follow)
