use Rattle.plant_memory.proofs.snapshot.Snapshot.column.Goals as goal

pub returns : goal.returns
returns c = rw (← c.self.view_is, ← c.self.invariant.kinds_are) c.column.ensures
