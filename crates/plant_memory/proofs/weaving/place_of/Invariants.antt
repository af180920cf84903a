use Rattle.plant_memory.proofs.TailLemmas.{HasPassed}
use Rattle.plant_memory.proofs.weaving.place_of.Given as goal

abbrev pub invariant-loop-faults : goal.invariant-loop-faults
invariant-loop-faults l = HasPassed l.marks l.count l.index l.faults l.updates l.since
