use Rattle.plant_core_cases.proofs.FaultLemmas.{last_fault-update}
use Rattle.plant_core_cases.proofs.crashes.script.update.Goals as goal

pub last_fault-last-requires : goal.last_fault-last-requires
last_fault-last-requires g c = last_fault-update _ _ _ _ _ _ _ c.in-Failed.ensures
