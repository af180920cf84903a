use Rattle.plant_core_cases.proofs.FaultLemmas.{last_fault-roll}
use Rattle.plant_core_cases.proofs.crashes.script.roll.Goals as goal

pub last_fault-requires : goal.last_fault-requires
last_fault-requires g c = last_fault-roll _ _ _ _ c.in-Failed.ensures
