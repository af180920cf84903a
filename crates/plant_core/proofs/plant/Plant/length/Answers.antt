use Rattle.plant_core.proofs.PlantLemmas.{sound-of}
use Rattle.plant_core.proofs.plant.Plant.length.Goals as goal

pub returns-clause-sound : goal.returns-clause-sound
returns-clause-sound g c = rw (← c.self.view_is) (sound-of c.stored_entries_restart.ensures _ c.self.invariant)
