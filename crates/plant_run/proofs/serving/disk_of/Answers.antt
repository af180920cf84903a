use Rattle.plant_core.specs.Plant.{shown_by}
use Rattle.plant_run.proofs.GoesLemmas.{sound-keeps}
use Rattle.plant_run.proofs.serving.disk_of.Goals as goal

pub returns : goal.returns
returns g c =
    rw (← c.into_plant.ensures.origin, ← c.into_plant.ensures.frame, ← c.into_plant.ensures.entries, c.close.ensures.disk)
    (sound-keeps (shown_by g.D.Disk.shown c.into_plant.result) c.close.ensures.sound)
