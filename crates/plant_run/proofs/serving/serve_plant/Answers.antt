use Rattle.std.proofs.Common.{refl}
use Rattle.plant_core.specs.Plant.{shown_by}
use Rattle.plant_run.proofs.GoesLemmas.{sound-keeps}
use Rattle.plant_run.proofs.serving.serve_plant.Goals as goal

pub returns-in-Err : goal.returns-in-Err
returns-in-Err g c =
    (c.in-Err.ensures, refl, rw c.close.ensures.disk (sound-keeps (shown_by g.D.Disk.shown c.args.plant) c.close.ensures.sound))
