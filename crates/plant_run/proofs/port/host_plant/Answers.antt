use Rattle.std.proofs.Common.{ap}
use Rattle.plant_core.specs.Plant.{shown_by}
use Rattle.program_outside.specs.Outside.{OutsideView}
use Rattle.plant_run.proofs.GoesLemmas.{sound-keeps}
use Rattle.plant_run.proofs.port.host_plant.Goals as goal

pub returns-in-Err : goal.returns-in-Err
returns-in-Err g c =
    (c.in-Err.ensures, rw c.close.ensures.disk (sound-keeps (shown_by g.D.Disk.shown c.args.plant) c.close.ensures.sound))

pub serve_port-plant-requires-clause-listening : goal.serve_port-plant-requires-clause-listening
serve_port-plant-requires-clause-listening g c κs within =
    (c.args.door.port, ap (λ (seen : OutsideView). seen.listening) c.in_default.ensures)

pub returns : goal.returns
returns g c = record {
  closed = c.serve_port-plant.result.0.memory;
  serves = rw c.in_default.ensures at c.serve_port-plant.ensures.served;
  kept = rw c.close-2.ensures.disk
      (rw c.serve_port-plant.ensures.origin at (sound-keeps (shown_by g.D.Disk.shown c.serve_port-plant.result.0) c.close-2.ensures.sound));
}
