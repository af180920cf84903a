use Rattle.plant_run.proofs.port.host.Goals as goal

pub returns : goal.returns
returns g c = (
  g.O.Clock.Clock.readings c.clock-clock.result,
  c.clock-clock.ensures.fresh,
  rw c.clock-clock.ensures.same at c.host_disk-disk.ensures,
)
