use Rattle.std.proofs.Common.{inr}
use Rattle.plant_run.proofs.port.host_folder.Goals as goal

pub returns : goal.returns
returns g c = inr (
  g.O.Disk.Disk.shown c.in-Ok.disk,
  g.O.Disk.Disk.shown c.host-disk.result.0,
  (
    g.O.Outside.seen c.end_service-status.new.outside,
    record {
      service = c.host-disk.result.1;
      between = g.O.Outside.seen c.host-disk.new.outside;
      clock_old = c.host-disk.ensures.0;
      clock_new = g.O.Clock.Clock.readings c.host-disk.result.2;
      unread = c.host-disk.ensures.1;
      hosts = rw c.in-Ok.ensures at c.host-disk.ensures.2;
      ends = rw c.back.ensures at c.end_service-status.ensures;
    },
    c.keep.ensures,
  ),
)
