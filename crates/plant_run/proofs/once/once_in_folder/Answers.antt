use Rattle.std.proofs.Common.{inr}
use Rattle.plant_run.proofs.once.once_in_folder.Goals as goal

pub returns : goal.returns
returns g c = inr (
  g.O.Disk.Disk.shown c.in-Ok.disk,
  g.O.Disk.Disk.shown c.serve_timed-disk.result.0,
  (
    g.O.Outside.seen c.finish-status.new.outside,
    record {
      course = _;
      between = g.O.Outside.seen c.serve_timed-disk.new.outside;
      clock_old = c.serve_timed-disk.ensures.0;
      clock_new = c.serve_timed-disk.ensures.1;
      handed = _;
      clock = c.serve_timed-disk.ensures.2;
      goes = rw c.in-Ok.ensures at c.serve_timed-disk.ensures.3;
      finishes = c.finish-status.ensures;
    },
    c.keep.ensures,
  ),
)
