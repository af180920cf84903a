use Rattle.std.proofs.Common.{refl, Some, []}
use Rattle.ticking_clock.specs.Clock.{ticks}
use Rattle.plant_run.proofs.serving.serve_timed.Goals as goal

pub returns-in-Some : goal.returns-in-Some
returns-in-Some g c =
    let n = c.serve_ticking-disk.ensures.0 in
    (Some [], Some (ticks c.in-Some.ticking.start c.in-Some.ticking.step n), rw c.in-Some.is (refl, (n, refl), refl), c.serve_ticking-disk.ensures.1)

pub returns-in-None : goal.returns-in-None
returns-in-None g c = (
  g.O.Clock.Clock.readings c.clock-clock.result,
  g.O.Clock.Clock.readings c.serve-disk.new.clock,
  rw c.in-None.is (c.clock-clock.ensures.fresh, refl),
  rw c.clock-clock.ensures.same at c.serve-disk.ensures,
)
