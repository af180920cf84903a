use Rattle.std.proofs.Common.{rules, refl, inr}
use Rattle.outside_mem.specs.MemDisk.{shown_by}
use Rattle.mem_plant.proofs.NewLemmas.{new-is}
use Rattle.plant_run.proofs.once.once_in_memory.Goals as goal

pub returns : goal.returns
returns g c = inr (
  shown_by c.format.new.disk,
  shown_by c.serve_timed-disk.result.0,
  refl,
  record {
    made = search rules;
    unchanged = search rules;
    restarts = c.in-Ok.ensures.restarts;
    manifest = c.in-Ok.ensures.manifest;
    counts = search rules;
  },
  (λ date plant p. new-is c.files_restart_once.ensures (shown_by c.format.new.disk) c.args.schema date c.args.limits.now plant
      (rw c.schema.view_is at c.schema.invariant) refl (c.in-Ok.ensures.restarts refl plant.frame.first) (c.in-Ok.ensures.manifest refl)
      p.loaded p.tables_are p.limits_are),
  record {
    course = _;
    between = g.O.Outside.seen c.serve_timed-disk.new.outside;
    clock_old = c.serve_timed-disk.ensures.0;
    clock_new = c.serve_timed-disk.ensures.1;
    handed = _;
    clock = c.serve_timed-disk.ensures.2;
    goes = c.serve_timed-disk.ensures.3;
    finishes = c.finish.ensures;
  },
)
