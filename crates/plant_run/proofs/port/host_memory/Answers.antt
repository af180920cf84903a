use Rattle.std.proofs.Common.{rules, refl, inr}
use Rattle.outside_mem.specs.MemDisk.{shown_by}
use Rattle.mem_plant.proofs.NewLemmas.{new-is}
use Rattle.plant_run.proofs.port.host_memory.Goals as goal

pub returns : goal.returns
returns g c = inr (
  shown_by c.format.new.disk,
  shown_by c.host-disk.result.0,
  refl,
  record {
    made = search rules;
    unchanged = search rules;
    restarts = c.in-Ok.ensures.restarts;
    manifest = c.in-Ok.ensures.manifest;
    counts = search rules;
  },
  (λ date plant p. new-is c.files_restart_once.ensures (shown_by c.format.new.disk) c.args.schema date c.args.limits.now plant
      (rw c.schema.view_is at c.schema.invariant) refl (c.in-Ok.ensures.restarts refl plant.frame.first) (c.in-Ok.ensures.manifest refl)
      p.loaded p.tables_are p.limits_are),
  record {
    service = c.host-disk.result.1;
    between = g.O.Outside.seen c.host-disk.new.outside;
    clock_old = c.host-disk.ensures.0;
    clock_new = g.O.Clock.Clock.readings c.host-disk.result.2;
    unread = c.host-disk.ensures.1;
    hosts = c.host-disk.ensures.2;
    ends = rw c.back.ensures at c.end_service.ensures;
  },
)
