use Rattle.std.proofs.Common.{◌≡◌}
use Rattle.plant_core.specs.Progress.{IsLoading}
use Rattle.plant_core.proofs.load.read_days.Given as goal

abbrev pub invariant-loop : goal.invariant-loop
invariant-loop g l = record {
  loading : IsLoading (g.D.Disk.shown l.origin.value) (g.D.Disk.shown l.disk) l.date l.loading l.memory;
  frame : l.memory.frame ≡ l.initial.memory.frame;
  faults : (g.D.Disk.shown l.disk).faults ≡ (g.D.Disk.shown l.initial.disk).faults;
  tells : (g.D.Disk.shown l.disk).tells ≡ (g.D.Disk.shown l.initial.disk).tells;
}
