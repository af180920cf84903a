use Rattle.std.proofs.Common.{◌≡◌, ◌++◌, drop}
use Rattle.std.specs.Vec.Iter.{into_iter_items}
use Rattle.plant_memory.specs.Faults.{woven, shortened}
use Rattle.plant_memory.proofs.weaving.weave.Given as goal

abbrev pub invariant-loop-mark : goal.invariant-loop-mark
invariant-loop-mark l = l.entries.items ++ woven (shortened l.before (drop l.mark-index l.marks)) (into_iter_items l.rest) ≡ l.fn.entries.items ++ woven (shortened l.fn.since l.marks) l.fn.updates
