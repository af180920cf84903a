use Rattle.std.proofs.Common.{◌↔◌, drop}
use Rattle.day_rows.specs.Schema.{AreDistinct}
use Rattle.partition_set.proofs.shapes.are_distinct.Given as goal

abbrev pub invariant-loop-i : goal.invariant-loop-i
invariant-loop-i l = AreDistinct (drop l.i l.names) ↔ AreDistinct l.names
