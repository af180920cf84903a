use Rattle.std.proofs.Common.{◌≡◌, take}
use Rattle.partition_set.proofs.tables.copied_names.Given as goal

abbrev pub invariant-loop-i : goal.invariant-loop-i
invariant-loop-i l = l.names ≡ take l.i l.items
