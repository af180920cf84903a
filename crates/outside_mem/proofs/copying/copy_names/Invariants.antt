use Rattle.std.proofs.Common.{◌≡◌, take}
use Rattle.outside_mem.proofs.copying.copy_names.Given as goal

abbrev pub invariant-loop-i : goal.invariant-loop-i
invariant-loop-i l = l.copied ≡ take l.i l.names
