use Rattle.std.proofs.Common.{◌≡◌, length, take}
use Rattle.asof_join.proofs.source.have_names.Given as goal

abbrev pub invariant-loop-i : goal.invariant-loop-i
invariant-loop-i l = take l.i l.names ≡ take l.i l.shown
