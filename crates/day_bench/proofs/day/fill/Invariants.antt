use Rattle.std.proofs.Common.{◌≡◌}
use Rattle.day_bench.proofs.day.fill.Given as goal

abbrev pub invariant-loop-i : goal.invariant-loop-i
invariant-loop-i l = l.day.day.kinds ≡ l.initial.day.day.kinds
