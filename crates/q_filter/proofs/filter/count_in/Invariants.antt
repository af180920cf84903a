use Rattle.std.proofs.Common.{◌≡◌, ◌≤◌, ◌-◌, length, take}
use Rattle.q_filter.specs.Places.{count_of}
use Rattle.q_filter.proofs.filter.count_in.Given as goal

abbrev pub invariant-loop-done : goal.invariant-loop-done
invariant-loop-done l = record {
  count : l.count ≡ count_of (take l.done l.bits);
  within : l.done ≤ length l.bits;
}

abbrev pub decreases-loop-done : goal.decreases-loop-done
decreases-loop-done l = length l.bits - l.done
