use Rattle.std.proofs.Common.{◌≡◌, ◌-◌, ◌≤◌, length, take, map}
use Rattle.q_binary.specs.Computed.{int_multiple}
use Rattle.q_binary.proofs.int_multiples.multiples_of_ints.Given as goal

abbrev pub invariant-loop-done : goal.invariant-loop-done
invariant-loop-done l = record {
  items : l.values.items ≡ map (int_multiple l.width) (take l.done l.items);
  within : l.done ≤ length l.items;
}

abbrev pub decreases-loop-done : goal.decreases-loop-done
decreases-loop-done l = length l.items - l.done
