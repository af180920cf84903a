use Rattle.std.proofs.Common.{◌≡◌, ◌-◌, ◌≤◌, length, take, map}
use Rattle.q_matching.proofs.flags.flags_of.Given as goal

abbrev pub invariant-loop-done : goal.invariant-loop-done
invariant-loop-done g l = record {
  items : l.flags.items ≡ map (g.P.Rule.value l.rule) (take l.done l.items);
  within : l.done ≤ length l.items;
}

abbrev pub decreases-loop-done : goal.decreases-loop-done
decreases-loop-done g l = length l.items - l.done

abbrev pub invariant-loop-i : goal.invariant-loop-i
invariant-loop-i g l = record {
  items : l.flags.items ≡ map (g.P.Rule.value l.rule) (take l.i l.items);
}
