use Rattle.std.proofs.Common.{◌≡◌, length, take, drop}
use Rattle.q_lanes.proofs.lane.sixteen_from.Given as goal

abbrev pub invariant-loop-k : goal.invariant-loop-k
invariant-loop-k g l = record {
  size : length l.block ≡ 16;
  done : take l.k l.block ≡ take l.k (drop l.from (g.I.Items.list l.items));
}
