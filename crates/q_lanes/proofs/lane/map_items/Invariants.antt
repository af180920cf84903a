use Rattle.std.proofs.Common.{◌≡◌, ◌≤◌, length, take, map, vec_len, vec_capacity}
use Rattle.q_lanes.proofs.lane.map_items.Given as goal

abbrev pub invariant-loop-item : goal.invariant-loop-item
invariant-loop-item g l = record {
  items : l.values.items ≡ map (g.P.Rule.value l.rule) (take l.item-index l.items);
  count : vec_len l.values ≡ l.item-index;
  room : length l.items ≤ vec_capacity l.values;
}
