use Rattle.std.proofs.Common.{◌≡◌, ◌≤◌, length, map, take, vec_len, vec_capacity}
use Rattle.std.specs.HashSet.{contains}
use Rattle.q_matching.proofs.among_names.among_items.Given as goal

abbrev pub invariant-loop-item : goal.invariant-loop-item
invariant-loop-item g l = record {
  items : l.values.items ≡ map (contains g.T.PartialEq.eq l.set) (take l.item-index l.left);
  count : vec_len l.values ≡ l.item-index;
  room : length l.left ≤ vec_capacity l.values;
}
