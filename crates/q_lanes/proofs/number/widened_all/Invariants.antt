use Rattle.std.proofs.Common.{◌≡◌, ◌≤◌, length, take, map, vec_len, vec_capacity}
use Rattle.std.specs.Int.{w64}
use Rattle.q_verbs.specs.Numbers.{number_in}
use Rattle.q_lanes.proofs.number.widened_all.Given as goal

abbrev pub invariant-loop-item : goal.invariant-loop-item
invariant-loop-item g l = record {
  items : map (number_in w64) l.wide.items ≡ map g.T.Number.number (take l.item-index l.items);
  count : vec_len l.wide ≡ l.item-index;
  room : length l.items ≤ vec_capacity l.wide;
}
