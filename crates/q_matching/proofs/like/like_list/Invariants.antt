use Rattle.std.proofs.Common.{◌≡◌, ◌≤◌, length, map, take, vec_len, vec_capacity}
use Rattle.q_verbs.specs.Like.{matches}
use Rattle.q_matching.proofs.like.like_list.Given as goal

abbrev pub invariant-loop-i : goal.invariant-loop-i
invariant-loop-i g l = record {
  items : l.values.items ≡ map (matches l.pattern) (take l.i (g.L.TextList.texts l.items));
  count : vec_len l.values ≡ l.i;
  room : length (g.L.TextList.texts l.items) ≤ vec_capacity l.values;
}
