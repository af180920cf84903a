use Rattle.std.proofs.Common.{◌≡◌, ◌≤◌, length, get_or, take, map, vec_len, vec_capacity}
use Rattle.q_keys.proofs.ranking.picked.Given as goal

abbrev pub invariant-loop-index : goal.invariant-loop-index
invariant-loop-index l = record {
  items : l.picked.items ≡ map (λ k. get_or l.items k 0) (take l.index-index l.indices);
  count : vec_len l.picked ≡ l.index-index;
  room : length l.indices ≤ vec_capacity l.picked;
}
