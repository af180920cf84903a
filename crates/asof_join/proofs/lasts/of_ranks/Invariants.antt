use Rattle.std.proofs.Common.{◌≡◌, ◌≤◌, length, take, map, vec_len, vec_capacity, pos}
use Rattle.asof_join.proofs.lasts.of_ranks.Given as goal

abbrev pub invariant-loop-rank : goal.invariant-loop-rank
invariant-loop-rank l = record {
  items : l.numbers.items ≡ map (λ x. pos x) (take l.rank-index l.ranks);
  count : vec_len l.numbers ≡ l.rank-index;
  room : length l.ranks ≤ vec_capacity l.numbers;
}
