use Rattle.std.proofs.Common.{◌≡◌, ◌≤◌, length, take, map, vec_len, vec_capacity}
use Rattle.std.specs.Int.{w32, int_wrap}
use Rattle.q_grouped.proofs.totals.narrowed.Given as goal

abbrev pub invariant-loop-sum : goal.invariant-loop-sum
invariant-loop-sum l = record {
  items : l.narrow.items ≡ map (int_wrap w32) (take l.sum-index l.sums);
  count : vec_len l.narrow ≡ l.sum-index;
  room : length l.sums ≤ vec_capacity l.narrow;
}
