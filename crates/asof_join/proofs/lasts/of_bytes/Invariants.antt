use Rattle.std.proofs.Common.{◌≡◌, ◌≤◌, length, take, map, vec_len, vec_capacity, pos, cond}
use Rattle.asof_join.proofs.lasts.of_bytes.Given as goal

abbrev pub invariant-loop-item : goal.invariant-loop-item
invariant-loop-item l = record {
  items : l.numbers.items ≡ map (λ x. pos x) (take l.item-index l.items);
  count : vec_len l.numbers ≡ l.item-index;
  room : length l.items ≤ vec_capacity l.numbers;
}
