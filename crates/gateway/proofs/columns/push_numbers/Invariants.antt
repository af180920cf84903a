use Rattle.std.proofs.Common.{◌≡◌, ◌≤◌, ◌+◌, ◌++◌, map, vec_len, vec_capacity}
use Rattle.std.specs.Prelude.{pos}
use Rattle.std.specs.List.{range_with_len}
use Rattle.gateway.proofs.columns.push_numbers.Given as goal

abbrev pub invariant-loop-row : goal.invariant-loop-row
invariant-loop-row l = record {
  items : l.numbers.items ≡ l.initial.numbers.items ++ map (λ i. pos i) (range_with_len 0 l.row);
  len : vec_len l.numbers ≡ vec_len l.initial.numbers + l.row;
  room : vec_len l.initial.numbers + l.rows ≤ vec_capacity l.numbers;
}
