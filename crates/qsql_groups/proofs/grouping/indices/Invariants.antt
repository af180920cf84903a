use Rattle.std.proofs.Common.{◌≡◌, ◌≤◌, length, take, vec_len, vec_capacity}
use Rattle.qsql_groups.proofs.grouping.indices.Given as goal

abbrev pub invariant-loop-number : goal.invariant-loop-number
invariant-loop-number l = record {
  items : l.found.items ≡ take l.number-index l.numbers;
  count : vec_len l.found ≡ l.number-index;
  room : length l.numbers ≤ vec_capacity l.found;
}
