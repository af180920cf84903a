use Rattle.std.proofs.Common.{◌≡◌, ◌≤◌, length, map, take, vec_len, vec_capacity}
use Rattle.q_keys.proofs.keys.lent.Given as goal

abbrev pub invariant-loop-column : goal.invariant-loop-column
invariant-loop-column l = record {
  items : map (λ c. c.now) l.found.items ≡ take l.column-index l.columns;
  count : vec_len l.found ≡ l.column-index;
  room : length l.columns ≤ vec_capacity l.found;
}
