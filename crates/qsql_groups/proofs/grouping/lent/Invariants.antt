use Rattle.std.proofs.Common.{◌≡◌, ◌≤◌, length, map, take, vec_len, vec_capacity}
use Rattle.qsql_values.specs.Operands.{contents_of}
use Rattle.qsql_groups.proofs.grouping.lent.Given as goal

abbrev pub invariant-loop-key : goal.invariant-loop-key
invariant-loop-key l = record {
  items : map (λ c. c.now) l.columns.items ≡ map contents_of (take l.key-index l.keys);
  count : vec_len l.columns ≡ l.key-index;
  room : length l.keys ≤ vec_capacity l.columns;
}
