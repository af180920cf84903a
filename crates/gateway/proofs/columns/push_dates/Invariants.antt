use Rattle.std.proofs.Common.{◌≡◌, ◌≤◌, ◌+◌, ◌++◌, replicate, vec_len, vec_capacity}
use Rattle.gateway.proofs.columns.push_dates.Given as goal

abbrev pub invariant-loop-row : goal.invariant-loop-row
invariant-loop-row l = record {
  items : l.dates.items ≡ l.initial.dates.items ++ replicate l._row l.date;
  len : vec_len l.dates ≡ vec_len l.initial.dates + l._row;
  room : vec_len l.initial.dates + l.rows ≤ vec_capacity l.dates;
}
