use Rattle.std.proofs.Common.{◌≡◌, ◌≤◌, vec_len, vec_capacity, All}
use Rattle.q_grouped.proofs.fold.starts.Given as goal

abbrev pub invariant-loop-group : goal.invariant-loop-group
invariant-loop-group g l = record {
  len : vec_len l.states ≡ l._group;
  room : l.count ≤ vec_capacity l.states;
  each : All (λ s. s ≡ l.start) l.states.items;
}
