use Rattle.std.proofs.Common.{◌≡◌, ◌+◌, ◌++◌, ◌≤◌, take, length, vec_len, vec_capacity}
use Rattle.q_values.specs.Arena.{moved, lowered}
use Rattle.q_values.proofs.arena.push_moved.Given as goal

abbrev pub invariant-loop-end : goal.invariant-loop-end
invariant-loop-end l = record {
  items : l.ends.items ≡ l.initial.ends.items ++ moved l.base (lowered l.start (take l.end-index l.more));
  count : vec_len l.ends ≡ vec_len l.initial.ends + l.end-index;
  room : vec_len l.initial.ends + length l.more ≤ vec_capacity l.ends;
}
