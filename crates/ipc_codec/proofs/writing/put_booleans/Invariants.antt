use Rattle.std.proofs.Common.{◌≡◌, ◌++◌, ◌+◌, ◌≤◌, take, map, length, vec_len, vec_capacity}
use Rattle.std.specs.Prelude.{if◌then◌else◌}
use Rattle.ipc_codec.proofs.writing.put_booleans.Given as goal

abbrev pub invariant-loop-x : goal.invariant-loop-x
invariant-loop-x l = record {
  items : l.out.items ≡ l.initial.out.items ++ map (λ x. if x then 1 else 0) (take l.x-index l.items);
  count : vec_len l.out ≡ vec_len l.initial.out + l.x-index;
  room : vec_len l.initial.out + length l.items ≤ vec_capacity l.out;
}
