use Rattle.std.proofs.Common.{◌≡◌, ◌≤◌, vec_len, vec_capacity}
use Rattle.ipc_codec.specs.Numbers.{integer_of, cells}
use Rattle.ipc_codec.proofs.elements.integers_in.Given as goal

abbrev pub invariant-loop-i : goal.invariant-loop-i
invariant-loop-i g l = record {
  items : l.found.items ≡ cells (integer_of g.T.ByteOrder.number_of) 4 l.i l.bytes;
  count : vec_len l.found ≡ l.i;
  room : l.count ≤ vec_capacity l.found;
}
