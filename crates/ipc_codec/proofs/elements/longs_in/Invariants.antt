use Rattle.std.proofs.Common.{◌≡◌, ◌≤◌, vec_len, vec_capacity}
use Rattle.ipc_codec.specs.Numbers.{long_of, cells}
use Rattle.ipc_codec.proofs.elements.longs_in.Given as goal

abbrev pub invariant-loop-i : goal.invariant-loop-i
invariant-loop-i g l = record {
  items : l.found.items ≡ cells (long_of g.T.ByteOrder.number_of) 8 l.i l.bytes;
  count : vec_len l.found ≡ l.i;
  room : l.count ≤ vec_capacity l.found;
}
