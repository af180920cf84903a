use Rattle.std.proofs.Common.{◌≡◌, ◌≤◌, vec_len, vec_capacity}
use Rattle.ipc_codec.specs.Numbers.{boolean_of, cells}
use Rattle.ipc_codec.proofs.elements.booleans_in.Given as goal

abbrev pub invariant-loop-i : goal.invariant-loop-i
invariant-loop-i l = record {
  items : l.found.items ≡ cells boolean_of 1 l.i l.bytes;
  count : vec_len l.found ≡ l.i;
  room : l.count ≤ vec_capacity l.found;
}
