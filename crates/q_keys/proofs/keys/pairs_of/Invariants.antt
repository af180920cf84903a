use Rattle.std.proofs.Common.{◌≡◌, ◌≤◌, take, vec_len, vec_capacity}
use Rattle.std.specs.Simd.Lanes.{zip2}
use Rattle.q_keys.specs.Pairs.{pair_number}
use Rattle.q_keys.proofs.keys.pairs_of.Given as goal

abbrev pub invariant-loop-i : goal.invariant-loop-i
invariant-loop-i l = record {
  items : l.pairs.items ≡ zip2 pair_number (take l.i l.firsts.items) (take l.i l.nexts.items);
  count : vec_len l.pairs ≡ l.i;
  room : vec_len l.firsts ≤ vec_capacity l.pairs;
}
