use Rattle.std.proofs.Common.{◌≡◌, ◌≤◌, take, vec_len, vec_capacity}
use Rattle.std.specs.Simd.Lanes.{zip2}
use Rattle.std.specs.Ordering.{nat_cmp}
use Rattle.std.specs.Cmp.Lexicographic.{slice_cmp}
use Rattle.q_binary.proofs.comparison.compare_lists.Given as goal

abbrev pub invariant-loop-i : goal.invariant-loop-i
invariant-loop-i g l = record {
  items : l.values.items ≡ zip2 (λ s t. g.P.Relation.relates (slice_cmp nat_cmp s t)) (take l.i (g.L.TextList.texts l.left)) (take l.i (g.R.TextList.texts l.right));
  count : vec_len l.values ≡ l.i;
  room : l.count ≤ vec_capacity l.values;
}
