use Rattle.std.proofs.Common.{◌≡◌, ◌≤◌, length, map, take, vec_len, vec_capacity}
use Rattle.std.specs.List.{list_any}
use Rattle.std.specs.Ordering.{is_eq, nat_cmp}
use Rattle.std.specs.Cmp.Lexicographic.{slice_cmp}
use Rattle.q_matching.proofs.among_names.among_many.Given as goal

abbrev pub invariant-loop-i : goal.invariant-loop-i
invariant-loop-i g l = record {
  items : l.values.items ≡ map (λ s. list_any (λ t. is_eq (slice_cmp nat_cmp s t.now)) l.items) (take l.i (g.L.TextList.texts l.left));
  count : vec_len l.values ≡ l.i;
  room : length (g.L.TextList.texts l.left) ≤ vec_capacity l.values;
}
