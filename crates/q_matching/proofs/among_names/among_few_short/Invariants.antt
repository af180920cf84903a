use Rattle.std.proofs.Common.{◌≡◌, ◌≤◌, length, map, take, vec_len, vec_capacity}
use Rattle.std.specs.List.{list_any}
use Rattle.std.specs.Ordering.{is_eq, nat_cmp}
use Rattle.std.specs.Cmp.Lexicographic.{slice_cmp}
use Rattle.q_matching.proofs.among_names.among_few_short.Given as goal

abbrev pub invariant-loop-item : goal.invariant-loop-item
invariant-loop-item l = record {
  items : l.values.items ≡ map (λ s. list_any (λ t. is_eq (slice_cmp nat_cmp s t)) l.items) (take l.item-index l.left);
  count : vec_len l.values ≡ l.item-index;
  room : length l.left ≤ vec_capacity l.values;
}
