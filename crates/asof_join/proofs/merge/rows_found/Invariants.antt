use Rattle.std.proofs.Common.{◌≡◌, ◌≢◌, ℕ, ◌<◌, ◌≤◌, length, get_or, None, Greater}
use Rattle.asof_join.specs.Lines.{pair_cmp, pair_at, order_in, last_seen, numbered, IsFound}
use Rattle.asof_join.proofs.merge.rows_found.Given as goal

abbrev pub invariant-loop-place : goal.invariant-loop-place
invariant-loop-place l = record {
  within : l.next ≤ length l.right.numbers.now;
  seen_size : length l.seen.items ≡ l.fn.groups;
  found_size : length l.found.items ≡ length l.left.numbers.now;
  seen : (g : ℕ) → g < l.fn.groups → get_or l.seen.items g None ≡ last_seen l.right.codes.now (order_in (length l.right.numbers.now) l.of_right) l.next g;
  passed : (p k : ℕ) → p < l.next → l.place ≤ k → k < length l.left.numbers.now
      → pair_cmp (pair_at l.right (get_or (order_in (length l.right.numbers.now) l.of_right) p 0)) (pair_at l.left (get_or (order_in (length l.left.numbers.now) l.of_left) k 0)) ≢ Greater;
  found : (k : ℕ) → k < l.place
      → IsFound (numbered l.right) (numbered l.left) (get_or (order_in (length l.left.numbers.now) l.of_left) k 0) (get_or l.found.items (get_or (order_in (length l.left.numbers.now) l.of_left) k 0) None);
}
