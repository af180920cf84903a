use Rattle.std.proofs.Common.{◌≡◌, ◌≢◌, ℕ, ◌<◌, ◌≤◌, ◌-◌, length, get_or, None, Greater}
use Rattle.asof_join.specs.Lines.{pair_cmp, pair_at, order_in, last_seen}
use Rattle.asof_join.proofs.merge.see_up_to.Given as goal

abbrev pub invariant-loop-place : goal.invariant-loop-place
invariant-loop-place l = record {
  above : l.fn.next ≤ l.place;
  within : l.place ≤ length l.right.numbers.now;
  size : length l.seen.items ≡ length l.fn.seen.items;
  seen : (g : ℕ) → g < length l.fn.seen.items → get_or l.seen.items g None ≡ last_seen l.right.codes.now (order_in (length l.right.numbers.now) l.order) l.place g;
  passed : (p : ℕ) → l.fn.next ≤ p → p < l.place → pair_cmp (pair_at l.right (get_or (order_in (length l.right.numbers.now) l.order) p 0)) l.fn.pair ≢ Greater;
}

abbrev pub decreases-loop-place : goal.decreases-loop-place
decreases-loop-place l = length l.right.numbers.now - l.place
