use Rattle.std.proofs.Common.{◌≡◌, ℕ, ◌<◌, ◌≤◌, length, get_or}
use Rattle.q_keys.proofs.ranking.replaced.Given as goal

abbrev pub invariant-loop-k : goal.invariant-loop-k
invariant-loop-k l = record {
  size : length l.found.items ≡ length l.fn.indices.items;
  rest : (j : ℕ) → l.k ≤ j → get_or l.found.items j 0 ≡ get_or l.fn.indices.items j 0;
  done : (j : ℕ) → j < l.k → get_or l.found.items j 0 ≡ get_or l.items (get_or l.fn.indices.items j 0) 0;
}
