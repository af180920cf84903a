use Rattle.std.proofs.Common.{◌≡◌, ℕ, ◌<◌, ◌≤◌, ◌+◌, ◌||◌, false, get_or}
use Rattle.q_matching.proofs.like.step_any.Given as goal

abbrev pub invariant-loop-i : goal.invariant-loop-i
invariant-loop-i l = record {
  at : l.i ≤ l.n;
  done : (k : ℕ) → l.i ≤ k → k < l.n → get_or l.row k false ≡ (get_or l.initial.row k false || get_or l.row (k + 1) false);
  rest : (k : ℕ) → k < l.i → get_or l.row k false ≡ get_or l.initial.row k false;
  end : get_or l.row l.n false ≡ get_or l.initial.row l.n false;
}

abbrev pub decreases-loop-i : goal.decreases-loop-i
decreases-loop-i l = l.i
