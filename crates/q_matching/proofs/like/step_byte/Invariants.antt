use Rattle.std.proofs.Common.{◌≡◌, ℕ, ◌<◌, ◌≤◌, ◌+◌, ◌&&◌, false, get_or}
use Rattle.q_verbs.specs.Like.{fits_byte}
use Rattle.q_matching.proofs.like.step_byte.Given as goal

abbrev pub invariant-loop-i : goal.invariant-loop-i
invariant-loop-i l = record {
  done : (k : ℕ) → k < l.i → get_or l.row k false ≡ (fits_byte l.p (get_or l.text k 0) && get_or l.initial.row (k + 1) false);
  rest : (k : ℕ) → l.i ≤ k → get_or l.row k false ≡ get_or l.initial.row k false;
}
