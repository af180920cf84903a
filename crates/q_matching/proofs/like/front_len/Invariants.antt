use Rattle.std.proofs.Common.{◌≡◌, ◌≤◌, length, drop}
use Rattle.q_verbs.specs.Like.{matches}
use Rattle.q_matching.proofs.like.front_len.Given as goal

abbrev pub invariant-loop-i : goal.invariant-loop-i
invariant-loop-i l = record {
  in_text : l.i ≤ length l.text;
  rest : matches l.pattern l.text ≡ matches (drop l.i l.pattern) (drop l.i l.text);
}
