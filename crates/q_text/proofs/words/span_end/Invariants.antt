use Rattle.std.proofs.Common.{length, ◌-◌, ◌≡◌, ◌≤◌, ◌+◌, drop}
use Rattle.q_text.specs.Words.{span}
use Rattle.q_text.proofs.words.span_end.Given as goal

abbrev pub invariant-loop-offset : goal.invariant-loop-offset
invariant-loop-offset l = record {
  value : l.offset + span l.class (drop l.offset l.text) ≡ l.at + span l.class (drop l.at l.text);
  forward : l.at ≤ l.offset;
  within : l.offset ≤ length l.text;
}

abbrev pub decreases-loop-offset : goal.decreases-loop-offset
decreases-loop-offset l = length l.text - l.offset
