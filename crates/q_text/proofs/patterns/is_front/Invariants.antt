use Rattle.std.proofs.Common.{length, ◌-◌, ◌≡◌, ◌≤◌, ◌+◌, drop}
use Rattle.q_text.specs.Forms.{is_front}
use Rattle.q_text.proofs.patterns.is_front.Given as goal

abbrev pub invariant-loop-offset : goal.invariant-loop-offset
invariant-loop-offset l = record {
  value : is_front (drop l.done l.pattern) (drop l.offset l.word) ≡ is_front l.pattern (drop l.from l.word);
  moved : l.offset ≡ l.from + l.done;
  within : l.offset ≤ length l.word;
}

abbrev pub decreases-loop-offset : goal.decreases-loop-offset
decreases-loop-offset l = length l.word - l.offset
