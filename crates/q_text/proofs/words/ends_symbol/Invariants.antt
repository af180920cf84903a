use Rattle.std.proofs.Common.{length, ◌≡◌, ◌≤◌, take, false}
use Rattle.q_text.specs.Words.{in_symbol}
use Rattle.q_text.proofs.words.ends_symbol.Given as goal

abbrev pub invariant-loop-offset : goal.invariant-loop-offset
invariant-loop-offset l = record {
  value : in_symbol false (take l.offset l.text) ≡ in_symbol false (take l.at l.text);
  within : l.offset ≤ length l.text;
}

abbrev pub decreases-loop-offset : goal.decreases-loop-offset
decreases-loop-offset l = l.offset
