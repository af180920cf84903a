use Rattle.std.proofs.Common.{length, ◌-◌, ◌≡◌, ◌≤◌, ◌+◌, drop}
use Rattle.q_text.specs.Words.{is_blank}
use Rattle.qsql_tokens.specs.Tokens.{front}
use Rattle.qsql_tokens.proofs.characters.skip_blanks.Given as goal

abbrev pub invariant-loop-offset : goal.invariant-loop-offset
invariant-loop-offset l = record {
  value : l.offset + front is_blank (drop l.offset l.text) ≡ l.at + front is_blank (drop l.at l.text);
  forward : l.at ≤ l.offset;
}

abbrev pub decreases-loop-offset : goal.decreases-loop-offset
decreases-loop-offset l = length l.text - l.offset
