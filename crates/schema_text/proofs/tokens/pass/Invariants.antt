use Rattle.std.proofs.Common.{length, ◌-◌, ◌≡◌, ◌≤◌, ◌+◌, drop}
use Rattle.schema_text.specs.Tokens.{passed}
use Rattle.schema_text.proofs.tokens.pass.Given as goal

abbrev pub invariant-loop-offset : goal.invariant-loop-offset
invariant-loop-offset l = record {
  value : l.offset + passed l.mode (drop l.offset l.text) ≡ l.at + passed l.fn.start (drop l.at l.text);
  within : l.offset ≤ length l.text;
}

abbrev pub decreases-loop-offset : goal.decreases-loop-offset
decreases-loop-offset l = length l.text - l.offset
