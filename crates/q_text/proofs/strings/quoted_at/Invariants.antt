use Rattle.std.proofs.Common.{◌≡◌, ◌≤◌, ◌-◌, length, drop, false}
use Rattle.q_text.specs.Strings.{before, quoted}
use Rattle.q_text.proofs.strings.quoted_at.Given as goal

abbrev pub invariant-loop-offset : goal.invariant-loop-offset
invariant-loop-offset l = record {
  value : before l.bytes.items (l.offset - l.from) (quoted l.escaped (drop l.offset l.text)) ≡ quoted false (drop l.from l.text);
  forward : l.from ≤ l.offset;
  within : l.offset ≤ length l.text;
}

abbrev pub decreases-loop-offset : goal.decreases-loop-offset
decreases-loop-offset l = length l.text - l.offset
