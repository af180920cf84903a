use Rattle.std.proofs.Common.{◌≡◌, ◌≤◌, ◌-◌, ◌^◌, length, drop, min}
use Rattle.q_text.specs.Numbers.{spelled}
use Rattle.q_text.proofs.numbers.spelled.Given as goal

abbrev pub invariant-loop-offset : goal.invariant-loop-offset
invariant-loop-offset l = record {
  value : min (spelled l.number (drop l.offset l.word)) (2 ^ 64 - 1) ≡ min (spelled 0 (drop l.from l.word)) (2 ^ 64 - 1);
  within : l.offset ≤ length l.word;
  fits : l.number ≤ 2 ^ 64 - 1;
}

abbrev pub decreases-loop-offset : goal.decreases-loop-offset
decreases-loop-offset l = length l.word - l.offset
