use Rattle.std.proofs.Common.{◌≡◌, ◌≤◌, ◌-◌, ◌++◌, length, drop}
use Rattle.q_text.specs.Numbers.{bits_of}
use Rattle.q_text.proofs.numbers.push_bits.Given as goal

abbrev pub invariant-loop-offset : goal.invariant-loop-offset
invariant-loop-offset l = record {
  value : l.numbers.items ++ bits_of (drop l.offset l.word) ≡ l.fn.numbers.items ++ bits_of l.word;
  within : l.offset ≤ length l.word;
}

abbrev pub decreases-loop-offset : goal.decreases-loop-offset
decreases-loop-offset l = length l.word - l.offset
