use Rattle.std.proofs.Common.{◌≡◌, ◌-◌, ◌++◌, length, drop}
use Rattle.q_text.specs.Numbers.{bytes_of}
use Rattle.q_text.proofs.numbers.push_bytes.Given as goal

abbrev pub invariant-loop-offset : goal.invariant-loop-offset
invariant-loop-offset l = l.numbers.items ++ bytes_of (drop l.offset l.word) ≡ l.fn.numbers.items ++ bytes_of (drop l.from l.word)

abbrev pub decreases-loop-offset : goal.decreases-loop-offset
decreases-loop-offset l = length l.word - l.offset
