use Rattle.std.proofs.Common.{◌≡◌, take}
use Rattle.q_filter.specs.Places.{count_of}
use Rattle.q_filter.proofs.filter.count_in_part.Given as goal

abbrev pub invariant-loop-bit : goal.invariant-loop-bit
invariant-loop-bit l = l.count ≡ count_of (take l.bit-index l.bits)
