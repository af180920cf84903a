use Rattle.std.proofs.Common.{◌≡◌, take}
use Rattle.q_text.proofs.columns.shorts_of.Given as goal

abbrev pub invariant-loop-number : goal.invariant-loop-number
invariant-loop-number l = l.found.items ≡ take l.number-index l.numbers
