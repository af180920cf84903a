use Rattle.std.proofs.Common.{◌≡◌, take}
use Rattle.q_values.proofs.arena.Arena.of_short.Given as goal

abbrev pub invariant-loop-symbol : goal.invariant-loop-symbol
invariant-loop-symbol l = l.arena ≡ take l.symbol-index l.symbols
