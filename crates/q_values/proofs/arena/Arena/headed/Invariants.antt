use Rattle.std.proofs.Common.{◌≡◌, take, map}
use Rattle.q_values.specs.Arena.{with_head}
use Rattle.q_values.proofs.arena.Arena.headed.Given as goal

abbrev pub invariant-loop-i : goal.invariant-loop-i
invariant-loop-i l = map (λ pair. (pair.0, pair.1.now)) l.texts.items ≡ map with_head (take l.i l.self)
