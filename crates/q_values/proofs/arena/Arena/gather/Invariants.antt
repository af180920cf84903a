use Rattle.std.proofs.Common.{◌≡◌, take}
use Rattle.q_values.specs.Lists.{gathered}
use Rattle.q_values.proofs.arena.Arena.gather.Given as goal

abbrev pub invariant-loop-place : goal.invariant-loop-place
invariant-loop-place l = l.found ≡ gathered l.self (take l.place-index l.places)
