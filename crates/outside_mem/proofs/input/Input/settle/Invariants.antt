use Rattle.std.proofs.Common.{◌≡◌, length}
use Rattle.outside_mem.specs.Pieces.{unspent}
use Rattle.outside_mem.proofs.input.Input.settle.Given as goal

abbrev pub invariant-loop-self : goal.invariant-loop-self
invariant-loop-self l = unspent l.self ≡ unspent l.fn.self

abbrev pub decreases-loop-self : goal.decreases-loop-self
decreases-loop-self l = length l.self
