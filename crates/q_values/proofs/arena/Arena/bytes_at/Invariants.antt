use Rattle.std.proofs.Common.{◌≡◌, length, take, min}
use Rattle.std.specs.List.{sum_by}
use Rattle.q_values.specs.Lists.{gathered}
use Rattle.q_values.proofs.arena.Arena.bytes_at.Given as goal

abbrev pub invariant-loop-place : goal.invariant-loop-place
invariant-loop-place l = l.total ≡ min (sum_by length (gathered l.self (take l.place-index l.places))) 18446744073709551615
