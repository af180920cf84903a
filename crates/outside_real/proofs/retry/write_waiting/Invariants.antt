use Rattle.std.proofs.Common.{◌≡◌, ℕ, List, ◌++◌}
use Rattle.std.specs.Io.KnownBytes.{Appends}
use Rattle.outside_real.proofs.retry.write_waiting.Given as goal

-- what is gone from the rest was appended
abbrev pub invariant-loop : goal.invariant-loop
invariant-loop g l = (done : List ℕ) × (l.fn.bytes ≡ done ++ l.rest) × Appends (g.O.Write.contents l.fn.output) (g.O.Write.contents l.output) done
