use Rattle.std.specs.Io.KnownBytes.{Keeps}
use Rattle.outside_real.proofs.retry.flush_waiting.Given as goal

abbrev pub invariant-loop : goal.invariant-loop
invariant-loop g l = Keeps (g.O.Write.contents l.fn.output) (g.O.Write.contents l.output)
