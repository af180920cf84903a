use Rattle.std.proofs.Common.{arith}
use Rattle.q_values.proofs.ArenaLemmas.{length-cut}
use Rattle.q_values.proofs.arena.Arena.len.Goals as goal

pub returns : goal.returns
returns c = rw (← c.self.view_is, length-cut) (omega (arith, c.len.ensures, c.self.inside.ends.ok))
