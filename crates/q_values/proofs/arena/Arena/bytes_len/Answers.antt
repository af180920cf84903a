use Rattle.std.proofs.Common.{arith}
use Rattle.q_values.proofs.ArenaLemmas.{sum-cut, no_nul-cut}
use Rattle.q_values.proofs.arena.Arena.bytes_len.Goals as goal

pub returns-clause-total : goal.returns-clause-total
returns-clause-total c = rw (← c.self.view_is) (omega (arith, c.len.ensures, sum-cut 0 c.self.inside.bytes.items c.self.inside.ends.items c.self.invariant.ascends))

pub returns-clause-no_nul : goal.returns-clause-no_nul
returns-clause-no_nul c = rw (← c.self.view_is) (no_nul-cut 0 c.self.inside.bytes.items c.self.inside.ends.items c.self.invariant.no_nul)
