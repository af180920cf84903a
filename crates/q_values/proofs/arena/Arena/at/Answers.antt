use Rattle.q_values.proofs.ArenaLemmas.{length-cut}
use Rattle.q_values.proofs.arena.Arena.at.Goals as goal

pub span_of-start-requires-clause-within : goal.span_of-start-requires-clause-within
span_of-start-requires-clause-within c =
    rw (c.deref-2.ensures.value, ← length-cut 0 c.self.inside.bytes.items c.self.inside.ends.items, c.self.view_is) c.requires
