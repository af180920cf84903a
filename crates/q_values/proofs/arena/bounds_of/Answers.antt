use Rattle.q_values.proofs.PartLemmas.{part_at}
use Rattle.q_values.proofs.arena.bounds_of.Goals as goal

pub returns : goal.returns
returns c = rw (c.start_of_symbol.ensures, c.start_of_symbol-2.ensures) (part_at _ _ _ _ c.requires.within c.requires.ascends)
