use Rattle.std.proofs.Common.{refl}
use Rattle.q_values.proofs.ArenaLemmas.{piece_at}
use Rattle.q_values.proofs.arena.span_of.Goals as goal

pub returns : goal.returns
returns c = piece_at 0 _ _ _ _ _ c.requires.ascends c.requires.within c.start_of_symbol.ensures refl
