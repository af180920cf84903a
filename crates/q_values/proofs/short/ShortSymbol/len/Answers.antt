use Rattle.q_values.proofs.ShortLemmas.{IsShort-text_of}
use Rattle.q_values.proofs.short.ShortSymbol.len.Goals as goal

pub returns-clause-short : goal.returns-clause-short
returns-clause-short c = rw (← c.self.view_is) (IsShort-text_of c.self.inside.bytes c.self.invariant)
