use Rattle.std.proofs.Common.{sym}
use Rattle.std.proofs.lemmas.List.{drop-drop}
use Rattle.outside_mem.proofs.tape.Tape.next.Goals as goal

-- src/tape.rt:28:5
pub returns-clause-rest : goal.returns-clause-rest
returns-clause-rest g c = rw (← c.self.view_is) (sym (drop-drop 1 c.self.inside.next c.self.inside.items))
