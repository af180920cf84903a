use Rattle.std.proofs.Common.{Some}
use Rattle.plant_lock.proofs.steps.take_state.Given as goal

abbrev pub ghosts-take_framed : goal.ghosts-take_framed
ghosts-take_framed g a = record { frame = Some (g.S.Chronicle.frame a.top.now.key.state.value) }
