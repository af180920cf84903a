use Rattle.std.proofs.Common.{rules}
use Rattle.plant_lock.proofs.StepLemmas.{splits}
use Rattle.plant_lock.proofs.lock.PlantLock.note.Goals as goal

pub split_seat-told-requires : goal.split_seat-told-requires
split_seat-told-requires g c = (search rules, search rules, splits g.S.Chronicle.entries g.S.Chronicle.by g.S.Chronicle.frame _ _ _)
