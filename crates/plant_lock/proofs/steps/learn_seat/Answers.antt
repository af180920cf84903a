use Rattle.std.proofs.Common.{rules, ap}
use Rattle.plant_lock.proofs.StepLemmas.{joins}
use Rattle.plant_lock.proofs.steps.learn_seat.Goals as goal

pub join_seat-requires : goal.join_seat-requires
join_seat-requires g c = (
  search rules,
  search rules,
  search rules,
  search rules,
  joins g.S.Chronicle.entries g.S.Chronicle.by g.S.Chronicle.frame _ _ _ _ _ (ap (λ m. m.0.stage) c.requires.rests) (ap (λ m. m.0.stage) c.requires.notes),
)
