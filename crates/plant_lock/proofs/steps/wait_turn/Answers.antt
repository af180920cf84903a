use Rattle.std.proofs.Common.{rules, ap, ◌∙◌}
use Rattle.plant_lock.proofs.StepLemmas.{looks}
use Rattle.plant_lock.proofs.steps.wait_turn.Goals as goal

pub load-found-requires : goal.load-found-requires
load-found-requires g c = let me_is = c.loop.invariant.1 in (
  search rules,
  search rules,
  looks g.S.Chronicle.entries g.S.Chronicle.by g.S.Chronicle.frame _ _ _ _ _ (ap (λ m. m.0.stage) me_is ∙ c.requires.waits),
)
