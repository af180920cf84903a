use Rattle.std.proofs.Common.{rules, ap, ◌∙◌}
use Rattle.plant_lock.proofs.StepLemmas.{draws_number}
use Rattle.plant_lock.proofs.steps.draw_number.Goals as goal

pub compare_exchange-found-requires : goal.compare_exchange-found-requires
compare_exchange-found-requires g c = let me_is = c.loop.invariant.1 in (
  search rules,
  search rules,
  draws_number g.S.Chronicle.entries g.S.Chronicle.by g.S.Chronicle.frame _ _ _ _ _ (ap (λ m. m.0.drawn) me_is ∙ c.requires.fresh.0) (ap (λ m. m.0.mine) me_is ∙ c.requires.fresh.1),
)
