use Rattle.std.proofs.Common.{rules, ap, ◌∙◌}
use Rattle.plant_lock.proofs.StepLemmas.{draws_ticket}
use Rattle.plant_lock.proofs.steps.draw_ticket.Goals as goal

pub compare_exchange-found-requires : goal.compare_exchange-found-requires
compare_exchange-found-requires g c = let me_is = c.loop.invariant.1 in (
  search rules,
  search rules,
  draws_ticket g.S.Chronicle.entries g.S.Chronicle.by g.S.Chronicle.frame _ _ _ _ _ (ap (λ m. m.0.stage) me_is ∙ c.requires.idle) (search rules),
)
