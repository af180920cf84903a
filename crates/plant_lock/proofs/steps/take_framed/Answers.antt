use Rattle.std.proofs.Common.{rules, ap, ◌∙◌, sym, ◌∷◌, Some}
use Rattle.atomic_table.specs.Table.{rest}
use Rattle.plant_lock.proofs.StepLemmas.{takes_slot}
use Rattle.plant_lock.proofs.steps.take_framed.Goals as goal

pub load-requires : goal.load-requires
load-requires g c = (search rules, search rules, takes_slot g.S.Chronicle.entries g.S.Chronicle.by g.S.Chronicle.frame _ _ _ _ g.J.Framed.frame c.requires.frame c.requires.turns.0)

pub exchange-requires : goal.exchange-requires
exchange-requires g c = let took = c.load.ensures.2 in let carried = ap (λ m. m.1) took.1 in (search rules, (_, carried ∙ ap (λ cs. (0, Some took.0) ∷ rest cs) (sym carried)))
