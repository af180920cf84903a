use Rattle.std.proofs.Common.{rules, ap, ◌∙◌, sym, ◌∷◌, None}
use Rattle.atomic_table.specs.Table.{rest}
use Rattle.plant_lock.proofs.steps.put_state.Goals as goal

pub exchange-requires : goal.exchange-requires
exchange-requires g c = let carried = c.requires.holds in (search rules, (_, carried ∙ ap (λ cs. (0, None) ∷ rest cs) (sym carried)))
