use Rattle.std.proofs.Common.{ap, sym, ◌∙◌}
use Rattle.plant_memory.specs.Items.{fits_beside, vector_length}
use Rattle.plant_memory.proofs.ItemsLemmas.{all_more, all_not}
use Rattle.plant_memory.proofs.items.all_fit.Goals as goal

pub returns-then-not-fits_beside : goal.returns-then-not-fits_beside
returns-then-not-fits_beside c =
    all_not (λ item. fits_beside c.args.first (vector_length item)) _ _ _ c.loop-item-test.true c.item-item.is
    (ap (fits_beside c.args.first) (sym c.vector_length.ensures) ∙ sym c.if-not-fits_beside.ensures)

pub loop-item-preserved : goal.loop-item-preserved
loop-item-preserved c =
    all_more (λ item. fits_beside c.args.first (vector_length item)) _ _ _ c.loop-item-test.true c.item-item.is c.loop-item.invariant
    (ap (fits_beside c.args.first) (sym c.vector_length.ensures) ∙ sym c.if-not-fits_beside.ensures)
