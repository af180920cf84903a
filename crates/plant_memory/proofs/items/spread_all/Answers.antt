use Rattle.std.proofs.Common.{ap, ◌∙◌, ◌∷◌, sym}
use Rattle.q_values.specs.Tree.{tree}
use Rattle.plant_memory.specs.Items.{spread}
use Rattle.plant_memory.proofs.ItemsLemmas.{spread_more}
use Rattle.plant_memory.proofs.items.spread_all.Goals as goal

pub loop-item-preserved : goal.loop-item-preserved
loop-item-preserved c =
    c.in_ok-push-2.ensures.items ∙ rw (c.loop-item.invariant, c.in_ok-spread-2.ensures) (ap (λ l. spread c.args.n (tree c.args.first.now) ∷ l) (sym (spread_more (spread c.args.n) _ _ _ c.loop-item-test.true c.item-item.is)))
