use Rattle.std.proofs.Common.{◌≡◌, ◌∷◌, take, map}
use Rattle.q_values.specs.Tree.{tree}
use Rattle.plant_memory.specs.Items.{spread}
use Rattle.plant_memory.proofs.items.spread_all.Given as goal

abbrev pub invariant-loop-item : goal.invariant-loop-item
invariant-loop-item l = l.columns.items ≡ spread l.n (tree l.first) ∷ map (spread l.n) (take l.item-index (map tree l.others))
