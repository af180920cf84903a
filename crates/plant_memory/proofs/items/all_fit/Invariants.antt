use Rattle.std.proofs.Common.{◌≡◌, take, map, true}
use Rattle.std.specs.List.{list_all}
use Rattle.q_values.specs.Tree.{tree}
use Rattle.plant_memory.specs.Items.{fits_beside, vector_length}
use Rattle.plant_memory.proofs.items.all_fit.Given as goal

abbrev pub invariant-loop-item : goal.invariant-loop-item
invariant-loop-item l = list_all (λ item. fits_beside l.first (vector_length item)) (take l.item-index (map tree l.items)) ≡ true
