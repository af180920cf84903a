use Rattle.std.proofs.Common.{◌≡◌, take, map, false}
use Rattle.q_values.specs.Tree.{tree}
use Rattle.plant_memory.specs.Items.{has_long_symbol}
use Rattle.plant_memory.proofs.items.has_long_item.Given as goal

abbrev pub invariant-loop-item : goal.invariant-loop-item
invariant-loop-item l = has_long_symbol l.limit (take l.item-index (map tree l.items)) ≡ false
