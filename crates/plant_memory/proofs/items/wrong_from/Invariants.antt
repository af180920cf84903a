use Rattle.std.proofs.Common.{◌≡◌, ◌+◌, drop, map}
use Rattle.q_values.specs.Tree.{tree}
use Rattle.plant_memory.specs.Items.{wrong_from}
use Rattle.plant_memory.proofs.items.wrong_from.Given as goal

abbrev pub invariant-loop-i : goal.invariant-loop-i
invariant-loop-i l = wrong_from l.from l.kinds (map tree l.items) ≡ wrong_from (l.from + l.i) (drop l.i l.kinds) (drop l.i (map tree l.items))
