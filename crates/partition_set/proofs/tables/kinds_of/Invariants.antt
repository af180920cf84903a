use Rattle.std.proofs.Common.{◌≡◌, take, map}
use Rattle.q_values.specs.Kind.{type_number}
use Rattle.partition_set.proofs.tables.kinds_of.Given as goal

abbrev pub invariant-loop-item : goal.invariant-loop-item
invariant-loop-item l = map type_number l.kinds ≡ take l.item-index l.items
