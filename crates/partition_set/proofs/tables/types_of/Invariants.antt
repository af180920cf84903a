use Rattle.std.proofs.Common.{◌≡◌, take, map}
use Rattle.q_values.specs.Kind.{type_number}
use Rattle.partition_set.proofs.tables.types_of.Given as goal

abbrev pub invariant-loop-kind : goal.invariant-loop-kind
invariant-loop-kind l = l.items.items ≡ map type_number (take l.kind-index l.kinds)
