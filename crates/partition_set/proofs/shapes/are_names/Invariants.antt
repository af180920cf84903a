use Rattle.std.proofs.Common.{take}
use Rattle.std.specs.List.{AllByRecursion}
use Rattle.day_rows.specs.Schema.{IsName}
use Rattle.partition_set.proofs.shapes.are_names.Given as goal

abbrev pub invariant-loop-name : goal.invariant-loop-name
invariant-loop-name l = AllByRecursion IsName (take l.name-index l.names)
