use Rattle.std.proofs.Common.{take}
use Rattle.std.specs.List.{AllByRecursion}
use Rattle.plant_memory.specs.Memory.{IsOfSchema}
use Rattle.pubsub.proofs.fitting.are_of_schema.Given as goal

abbrev pub invariant-loop-entry : goal.invariant-loop-entry
invariant-loop-entry l = AllByRecursion (IsOfSchema l.schema) (take l.entry-index l.entries)
