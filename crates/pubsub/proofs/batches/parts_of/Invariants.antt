use Rattle.std.proofs.Common.{take}
use Rattle.std.specs.List.{flat_map}
use Rattle.pubsub.specs.Parts.{ArePassed}
use Rattle.pubsub.specs.Told.{lines_in}
use Rattle.pubsub.proofs.batches.parts_of.Given as goal

abbrev pub invariant-loop-entry : goal.invariant-loop-entry
invariant-loop-entry l = ArePassed l.chosen l.schema l.table (flat_map (lines_in l.table) (take l.entry-index l.batch)) l.parts.items
