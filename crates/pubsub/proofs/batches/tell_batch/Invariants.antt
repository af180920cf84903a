use Rattle.std.proofs.Common.{◌≡◌, ◌++◌, map}
use Rattle.pubsub.specs.Told.{publication}
use Rattle.pubsub.specs.Steps.{tables_told}
use Rattle.pubsub.proofs.batches.tell_batch.Given as goal

abbrev pub invariant-loop-table : goal.invariant-loop-table
invariant-loop-table l = map publication l.messages.items ≡ map publication l.fn.messages.items ++ tables_told l.subscription l.batch l.table
