use Rattle.std.proofs.Common.{◌≡◌, take}
use Rattle.pubsub.specs.Filters.{table_names}
use Rattle.pubsub.proofs.subscription.copy_names.Given as goal

abbrev pub invariant-loop-i : goal.invariant-loop-i
invariant-loop-i l = l.names ≡ table_names (take l.i l.schema)
