use Rattle.std.proofs.Common.{◌≡◌, ◌++◌, map, drop}
use Rattle.pubsub.specs.Told.{publication, told_each}
use Rattle.pubsub.proofs.telling.tell_each.Given as goal

abbrev pub invariant-loop-entry : goal.invariant-loop-entry
invariant-loop-entry l = map publication l.messages.items ++ told_each l.subscription l.open (drop l.entry-index l.entries) ≡ told_each l.subscription l.fn.date l.entries
