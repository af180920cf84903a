use Rattle.std.proofs.Common.{◌≡◌, take}
use Rattle.pubsub.specs.Filters.{nothing_of}
use Rattle.pubsub.proofs.subscription.nothing_of.Given as goal

abbrev pub invariant-loop-i : goal.invariant-loop-i
invariant-loop-i l = l.filters.items ≡ nothing_of (take l.i l.schema)
