use Rattle.std.proofs.Common.{◌≡◌, take}
use Rattle.pubsub.specs.Filters.{replaced}
use Rattle.pubsub.proofs.subscription.replaced.Given as goal

abbrev pub invariant-loop-i : goal.invariant-loop-i
invariant-loop-i l = l.found.items ≡ replaced l.asked l.new (take l.i l.tables) (take l.i l.filters)
