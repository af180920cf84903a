use Rattle.std.proofs.Common.{◌≡◌}
use Rattle.pubsub_cases.proofs.spans.subscribed.Given as goal

abbrev pub invariant-loop-ask : goal.invariant-loop-ask
invariant-loop-ask g l = l.subscription.schema ≡ l.schema
