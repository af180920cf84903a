use Rattle.std.proofs.Common.{◌≡◌}
use Rattle.plant_shared_cases.proofs.threads.feed.Given as goal

abbrev pub invariant-loop-i : goal.invariant-loop-i
invariant-loop-i g l = l.session.lock ≡ l.fn.session.lock
