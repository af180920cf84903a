use Rattle.std.proofs.Common.{◌≡◌}
use Rattle.plant_shared_bench.proofs.feeding.logs_all.Given as goal

abbrev pub invariant-loop : goal.invariant-loop
invariant-loop g l = l.session.lock ≡ l.fn.session.lock
