use Rattle.std.proofs.Common.{◌≡◌}
use Rattle.plant_lock.specs.Seated.{IsSameSeat}
use Rattle.plant_lock.proofs.steps.wait_turn.Given as goal

abbrev pub invariant-loop : goal.invariant-loop
invariant-loop g l = IsSameSeat l.initial.seat l.seat × (l.seat.me ≡ l.initial.seat.me)
