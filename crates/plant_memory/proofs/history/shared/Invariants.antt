use Rattle.std.proofs.Common.{◌≡◌, take}
use Rattle.plant_memory.proofs.history.shared.Given as goal

abbrev pub invariant-loop-day : goal.invariant-loop-day
invariant-loop-day l = l.dates.items ≡ take l.day-index l.ended
