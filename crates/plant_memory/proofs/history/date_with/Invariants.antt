use Rattle.std.proofs.Common.{◌≡◌, ◌+◌, ◌<◌, ◌≤◌, take, length}
use Rattle.std.specs.List.{flat_map}
use Rattle.plant_memory.specs.History.{entries_of}
use Rattle.plant_memory.proofs.history.date_with.Given as goal

abbrev pub invariant-loop-start : goal.invariant-loop-start
invariant-loop-start l = record {
  among : l.date ≤ length l.ended;
  counted : l.start ≡ length (flat_map entries_of (take l.date l.ended));
  within : l.date < length l.ended → l.from < length (flat_map entries_of (take (l.date + 1) l.ended));
}

abbrev pub decreases-loop-start : goal.decreases-loop-start
decreases-loop-start l = l.date
