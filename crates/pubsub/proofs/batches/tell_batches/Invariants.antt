use Rattle.std.proofs.Common.{◌≡◌, ◌≤◌, ◌-◌, ◌++◌, true, length, map, drop}
use Rattle.pubsub.specs.Told.{publication, told}
use Rattle.pubsub.proofs.batches.tell_batches.Given as goal

abbrev pub invariant-loop-from : goal.invariant-loop-from
invariant-loop-from l = record {
  so_far : map publication l.messages.items ++ told true l.subscription l.day (drop l.from l.entries) ≡ told true l.subscription l.fn.date l.entries;
  within : l.from ≤ length l.entries;
}

abbrev pub decreases-loop-from : goal.decreases-loop-from
decreases-loop-from l = length l.entries - l.from
