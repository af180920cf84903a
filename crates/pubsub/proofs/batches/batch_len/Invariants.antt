use Rattle.std.proofs.Common.{◌≡◌, ◌<◌, length, take}
use Rattle.std.specs.List.{AllByRecursion}
use Rattle.day_rows.specs.Chronicle.{KeepsDate}
use Rattle.pubsub.specs.Told.{updates_today}
use Rattle.pubsub.proofs.batches.batch_len.Given as goal

abbrev pub invariant-loop-i : goal.invariant-loop-i
invariant-loop-i l = record {
  quiet : AllByRecursion KeepsDate (take l.i l.entries);
  count_is : length (updates_today (take l.i l.entries)) ≡ l.count;
  few : l.count < 16;
}
