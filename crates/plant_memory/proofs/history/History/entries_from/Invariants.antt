use Rattle.std.proofs.Common.{◌≡◌, ◌+◌, ◌-◌, ◌<◌, take, drop, length}
use Rattle.std.specs.List.{flat_map}
use Rattle.plant_memory.specs.History.{entries_of}
use Rattle.plant_memory.proofs.history.History.entries_from.Given as goal

abbrev pub invariant-loop-date : goal.invariant-loop-date
invariant-loop-date l = record {
  so_far : l.entries.items ≡ drop l.from (flat_map entries_of (take l.date l.self-inside.ended.items));
  skip : l.skip ≡ l.from - length (flat_map entries_of (take l.date l.self-inside.ended.items));
  within : l.date < length l.self-inside.ended.items → l.from < length (flat_map entries_of (take (l.date + 1) l.self-inside.ended.items));
}
