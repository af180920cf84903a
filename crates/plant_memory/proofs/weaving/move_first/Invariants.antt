use Rattle.std.proofs.Common.{◌≡◌, ◌++◌, take, drop}
use Rattle.std.specs.Vec.Iter.{into_iter_items}
use Rattle.plant_memory.proofs.weaving.move_first.Given as goal

abbrev pub invariant-loop : goal.invariant-loop
invariant-loop l = record {
  moved : l.entries.items ≡ l.fn.entries.items ++ take l.counter (into_iter_items l.fn.updates);
  rest : into_iter_items l.updates ≡ drop l.counter (into_iter_items l.fn.updates);
}
