use Rattle.std.proofs.Common.{◌≡◌, ◌+◌, ◌<◌, ◌≤◌, List, take, length}
use Rattle.std.specs.List.{flat_map}
use Rattle.day_rows.specs.declared.entry.Entry.{Entry}
use Rattle.day_rows.proofs.store.Store.place_of.Given as goal

abbrev pub invariant-loop-start : goal.invariant-loop-start
invariant-loop-start l = record {
  among : l.block ≤ l.sealed;
  counted : l.start ≡ length (flat_map (λ (b : List Entry). b) (take l.block l.self.blocks));
  within : l.block < l.sealed → l.from ≤ length (flat_map (λ (b : List Entry). b) (take (l.block + 1) l.self.blocks));
}

abbrev pub decreases-loop-start : goal.decreases-loop-start
decreases-loop-start l = l.block
