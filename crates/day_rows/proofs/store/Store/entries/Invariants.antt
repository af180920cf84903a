use Rattle.std.proofs.Common.{◌≡◌, ◌+◌, ◌-◌, ◌<◌, ◌≤◌, List, take, drop, length}
use Rattle.std.specs.List.{flat_map}
use Rattle.day_rows.specs.declared.entry.Entry.{Entry}
use Rattle.day_rows.proofs.store.Store.entries.Given as goal

abbrev pub invariant-loop-i : goal.invariant-loop-i
invariant-loop-i l = record {
  so_far : l.entries.items ≡ drop l.from (flat_map (λ (b : List Entry). b) (take l.i l.self.blocks));
  skip : l.skip ≡ l.from - length (flat_map (λ (b : List Entry). b) (take l.i l.self.blocks));
  within : l.i < l.sealed → l.from ≤ length (flat_map (λ (b : List Entry). b) (take (l.i + 1) l.self.blocks));
}
