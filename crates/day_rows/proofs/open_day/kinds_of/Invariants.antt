use Rattle.std.proofs.Common.{◌≡◌, take, map}
use Rattle.std.specs.List.{AllByRecursion}
use Rattle.day_rows.specs.Day.{AreTableKinds}
use Rattle.day_rows.proofs.open_day.kinds_of.Given as goal

abbrev pub invariant-loop-i : goal.invariant-loop-i
invariant-loop-i l = record {
  value : l.tables.items ≡ take l.i (map (λ shape. shape.kinds) l.schema);
  lawful : AllByRecursion AreTableKinds l.tables.items;
}
