use Rattle.std.proofs.Common.{◌≡◌, take}
use Rattle.day_rows.proofs.schema.Schema.copied.Given as goal

abbrev pub invariant-loop-i : goal.invariant-loop-i
invariant-loop-i l = l.shapes.items ≡ take l.i l.self
