use Rattle.std.proofs.Common.{◌≡◌, take}
use Rattle.day_rows.specs.Blocks.{tables_with}
use Rattle.day_rows.proofs.block.Block.first_tables.Given as goal

abbrev pub invariant-loop-i : goal.invariant-loop-i
invariant-loop-i l = l.tables.items ≡ tables_with 0 (take l.i l.kinds) (take l.n l.self)
