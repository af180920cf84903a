use Rattle.std.proofs.Common.{◌≡◌, take, drop}
use Rattle.day_rows.specs.Blocks.{columns_with}
use Rattle.day_rows.specs.Joined.{joined}
use Rattle.day_rows.proofs.block.Block.part.Given as goal

abbrev pub invariant-loop-i : goal.invariant-loop-i
invariant-loop-i l = l.columns ≡ columns_with 0 (take l.i l.kinds) (λ column. take l.n (drop l.from (joined l.table column l.self)))
