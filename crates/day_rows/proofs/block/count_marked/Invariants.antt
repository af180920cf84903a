use Rattle.std.proofs.Common.{◌≡◌, take}
use Rattle.std.specs.List.{sum_by}
use Rattle.day_rows.specs.Blocks.{rows_marked}
use Rattle.day_rows.proofs.block.count_marked.Given as goal

abbrev pub invariant-loop-mark : goal.invariant-loop-mark
invariant-loop-mark l = l.count ≡ sum_by (rows_marked l.table) (take l.mark-index l.marks)
