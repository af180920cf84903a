use Rattle.std.proofs.Common.{◌≡◌, ◌-◌, ◌^◌, min, take}
use Rattle.std.specs.List.{sum_by}
use Rattle.day_rows.specs.declared.block.Mark.{Mark}
use Rattle.day_rows.proofs.block.rows_of_marks.Given as goal

abbrev pub invariant-loop-mark : goal.invariant-loop-mark
invariant-loop-mark l = l.rows ≡ min (sum_by (λ (mark : Mark). mark.rows) (take l.mark-index l.marks)) (2 ^ 64 - 1)
