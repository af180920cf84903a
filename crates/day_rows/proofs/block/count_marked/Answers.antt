use Rattle.std.proofs.Common.{arith}
use Rattle.std.proofs.lemmas.List.Sums.{sum_by_more_le_part}
use Rattle.day_rows.specs.Blocks.{rows_marked}
use Rattle.day_rows.specs.declared.block.Mark.{Mark}
use Rattle.day_rows.proofs.block.count_marked.Goals as goal

pub overflow_add-count : goal.overflow_add-count
overflow_add-count c =
    let none : Mark = record { by = 0; table = 0; rows = 0 } in
    let fits = sum_by_more_le_part (rows_marked c.args.table) (rows_marked c.args.table) c.args.marks.now c.loop-mark.mark-index none c.loop-mark-test.true (λ m. omega arith) in
    omega (arith, fits, c.requires, c.loop-mark.invariant, c.marked-count.ensures)
