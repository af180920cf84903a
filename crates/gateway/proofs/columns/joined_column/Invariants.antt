use Rattle.std.proofs.Common.{◌≡◌, take}
use Rattle.day_rows.specs.Rows.{column_of}
use Rattle.gateway.specs.DateRows.{rows_on}
use Rattle.gateway.proofs.columns.joined_column.Given as goal

abbrev pub invariant-loop-k : goal.invariant-loop-k
invariant-loop-k l = l.whole ≡ column_of l.fn.kind l.column (rows_on (take l.k-index l.dates) l.snapshot.frame.first l.snapshot.entries l.index)
