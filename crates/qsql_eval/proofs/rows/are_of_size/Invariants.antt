use Rattle.std.proofs.Common.{◌≡◌, drop}
use Rattle.qsql_values.specs.Frames.{are_of_size}
use Rattle.qsql_eval.proofs.rows.are_of_size.Given as goal

abbrev pub invariant-loop-column : goal.invariant-loop-column
invariant-loop-column l = are_of_size l.size (drop l.column-index l.columns) ≡ are_of_size l.size l.columns
