use Rattle.std.proofs.Common.{◌≡◌, map, drop}
use Rattle.qsql_request.specs.Views.{column_form}
use Rattle.qsql_eval.specs.Ready.{are_scalars}
use Rattle.qsql_eval.proofs.selecting.are_atoms.Given as goal

abbrev pub invariant-loop-column : goal.invariant-loop-column
invariant-loop-column l = are_scalars (map column_form (drop l.column-index l.columns)) ≡ are_scalars (map column_form l.columns)
