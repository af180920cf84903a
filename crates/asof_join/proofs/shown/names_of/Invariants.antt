use Rattle.std.proofs.Common.{◌≡◌, map, take}
use Rattle.qsql_request.specs.Unbuilt.{column_name}
use Rattle.qsql_request.specs.Views.{column_form}
use Rattle.asof_join.proofs.shown.names_of.Given as goal

abbrev pub invariant-loop-column : goal.invariant-loop-column
invariant-loop-column l = l.names ≡ map column_name (map column_form (take l.column-index l.columns))
