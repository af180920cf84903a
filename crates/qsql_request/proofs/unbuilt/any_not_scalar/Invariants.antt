use Rattle.std.proofs.Common.{◌≡◌, map, drop}
use Rattle.qsql_request.specs.Views.{column_form}
use Rattle.qsql_request.specs.Unbuilt.{has_not_scalar}
use Rattle.qsql_request.proofs.unbuilt.any_not_scalar.Given as goal

abbrev pub invariant-loop-column : goal.invariant-loop-column
invariant-loop-column l = has_not_scalar (map column_form (drop l.column-index l.columns)) ≡ has_not_scalar (map column_form l.columns)
