use Rattle.std.proofs.Common.{◌≡◌, map, drop}
use Rattle.std.specs.List.{list_any}
use Rattle.qsql_request.specs.Views.{column_form}
use Rattle.qsql_request.specs.Unbuilt.{is_unbuilt_column}
use Rattle.qsql_request.proofs.unbuilt.any_unbuilt.Given as goal

abbrev pub invariant-loop-column : goal.invariant-loop-column
invariant-loop-column l = list_any is_unbuilt_column (map column_form (drop l.column-index l.columns)) ≡ list_any is_unbuilt_column (map column_form l.columns)
