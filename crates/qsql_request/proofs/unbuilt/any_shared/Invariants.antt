use Rattle.std.proofs.Common.{◌≡◌, map, drop}
use Rattle.qsql_request.specs.Views.{column_form}
use Rattle.qsql_request.specs.Unbuilt.{column_name, are_shared}
use Rattle.qsql_request.proofs.unbuilt.any_shared.Given as goal

abbrev pub invariant-loop-column : goal.invariant-loop-column
invariant-loop-column l = are_shared (map column_name (map column_form (drop l.column-index l.columns))) (map column_name (map column_form l.others)) ≡ are_shared (map column_name (map column_form l.columns)) (map column_name (map column_form l.others))
