use Rattle.std.proofs.Common.{◌≡◌, map, take}
use Rattle.qsql_request.specs.Views.{column_form}
use Rattle.gateway.proofs.rest.columns_copied.Given as goal

abbrev pub invariant-loop-column : goal.invariant-loop-column
invariant-loop-column l = map column_form l.copied ≡ map column_form (take l.column-index l.columns)
