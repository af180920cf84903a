use Rattle.std.proofs.Common.{◌≡◌, map, drop}
use Rattle.std.specs.List.{list_any}
use Rattle.std.specs.Str.{bytes_eq}
use Rattle.qsql_request.specs.Views.{column_form}
use Rattle.qsql_request.specs.Unbuilt.{column_name}
use Rattle.qsql_eval.proofs.checking.is_column_named.Given as goal

abbrev pub invariant-loop-column : goal.invariant-loop-column
invariant-loop-column l = list_any (bytes_eq l.name) (map column_name (map column_form (drop l.column-index l.columns))) ≡ list_any (bytes_eq l.name) (map column_name (map column_form l.columns))
