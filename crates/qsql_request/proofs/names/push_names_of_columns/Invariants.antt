use Rattle.std.proofs.Common.{◌≡◌, ◌++◌, map, take}
use Rattle.qsql_request.specs.Views.{column_form}
use Rattle.qsql_request.specs.Names.{names_in_columns}
use Rattle.qsql_request.proofs.names.push_names_of_columns.Given as goal

abbrev pub invariant-loop-column : goal.invariant-loop-column
invariant-loop-column l = map (λ n. n.now) l.names.items ≡ map (λ n. n.now) l.initial.names.items ++ names_in_columns (map column_form (take l.column-index l.columns))
