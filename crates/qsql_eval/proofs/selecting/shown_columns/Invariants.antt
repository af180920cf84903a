use Rattle.std.proofs.Common.{◌≡◌, map, take}
use Rattle.qsql_request.specs.Views.{column_form}
use Rattle.qsql_eval.specs.Meaning.{values_of, spread, limited_column}
use Rattle.qsql_eval.proofs.selecting.shown_columns.Given as goal

abbrev pub invariant-loop-column : goal.invariant-loop-column
invariant-loop-column l = l.made ≡ map (limited_column l.first) (map (spread l.count) (values_of l.scope (map column_form (take l.column-index l.columns))))
