use Rattle.std.proofs.Common.{◌≡◌, map, take}
use Rattle.q_values.specs.Tree.{tree}
use Rattle.qsql_request.specs.Views.{column_form}
use Rattle.qsql_eval.specs.Meaning.{values_of}
use Rattle.qsql_eval.proofs.executing.values_of_columns.Given as goal

abbrev pub invariant-loop-column : goal.invariant-loop-column
invariant-loop-column l = map tree l.values.items ≡ values_of l.scope (map column_form (take l.column-index l.columns))
