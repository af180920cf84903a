use Rattle.std.proofs.Common.{◌≡◌, map, take}
use Rattle.qsql_request.specs.Forms.{ColumnForm}
use Rattle.qsql_request.specs.Views.{column_form}
use Rattle.qsql_values.specs.Kinds.{column_kind, kind_in}
use Rattle.asof_join.proofs.shown.kinds_of.Given as goal

abbrev pub invariant-loop-column : goal.invariant-loop-column
invariant-loop-column l = l.kinds.items ≡ map (λ (c : ColumnForm). kind_in (column_kind l.table) c.expr) (map column_form (take l.column-index l.columns))
