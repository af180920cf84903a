use Rattle.std.proofs.Common.{◌≡◌, drop, map}
use Rattle.std.specs.List.{list_all}
use Rattle.qsql_request.specs.Views.{column_form}
use Rattle.qsql_values.specs.Kinds.{column_kind}
use Rattle.qsql_eval.specs.Judgement.{has_kind}
use Rattle.qsql_eval.proofs.checking.have_kinds.Given as goal

abbrev pub invariant-loop-column : goal.invariant-loop-column
invariant-loop-column l = list_all (has_kind (column_kind l.table)) (map column_form (drop l.column-index l.columns)) ≡ list_all (has_kind (column_kind l.table)) (map column_form l.columns)
