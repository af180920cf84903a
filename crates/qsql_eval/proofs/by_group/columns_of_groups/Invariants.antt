use Rattle.std.proofs.Common.{◌≡◌, map, take}
use Rattle.qsql_request.specs.Views.{column_form}
use Rattle.qsql_eval.specs.Meaning.{group_columns}
use Rattle.qsql_eval.proofs.by_group.columns_of_groups.Given as goal

abbrev pub invariant-loop-column : goal.invariant-loop-column
invariant-loop-column l = l.made ≡ group_columns (map column_form (take l.column-index l.columns)) l.grouping
