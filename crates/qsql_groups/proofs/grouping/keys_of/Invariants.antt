use Rattle.std.proofs.Common.{◌≡◌, map, take}
use Rattle.qsql_request.specs.Views.{column_form}
use Rattle.qsql_values.specs.Operands.{contents_of}
use Rattle.qsql_groups.specs.Groups.{key_columns}
use Rattle.qsql_groups.proofs.grouping.keys_of.Given as goal

abbrev pub invariant-loop-column : goal.invariant-loop-column
invariant-loop-column l = map contents_of l.keys.items ≡ key_columns (map column_form (take l.column-index l.by)) l.scope
