use Rattle.std.proofs.Common.{◌≡◌, map, take}
use Rattle.qsql_values.specs.Kinds.{column_kind}
use Rattle.asof_join.proofs.shown.kinds_named.Given as goal

abbrev pub invariant-loop-name : goal.invariant-loop-name
invariant-loop-name l = l.kinds.items ≡ map (column_kind l.table) (take l.name-index l.names)
