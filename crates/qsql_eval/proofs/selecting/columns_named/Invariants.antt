use Rattle.std.proofs.Common.{◌≡◌, map, take}
use Rattle.qsql_values.specs.Frames.{column_in}
use Rattle.qsql_eval.specs.Meaning.{limited_column}
use Rattle.qsql_eval.proofs.selecting.columns_named.Given as goal

abbrev pub invariant-loop-name : goal.invariant-loop-name
invariant-loop-name l = l.columns ≡ map (limited_column l.first) (map (column_in l.scope) (take l.name-index l.names))
