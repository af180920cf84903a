use Rattle.std.proofs.Common.{◌≡◌, map, take}
use Rattle.qsql_values.specs.Places.{column_at}
use Rattle.qsql_values.proofs.keeping.columns_at.Given as goal

abbrev pub invariant-loop-column : goal.invariant-loop-column
invariant-loop-column l = l.gathered.items ≡ map (column_at l.places) (take l.column-index l.columns)
