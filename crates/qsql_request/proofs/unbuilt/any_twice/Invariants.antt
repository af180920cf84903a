use Rattle.std.proofs.Common.{◌≡◌, ◌-◌, length, map, drop}
use Rattle.qsql_request.specs.Views.{column_form}
use Rattle.qsql_request.specs.Unbuilt.{column_name, has_twice}
use Rattle.qsql_request.proofs.unbuilt.any_twice.Given as goal

abbrev pub invariant-loop-index : goal.invariant-loop-index
invariant-loop-index l = has_twice (map column_name (map column_form (drop l.index l.columns))) ≡ has_twice (map column_name (map column_form l.columns))

abbrev pub decreases-loop-index : goal.decreases-loop-index
decreases-loop-index l = length l.columns - l.index
