use Rattle.std.proofs.Common.{◌≡◌, ◌≤◌, ◌-◌, length, map, take}
use Rattle.qsql_request.specs.Views.{form}
use Rattle.qsql_values.specs.ByRow.{frame_where}
use Rattle.qsql_values.specs.Values.{kept}
use Rattle.qsql_values.proofs.joining.join_while_by_row.Given as goal

abbrev pub invariant-loop-count : goal.invariant-loop-count
invariant-loop-count l = record {
  within : l.count ≤ length l.phrases;
  size : length l.flags ≡ length l.scope.rows;
  rows : frame_where l.flags l.scope ≡ kept (take l.count (map form l.phrases)) (frame_where l.initial.flags l.scope);
}

abbrev pub decreases-loop-count : goal.decreases-loop-count
decreases-loop-count l = length l.phrases - l.count
