use Rattle.std.proofs.Common.{◌≡◌, ◌<◌, ◌≤◌, ◌-◌, ℕ, length, map, take, All}
use Rattle.q_values.specs.Table.{rows_of}
use Rattle.qsql_request.specs.Views.{form}
use Rattle.qsql_values.specs.Frames.{frame_of, rows_at}
use Rattle.qsql_values.specs.Values.{kept}
use Rattle.qsql_values.proofs.keeping.kept_among.Given as goal

abbrev pub invariant-loop-done : goal.invariant-loop-done
invariant-loop-done l = record {
  phrases : l.done ≤ length l.phrases;
  within : All (λ (p : ℕ). p < rows_of l.columns) l.left.items;
  rows : rows_at l.left.items (frame_of l.names l.columns) ≡ kept (take l.done (map form l.phrases)) (rows_at l.fn.places.items (frame_of l.names l.columns));
}

abbrev pub decreases-loop-done : goal.decreases-loop-done
decreases-loop-done l = length l.phrases - l.done
