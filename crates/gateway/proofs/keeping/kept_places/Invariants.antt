use Rattle.std.proofs.Common.{◌≡◌, ◌<◌, ℕ, length, map, take, All}
use Rattle.qsql_request.specs.Views.{form}
use Rattle.qsql_values.specs.Frames.{rows_at}
use Rattle.qsql_values.specs.Values.{kept}
use Rattle.gateway.specs.DateRows.{rows_on}
use Rattle.gateway.specs.Kept.{table_rows_on}
use Rattle.gateway.proofs.keeping.kept_places.Given as goal

abbrev pub invariant-loop-i : goal.invariant-loop-i
invariant-loop-i l = record {
  within : All (λ (p : ℕ). p < length (rows_on l.dates l.snapshot.frame.first l.snapshot.entries l.index)) l.places.items;
  rows : rows_at l.places.items (table_rows_on l.dates l.snapshot.frame.first l.snapshot.entries l.index l.typed.table.now)
      ≡ kept (take l.i (map form l.typed.query.now.phrases)) (table_rows_on l.dates l.snapshot.frame.first l.snapshot.entries l.index l.typed.table.now);
}
