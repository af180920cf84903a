use Rattle.std.proofs.Common.{◌≡◌}
use Rattle.std.specs.List.{filter, range_with_len}
use Rattle.plant_memory.specs.Chronicle.{date_at}
use Rattle.qsql_dates.specs.Dates.{keeps}
use Rattle.qsql_request.specs.Views.{query_of}
use Rattle.gateway.specs.DateRows.{AreDates}
use Rattle.gateway.proofs.dates.kept_dates.Given as goal

abbrev pub invariant-loop-k : goal.invariant-loop-k
invariant-loop-k l = record {
  kept : l.dates.items ≡ filter (λ k. keeps (query_of l.typed.query.now).phrases (date_at l.snapshot.frame.first l.snapshot.entries k)) (range_with_len 0 l.k);
  within : AreDates l.snapshot.frame.first l.snapshot.entries l.dates.items;
}
