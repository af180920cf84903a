use Rattle.std.proofs.Common.{◌≡◌, ℕ, List, length, map, slice_get, Some}
use Rattle.q_values.specs.Order.{IsOrder, atom_cmp}
use Rattle.day_rows.specs.Day.{arrived}
use Rattle.day_rows.specs.Rows.{symbol_of}
use Rattle.day_rows.proofs.closed_day.order_tables.Given as goal

abbrev pub invariant-loop-table : goal.invariant-loop-table
invariant-loop-table l = record {
  count : length l.orders.items ≡ l.table;
  each : (t : ℕ) (order : List ℕ) → slice_get l.orders.items t ≡ Some order → IsOrder atom_cmp (map symbol_of (arrived l.day.day t)) order;
}
