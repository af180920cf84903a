-- The order of the rows of an ended day's tables, as it is kept.
use Rattle.std.specs.Prelude.{◌≡◌, ℕ, List, length, map, Some, slice_get}
use Rattle.q_values.specs.Order.{IsOrder, atom_cmp}
use Rattle.day_rows.specs.Day.{Day, arrived}
use Rattle.day_rows.specs.Rows.{symbol_of}

-- for each table of the day its rows' indices, ordered by symbol and then by arrival
pub record AreOrders (day : Day) (orders : List (List ℕ)) : Type 0 where
  pub count : length orders ≡ length day.kinds
  pub each : (t : ℕ) (order : List ℕ) → slice_get orders t ≡ Some order → IsOrder atom_cmp (map symbol_of (arrived day t)) order
