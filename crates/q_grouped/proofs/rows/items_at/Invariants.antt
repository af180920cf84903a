use Rattle.std.proofs.Common.{◌≡◌, ◌≤◌, length, take, map, vec_len, vec_capacity}
use Rattle.q_grouped.specs.Steps.{item_or}
use Rattle.q_grouped.proofs.rows.items_at.Given as goal

abbrev pub invariant-loop-row : goal.invariant-loop-row
invariant-loop-row g l = record {
  items : l.found.items ≡ map (item_or l.fn.other l.items) (take l.row-index l.rows);
  count : vec_len l.found ≡ l.row-index;
  room : length l.rows ≤ vec_capacity l.found;
}
