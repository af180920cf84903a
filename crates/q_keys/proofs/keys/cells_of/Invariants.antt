use Rattle.std.proofs.Common.{◌≡◌, ◌≤◌, take, vec_len, vec_capacity}
use Rattle.std.specs.Simd.Lanes.{zip2}
use Rattle.q_keys.specs.Cells.{cell_of}
use Rattle.q_keys.proofs.keys.cells_of.Given as goal

abbrev pub invariant-loop-i : goal.invariant-loop-i
invariant-loop-i l = record {
  items : l.cells.items ≡ zip2 (cell_of l.width) (take l.i l.firsts.items) (take l.i l.nexts.items);
  count : vec_len l.cells ≡ l.i;
  room : vec_len l.firsts ≤ vec_capacity l.cells;
}
