use Rattle.std.proofs.Common.{◌≡◌, ℕ, ◌++◌, length, take, slice_get}
use Rattle.day_rows.specs.Joined.{atoms_of}
use Rattle.day_rows.proofs.table.append_columns.Given as goal

abbrev pub invariant-loop-i : goal.invariant-loop-i
invariant-loop-i l = record {
  atoms : (column : ℕ) → atoms_of (slice_get l.columns.items column) ≡ atoms_of (slice_get l.fn.columns.items column) ++ atoms_of (slice_get (take l.i l.more) column);
  size : length l.columns.items ≡ length l.fn.columns.items;
}
