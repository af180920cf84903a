use Rattle.std.proofs.Common.{◌≡◌, ℕ, length, slice_get}
use Rattle.day_rows.specs.Joined.{atoms_of}
use Rattle.day_rows.proofs.table.widen.Given as goal

abbrev pub invariant-loop-i : goal.invariant-loop-i
invariant-loop-i l = record {
  same : (column : ℕ) → atoms_of (slice_get l.columns.items column) ≡ atoms_of (slice_get l.fn.columns.items column);
  count : length l.columns.items ≡ l.i;
}
