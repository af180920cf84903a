use Rattle.std.proofs.Common.{◌≡◌, ℕ, length}
use Rattle.day_rows.specs.Blocks.{atoms_at}
use Rattle.day_rows.proofs.block.add_tables.Given as goal

abbrev pub invariant-loop : goal.invariant-loop
invariant-loop l = record {
  same : (table column : ℕ) → atoms_at l.tables.items table column ≡ atoms_at l.fn.tables.items table column;
  count : length l.tables.items ≡ l.counter;
}
