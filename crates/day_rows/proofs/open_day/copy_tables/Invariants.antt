use Rattle.std.proofs.Common.{◌≡◌, take}
use Rattle.day_rows.proofs.open_day.copy_tables.Given as goal

abbrev pub invariant-loop-kinds : goal.invariant-loop-kinds
invariant-loop-kinds l = l.copied.items ≡ take l.kinds-index l.tables
