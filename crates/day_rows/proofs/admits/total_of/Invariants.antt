use Rattle.std.proofs.Common.{◌≡◌, take}
use Rattle.day_rows.specs.Day.{total_rows}
use Rattle.day_rows.proofs.admits.total_of.Given as goal

abbrev pub invariant-loop-entry : goal.invariant-loop-entry
invariant-loop-entry l = l.total ≡ total_rows (take l.entry-index l.entries)
