use Rattle.std.proofs.Common.{take}
use Rattle.std.specs.List.{AllByRecursion}
use Rattle.day_rows.specs.Day.{IsUpdate}
use Rattle.day_rows.proofs.admits.are_updates.Given as goal

abbrev pub invariant-loop-entry : goal.invariant-loop-entry
invariant-loop-entry l = AllByRecursion (IsUpdate l.tables) (take l.entry-index l.entries)
