use Rattle.std.proofs.Common.{◌≡◌, ◌∷◌, map, take}
use Rattle.std.specs.Prelude.{codes, option_copied}
use Rattle.gateway.specs.DateRows.{rows_on}
use Rattle.gateway.specs.Kept.{column_part}
use Rattle.gateway.specs.Needs.{is_wanted, chosen}
use Rattle.gateway.specs.TableRows.{dates_of_rows, numbers_on, columns_from}
use Rattle.gateway.proofs.table.columns_of.Given as goal

abbrev pub invariant-loop-i : goal.invariant-loop-i
invariant-loop-i l =
    l.columns ≡ map (column_part (option_copied l.part.places)) (chosen (is_wanted l.wanted) (codes "date" ∷ codes "i" ∷ take l.i l.table.names)
    (dates_of_rows (rows_on l.part.dates.now l.snapshot.frame.first l.snapshot.entries l.part.index)
    ∷ numbers_on l.part.dates.now l.snapshot.frame.first l.snapshot.entries l.part.index
    ∷ take l.i (columns_from 0 l.table.kinds (rows_on l.part.dates.now l.snapshot.frame.first l.snapshot.entries l.part.index))))
