use Rattle.std.proofs.Common.{◌≡◌, map, take}
use Rattle.q_values.specs.declared.atom.Atom.TheVariants as a
use Rattle.gateway.specs.DateRows.{rows_on}
use Rattle.gateway.proofs.ColumnLemmas.{date_of_row}
use Rattle.gateway.proofs.columns.date_column.Given as goal

abbrev pub invariant-loop-k : goal.invariant-loop-k
invariant-loop-k l = map (λ x. a.Date x) l.column.items ≡ map date_of_row (rows_on (take l.k-index l.dates) l.snapshot.frame.first l.snapshot.entries l.index)
