use Rattle.std.proofs.Common.{◌≡◌, ◌<◌, ℕ, length, get_or}
use Rattle.qsql_groups.specs.Groups.{last_row}
use Rattle.qsql_groups.proofs.GroupLemmas.{rows_before}
use Rattle.qsql_groups.proofs.grouping.last_rows.Given as goal

abbrev pub invariant-loop-row : goal.invariant-loop-row
invariant-loop-row l = record {
  size : length l.places.items ≡ l.groups;
  lasts : (g : ℕ) → g < l.groups → get_or l.places.items g 0 ≡ last_row (rows_before l.codes g l.row);
}
