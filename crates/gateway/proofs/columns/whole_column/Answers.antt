use Rattle.std.proofs.Common.{arith}
use Rattle.gateway.proofs.ColumnLemmas.{date_here}
use Rattle.gateway.proofs.columns.whole_column.Goals as goal

pub column_at-requires-clause-date : goal.column_at-requires-clause-date
column_at-requires-clause-date c = date_here c.args.snapshot.now.frame.first c.args.snapshot.now.entries c.args.dates.now 0 _ c.requires.dates (omega arith)
