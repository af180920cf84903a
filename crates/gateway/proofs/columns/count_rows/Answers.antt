use Rattle.gateway.proofs.ColumnLemmas.{date_here}
use Rattle.gateway.proofs.columns.count_rows.Goals as goal

pub rows_at-requires-clause-date : goal.rows_at-requires-clause-date
rows_at-requires-clause-date c = date_here c.args.snapshot.now.frame.first c.args.snapshot.now.entries c.args.dates.now c.loop-k.k-index _ c.requires.dates c.loop-k-test.true
