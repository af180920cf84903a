use Rattle.plant_memory.specs.Chronicle.{rows_at}
use Rattle.gateway.proofs.ColumnLemmas.{part_is}
use Rattle.gateway.proofs.columns.column_at.Goals as goal

pub returns : goal.returns
returns c =
    part_is c.args.kind c.args.column (rows_at c.args.snapshot.now.frame.first c.args.snapshot.now.entries c.args.k c.args.index) c.rows_at-rows.result c.in_ok-part.part
    c.rows_at-rows.ensures (c.in_ok-part.ensures c.args.kind c.requires.exists)
