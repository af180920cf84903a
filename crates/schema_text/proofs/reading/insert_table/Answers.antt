use Rattle.std.proofs.Common.{◌∙◌, ◌≡◌, sym}
use Rattle.schema_text.specs.Positions.{below_count}
use Rattle.schema_text.proofs.Shapes.{inserted-at}
use Rattle.schema_text.proofs.reading.insert_table.Goals as goal

pub returns : goal.returns
returns c =
    let index : c.count_below-index.result ≡ below_count c.args.shape.table c.args.tables.now.items = rw (c.bytes.ensures.value, c.deref.ensures.value) at c.count_below-index.ensures.value in
    record { ok = c.in_ok-insert.ensures.items ∙ rw index (sym (inserted-at c.args.shape c.args.tables.now.items)) }
