use Rattle.std.proofs.Common.{◌∙◌, sym}
use Rattle.schema_text.proofs.Shapes.{shape-read}
use Rattle.schema_text.proofs.reading.read_table.Goals as goal

pub returns-then-begins_time_sym-clause-lawful : goal.returns-then-begins_time_sym-clause-lawful
returns-then-begins_time_sym-clause-lawful c = shape-read c.in_ok-shape.shape c.in_ok-shape.ensures.lawful (sym c.begins_time_sym.ensures ∙ c.if-begins_time_sym.true)
