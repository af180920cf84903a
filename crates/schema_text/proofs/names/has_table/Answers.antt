use Rattle.std.proofs.Common.{◌∙◌, sym}
use Rattle.std.specs.Str.{bytes_eq}
use Rattle.day_rows.specs.declared.schema.Shape.{Shape}
use Rattle.schema_text.proofs.Words.{list_any-mapped}
use Rattle.schema_text.proofs.names.has_table.Goals as goal

pub returns : goal.returns
returns c = c.any_table.ensures ∙ sym (list_any-mapped (bytes_eq c.args.name.now) (λ (t : Shape). t.table) c.args.tables.now)
