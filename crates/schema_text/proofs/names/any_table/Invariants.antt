use Rattle.std.proofs.Common.{◌≡◌, drop}
use Rattle.std.specs.List.{list_any}
use Rattle.std.specs.Str.{bytes_eq}
use Rattle.day_rows.specs.declared.schema.Shape.{Shape}
use Rattle.schema_text.proofs.names.any_table.Given as goal

abbrev pub invariant-loop-known : goal.invariant-loop-known
invariant-loop-known l = list_any (λ (t : Shape). bytes_eq l.name t.table) (drop l.known-index l.tables) ≡ list_any (λ (t : Shape). bytes_eq l.name t.table) l.tables
