-- A table of which some columns have been read.
use Rattle.std.specs.Prelude.{◌≡◌, ◌≢◌, ◌≤◌, length}
use Rattle.std.specs.List.{AllByRecursion}
use Rattle.q_values.specs.declared.kind.Kind.TheVariants as k
use Rattle.day_rows.specs.Schema.{IsName, AreDistinct}
use Rattle.day_rows.specs.declared.schema.Shape.{Shape}

-- all that holds of a table, but that its first columns are `time` and `sym`
pub record IsGrowing (shape : Shape) : Type 0 where
  pub table : IsName shape.table
  pub names : AllByRecursion IsName shape.names
  pub distinct : AreDistinct shape.names
  pub few : length shape.names ≤ 48
  pub named : length shape.names ≡ length shape.kinds
  pub kinds : AllByRecursion (λ kind. kind ≢ k.Character) shape.kinds
