-- The part of a plant that no call changes.
use Rattle.std.specs.Prelude.{ℤ, List}
use Rattle.day_rows.specs.declared.schema.Shape.{Shape}
use Rattle.q_values.specs.declared.limits.Limits.{Limits}

-- the tables of a plant, its first date, its limits
pub record Frame : Type 0 where
  pub schema : List Shape
  pub first : ℤ
  pub limits : Limits
