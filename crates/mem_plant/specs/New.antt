-- A plant that has logged nothing.
use Rattle.std.specs.Prelude.{◌≡◌, ℤ, List, []}
use Rattle.day_rows.specs.declared.schema.Shape.{Shape}
use Rattle.q_values.specs.declared.limits.Limits.{Limits}
use Rattle.plant_memory.specs.Memory.{MemoryView}

-- a plant of these tables and limits, which begins at this date and has no entries
pub record IsNew (schema : List Shape) (date : ℤ) (limits : Limits) (memory : MemoryView) : Type 0 where
  pub frame : memory.frame ≡ record { schema = schema; first = date; limits = limits }
  pub entries : memory.entries ≡ []
