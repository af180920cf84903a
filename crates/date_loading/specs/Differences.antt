-- The first table, by name, in which two schemas differ.
use Rattle.std.specs.Prelude.{◌≡◌, ◌≢◌, ◌⊎◌, ℕ, if◌then◌else◌, List, [], ◌∷◌, Option, Some, None}
use Rattle.std.specs.Str.{bytes_eq}
use Rattle.std.specs.Ordering.{nat_cmp}
use Rattle.std.specs.Cmp.Lexicographic.{slice_cmp}
use Rattle.std.specs.declared.cmp.Ordering.TheVariants.{Less}
use Rattle.day_rows.specs.Schema.{by_name}
use Rattle.day_rows.specs.declared.schema.Shape.{Shape}

-- what stands for a table that is missing: its name, and no columns
abbrev pub missing : List ℕ → Shape
missing name = record { table = name; names = []; kinds = [] }

-- the table of this name
abbrev pub table_named : List ℕ → List Shape → Shape
table_named name [] = missing name
table_named name (shape ∷ shapes) = if bytes_eq shape.table name then shape else table_named name shapes

-- the tables of this name, here what was kept and what is given, differ, and those of each name below it, by bytes, don't
pub record DifferFirst (kept given : List Shape) (name : List ℕ) (one other : Shape) : Type 0 where
  pub kept_is : one ≡ table_named name kept
  pub given_is : other ≡ table_named name given
  pub differ : one ≢ other
  pub first : (lower : List ℕ) → slice_cmp nat_cmp lower name ≡ Less → table_named lower kept ≡ table_named lower given

-- the table with an index, as a list
abbrev pub sole : Option Shape → List Shape
sole None = []
sole (Some shape) = shape ∷ []

-- the name is that of one of two tables, and isn't above that of the other
abbrev pub IsLowerName : Option Shape → Option Shape → List ℕ → Type 0
IsLowerName None None name = ⊥
IsLowerName (Some one) None name = name ≡ one.table
IsLowerName None (Some other) name = name ≡ other.table
IsLowerName (Some one) (Some other) name =
    ((name ≡ one.table) × (by_name other one ≢ Less)) ⊎ ((name ≡ other.table) × (by_name other one ≡ Less))
