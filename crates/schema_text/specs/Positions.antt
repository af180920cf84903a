-- Where a table belongs among sorted tables.
use Rattle.std.specs.Prelude.{ℕ, suc, if◌then◌else◌, List, [], ◌∷◌}
use Rattle.std.specs.Ordering.{is_gt, nat_cmp}
use Rattle.std.specs.Cmp.Lexicographic.{slice_cmp}
use Rattle.day_rows.specs.declared.schema.Shape.{Shape}

-- the number of tables at the front whose names are below this one
abbrev pub below_count : List ℕ → List Shape → ℕ
below_count name [] = 0
below_count name (table ∷ tables) = if is_gt (slice_cmp nat_cmp name table.table) then suc (below_count name tables) else 0
