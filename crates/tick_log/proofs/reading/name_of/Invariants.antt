use Rattle.std.proofs.Common.{◌≡◌, ◌<◌, ◌∷◌, ◌++◌, ℕ, List, Some}
use Rattle.std.specs.Prelude.{slice_get}
use Rattle.day_rows.specs.declared.schema.Shape.{Shape}
use Rattle.tick_log.proofs.reading.name_of.Given as goal

abbrev pub invariant-loop-i : goal.invariant-loop-i
invariant-loop-i l = (k : ℕ) (shape : Shape) (rest : List ℕ) → k < l.i → slice_get l.schema k ≡ Some shape → l.bytes ≡ shape.table ++ 0 ∷ rest → ⊥
