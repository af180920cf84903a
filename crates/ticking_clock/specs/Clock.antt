-- The readings of a clock with a start and a step.
use Rattle.std.specs.Prelude.{ℕ, zero, suc, ℤ, ◌+ℤ◌, List, [], ◌∷◌, ◌++◌}
use Rattle.std.specs.Int.{w64, saturate_signed}

-- a moment so much later; it saturates at the ends of the range
abbrev pub later : ℤ → ℤ → ℤ
later moment step = saturate_signed w64 (moment +ℤ step)

-- what a clock with a start and a step reads after n readings
abbrev pub tick : ℤ → ℤ → ℕ → ℤ
tick start step zero = start
tick start step (suc n) = later (tick start step n) step

-- its first n readings
abbrev pub ticks : ℤ → ℤ → ℕ → List ℤ
ticks start step zero = []
ticks start step (suc n) = ticks start step n ++ tick start step n ∷ []
