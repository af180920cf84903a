-- What a clock in memory is seen as.
use Rattle.std.specs.Prelude.{ℤ, List, [], ◌∷◌}

pub record MemClockView : Type 0 where
  -- the readings that it gave
  pub given : List ℤ
  -- the readings that it has not given yet
  pub left : List ℤ
  -- what it reads after them
  pub last : ℤ

-- what it reads next
abbrev pub next_reading : List ℤ → ℤ → ℤ
next_reading [] last = last
next_reading (reading ∷ readings) last = reading

pub record SteadyClockView : Type 0 where
  pub moment : ℤ
  -- the readings that it gave
  pub given : List ℤ
