-- Spans of time.
use Rattle.std.specs.Prelude.{ℤ, pos}

-- the nanoseconds of a day
abbrev pub day_nanoseconds : ℤ
day_nanoseconds = pos 86400000000000
