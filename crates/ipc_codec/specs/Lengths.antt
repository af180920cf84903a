-- Lengths in a `usize`.
use Rattle.std.specs.Prelude.{ℕ, min}

-- a length in a `usize`, which stays at the last value where it would be more
abbrev pub saturated : ℕ → ℕ
saturated n = min n 18446744073709551615
