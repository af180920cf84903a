-- Counts that rise.
use Rattle.std.specs.Prelude.{ℕ, zero, suc, ◌+◌, min}

-- the last value of a count
abbrev pub last_count : ℕ
last_count = 18446744073709551615

-- a count that rose once; it saturates at its last value
abbrev pub next_count : ℕ → ℕ
next_count count = min (count + 1) last_count

-- a count that rose n times
abbrev pub counted : ℕ → ℕ → ℕ
counted count zero = count
counted count (suc n) = counted (next_count count) n
