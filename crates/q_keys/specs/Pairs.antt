-- Two ranks of 32 bits as one signed number of 64 bits.
use Rattle.std.specs.Prelude.{ℕ, ℤ, pos}
use lib.IntN.{◌+ℤ◌, ◌-ℤ◌, ◌*ℤ◌}

-- the pair of ranks as a number, which ascends by the first and then by the next
abbrev pub pair_number : ℕ → ℕ → ℤ
pair_number first next = ((pos first -ℤ pos 2147483648) *ℤ pos 4294967296) +ℤ pos next
