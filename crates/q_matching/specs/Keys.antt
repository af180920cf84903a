-- Numbers that a set of numbers of 64 bits has.
use Rattle.std.specs.Prelude.{ℤ, Bool, ◌&&◌, Option, Some, None}
use Rattle.std.specs.Int.RustNames.{int_lt}
use Rattle.std.specs.Int.{w64}
use Rattle.q_verbs.specs.Numbers.{least}

-- the set has the number, where for the null it has the least one of 64 bits
abbrev pub has_number : (ℤ → Bool) → Option ℤ → Bool
has_number has None = has (least w64)
has_number has (Some z) = int_lt (least w64) z && has z
