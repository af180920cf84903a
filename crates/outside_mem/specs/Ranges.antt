-- The ranges of a file that were written.
use Rattle.std.specs.Prelude.{◌≢◌, ◌⊎◌, ◌<◌, ◌≤◌, ◌+◌, ◌^◌, ℕ, List, [], ◌∷◌}
use Rattle.std.specs.List.{AllByRecursion}
use Rattle.outside_api.specs.Disk.{IsBeside}
use Rattle.outside_api.specs.declared.range.WrittenRange.{WrittenRange}
use Rattle.outside_api.specs.declared.range.RangeState.TheVariants.{Kept}

-- a range ends below 2^63
abbrev pub EndsEarly : WrittenRange → Type 0
EndsEarly range = range.at + range.size < 2 ^ 63

-- a crash may leave any bytes in a range
abbrev pub IsNotKept : WrittenRange → Type 0
IsNotKept range = range.state ≢ Kept

-- the last of these ranges that holds the offset isn't durable
abbrev pub IsInDoubt : ℕ → List WrittenRange → Type 0
IsInDoubt k [] = ⊥
IsInDoubt k (range ∷ ranges) = (IsNotKept range × (range.at ≤ k) × (k < range.at + range.size) × AllByRecursion (IsBeside k) ranges) ⊎ IsInDoubt k ranges
