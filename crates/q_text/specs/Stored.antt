-- Which numbers the storage of a kind holds.
use Rattle.std.specs.Prelude.{ℤ, List, Bool, if◌then◌else◌, Option, Some, None, FitsSigned}
use Rattle.std.specs.Int.{w16, w32}
use Rattle.q_text.specs.declared.kinds.NumberKind.{NumberKind}
use Rattle.q_text.specs.declared.kinds.NumberKind.TheVariants as nk

-- the number fits the width of its kind; kinds of 64 bits and of one byte hold any number that is stored
abbrev pub IsStored : NumberKind → ℤ → Type 0
IsStored nk.Boolean z = Unit {0}
IsStored nk.Byte z = Unit {0}
IsStored nk.Short z = FitsSigned w16 z
IsStored (nk.Integers kind) z = FitsSigned w32 z
IsStored (nk.Longs kind) z = Unit {0}

-- the numbers, where they are of a form and in range
abbrev pub read : Bool → List ℤ → Option (List ℤ)
read fits numbers = if fits then Some numbers else None
