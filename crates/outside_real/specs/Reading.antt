-- Reading a file whole.
use Rattle.std.specs.Prelude.{◌≡◌, ℕ, ◌<◌, List, length, Option, IfSome}
use Rattle.std.specs.declared.io.ErrorKind.{ErrorKind}
use Rattle.std.specs.declared.io.ErrorKind.TheVariants.{NotFound, OutOfMemory}
use Rattle.outside_real.specs.declared.reading.ReadRefusal.{ReadRefusal}
use Rattle.outside_real.specs.declared.reading.ReadRefusal.TheVariants.{Missing, TooLong, Failed, NoMemory}

-- what an error of this kind means where a file is read
abbrev pub reading_refused : ErrorKind → ReadRefusal
reading_refused NotFound = Missing
reading_refused OutOfMemory = NoMemory
reading_refused kind = Failed kind

-- a refusal as too long comes only where more than this many bytes are left, if that is known
abbrev pub IsPast : ℕ → Option (List ℕ) → ReadRefusal → Type 0
IsPast limit left refusal = refusal ≡ TooLong → IfSome left (λ bytes. limit < length bytes)
