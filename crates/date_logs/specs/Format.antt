-- When the files of a plant are made.
use Rattle.std.specs.Prelude.{◌≡◌, ◌<◌, ℕ, Result, Ok, Err}
use Rattle.outside_api.specs.Counts.{counted}
use Rattle.outside_api.specs.Disk.{DiskView}
use Rattle.date_logs.specs.declared.refusal.FormatRefusal.{FormatRefusal}
use Rattle.date_logs.specs.declared.refusal.FormatRefusal.TheVariants as f

-- the answer, where the manifest's file has this many bytes
abbrev pub IsMadeFrom : ℕ → Result (Unit {0}) FormatRefusal → Type 0
IsMadeFrom n (Ok _) = n ≡ 0
IsMadeFrom n (Err f.AlreadyMade) = 0 < n
IsMadeFrom n (Err f.DiskFault) = Unit {0}
IsMadeFrom n (Err f.NoMemory) = n ≡ 0

-- where the answer is `AlreadyMade`, this holds
abbrev pub IfMade : Result (Unit {0}) FormatRefusal → Type 0 → Type 0
IfMade (Ok _) P = Unit {0}
IfMade (Err f.AlreadyMade) P = P
IfMade (Err f.DiskFault) P = Unit {0}
IfMade (Err f.NoMemory) P = Unit {0}

-- a fault of the disk is counted, and comes only then
abbrev pub FormatCounts : DiskView → DiskView → Result (Unit {0}) FormatRefusal → Type 0
FormatCounts old new (Ok _) = (new.faults ≡ old.faults) × (new.tells ≡ old.tells)
FormatCounts old new (Err f.AlreadyMade) = (new.faults ≡ old.faults) × (new.tells ≡ old.tells)
FormatCounts old new (Err f.DiskFault) = (new.faults ≡ counted old.faults 1) × (new.tells ≡ old.tells)
FormatCounts old new (Err f.NoMemory) = (new.faults ≡ old.faults) × (new.tells ≡ old.tells)
