-- What a load leaves, and when it is refused.
use Rattle.std.specs.Prelude.{◌≡◌, ◌⊎◌, ℕ, IsTrue, Result, Ok, Err, ⊤}
use Rattle.outside_api.specs.Counts.{counted}
use Rattle.outside_api.specs.Disk.{DiskView, IsImage, Passes}
use Rattle.gated_journal.specs.declared.refusal.JournalRefusal.{JournalRefusal}
use Rattle.gated_journal.specs.declared.refusal.JournalRefusal.TheVariants.{DiskFault, Corrupt, NoMemory}
use Rattle.gated_journal.specs.declared.refusal.ReadRefusal.{ReadRefusal}
use Rattle.gated_journal.specs.declared.refusal.ReadRefusal.TheVariants as reading

-- the refusal of a load whose reading was refused
abbrev pub IsRaised : ReadRefusal → JournalRefusal → Type 0
IsRaised reading.DiskFault e = e ≡ DiskFault
IsRaised reading.NoMemory e = e ≡ NoMemory

-- a fault of the disk is counted, and comes only then
abbrev pub ReadCounts : {T : Type 0} → DiskView → DiskView → Result T ReadRefusal → Type 0
ReadCounts old new (Ok _) = (new.faults ≡ old.faults) × (new.tells ≡ old.tells)
ReadCounts old new (Err reading.DiskFault) = (new.faults ≡ counted old.faults 1) × (new.tells ≡ old.tells)
ReadCounts old new (Err reading.NoMemory) = (new.faults ≡ old.faults) × (new.tells ≡ old.tells)

-- the same of a load
abbrev pub LoadCounts : {T : Type 0} → DiskView → DiskView → Result T JournalRefusal → Type 0
LoadCounts old new (Ok _) = (new.faults ≡ old.faults) × (new.tells ≡ old.tells)
LoadCounts old new (Err DiskFault) = (new.faults ≡ counted old.faults 1) × (new.tells ≡ old.tells)
LoadCounts old new (Err (Corrupt records bytes)) = (new.faults ≡ old.faults) × (new.tells ≡ old.tells)
LoadCounts old new (Err NoMemory) = (new.faults ≡ old.faults) × (new.tells ≡ old.tells)

-- where the answer is `Corrupt`, this holds of its two numbers
abbrev pub IfCorrupt : {T : Type 0} → Result T JournalRefusal → (ℕ → ℕ → Type 0) → Type 0
IfCorrupt (Ok _) P = ⊤
IfCorrupt (Err DiskFault) P = ⊤
IfCorrupt (Err (Corrupt records bytes)) P = P records bytes
IfCorrupt (Err NoMemory) P = ⊤

-- at each moment each image of the file is one from before, or what reads give
abbrev pub KeepsImages : DiskView → DiskView → ℕ → Type 0
KeepsImages old new file =
    IsTrue old.tells → Passes old new file (λ image. IsImage (old.now file) image ⊎ (image ≡ (old.now file).bytes))
