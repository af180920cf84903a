-- The calls of a disk as a list, and what such a list makes of a disk.
use Rattle.std.specs.Prelude.{◌≡◌, ◌⊎◌, ℕ, IsTrue, List, [], ◌∷◌, Result, Ok, Err}
use Rattle.outside_api.specs.Disk.{FileState, DiskView, Changes, Writing, Cutting, Syncing}
use Rattle.outside_api.specs.declared.disk.DiskFault.{DiskFault}

-- a call on one file
pub data DiskCall : Type 0 where
  -- a write of these bytes at an offset
  writes : ℕ → List ℕ → DiskCall
  -- a truncation to a size
  cuts : ℕ → DiskCall
  syncs : DiskCall
  -- a question for the size
  sizes : DiskCall
  reads : DiskCall

-- what a call makes of its file; a size and a read show only as a moment at which nothing changed
abbrev pub Calling : {T : Type 0} → DiskCall → Result T DiskFault → FileState → FileState → Type 0
Calling (writes at bytes) result old new = Writing at bytes result old new
Calling (cuts size) result old new = Cutting size result old new
Calling syncs result old new = Syncing result old new
Calling sizes result old new = new ≡ old
Calling reads result old new = new ≡ old

-- a call was made, and ended so
abbrev pub Called : ℕ → DiskCall → Result (Unit {0}) DiskFault → DiskView → DiskView → Type 0
Called file call result old new = Changes old new file (Calling call result)

-- these calls were made, one after another, and no other; all succeeded
abbrev pub AllDone : ℕ → List DiskCall → DiskView → DiskView → Type 0
AllDone file [] old new = (new.now ≡ old.now) × (new.past ≡ old.past)
AllDone file (call ∷ calls) old new = (mid : DiskView) × Called file call (Ok tt) old mid × AllDone file calls mid new

-- one of these calls failed; those before it were made and succeeded, and no other was made
abbrev pub FailsIn : ℕ → List DiskCall → DiskView → DiskView → Type 0
FailsIn file [] old new = ⊥
FailsIn file (call ∷ calls) old new =
    ((fault : DiskFault) × Called file call (Err fault) old new) ⊎ ((mid : DiskView) × Called file call (Ok tt) old mid × FailsIn file calls mid new)

-- where the disk reports, these are the calls that were made: all of them, or at a fault those up to the one that failed
abbrev pub Makes : {T : Type 0} → DiskView → DiskView → ℕ → List DiskCall → Result T DiskFault → Type 0
Makes old new file calls (Ok _) = IsTrue old.tells → AllDone file calls old new
Makes old new file calls (Err _) = IsTrue old.tells → FailsIn file calls old new
