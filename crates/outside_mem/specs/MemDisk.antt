-- What a disk in memory is seen as, and how its script decides its calls.
use Rattle.std.specs.Prelude.{◌≡◌, ◌≢◌, ◌⊎◌, ◌-◌, ◌==◌, ℕ, if◌then◌else◌, true, List, [], ◌∷◌, length, map, take, drop, Option, Some, None, Result, Ok, Err}
use Rattle.outside_api.specs.Counts.{counted}
use Rattle.outside_api.specs.Disk.{FileState, DiskView, kept_file, put, written, spoiled, cut_to, synced}
use Rattle.outside_api.specs.declared.disk.DiskFault.{DiskFault}
use Rattle.outside_mem.specs.MemFile.{file_in, ChangesFile, KeepsFiles, LosesFile, IsLeft}
use Rattle.outside_mem.specs.declared.files.Numbered.{Numbered}
use Rattle.outside_mem.specs.declared.calling.Calling.{Calling}
use Rattle.outside_mem.specs.declared.calling.Leaving.{Leaving}
use Rattle.outside_mem.specs.declared.calling.Calling.TheVariants.{Succeeds, FailsUndone, FailsTorn}

pub record MemDiskView : Type 0 where
  pub faults : ℕ
  -- its files, and those of each moment before
  pub files : List Numbered
  pub past : List (List Numbered)
  -- how its next calls go
  pub callings : List Calling
  -- after how many more calls it goes down
  pub left : Option ℕ
  -- how many calls were out of memory
  pub short : ℕ

-- what it shows: all
abbrev pub shown_by : MemDiskView → DiskView
shown_by disk = record { faults = disk.faults; tells = true; now = file_in disk.files; past = map file_in disk.past }

-- a disk whose files were never written
abbrev pub new_disk : List Calling → Option ℕ → MemDiskView
new_disk callings left = record { faults = 0; files = []; past = []; callings = callings; left = left; short = 0 }

abbrev pub first_calling : List Calling → Calling
first_calling [] = Succeeds
first_calling (calling ∷ callings) = calling

-- how the next call goes
abbrev pub next_calling : Option ℕ → List Calling → Calling
next_calling (Some n) callings = if n == 0 then FailsUndone else first_calling callings
next_calling None callings = first_calling callings

-- one call less
abbrev pub fewer : Option ℕ → Option ℕ
fewer (Some n) = Some (n - 1)
fewer None = None

-- a call succeeds only where it is to, and fails only where it is to or where it is out of memory
abbrev pub Goes : {T : Type 0} → MemDiskView → MemDiskView → Result T DiskFault → Type 0
Goes old new (Ok _) = (next_calling old.left old.callings ≡ Succeeds) × (new.short ≡ old.short)
Goes old new (Err _) = ((next_calling old.left old.callings ≢ Succeeds) × (new.short ≡ old.short)) ⊎ (new.short ≡ counted old.short 1)

-- the same of a call that takes no memory
abbrev pub GoesFreely : {T : Type 0} → MemDiskView → MemDiskView → Result T DiskFault → Type 0
GoesFreely old new (Ok _) = (next_calling old.left old.callings ≡ Succeeds) × (new.short ≡ old.short)
GoesFreely old new (Err _) = (next_calling old.left old.callings ≢ Succeeds) × (new.short ≡ old.short)

-- what a write of these bytes writes that goes so
abbrev pub part_written : Calling → List ℕ → List ℕ
part_written (FailsTorn count) bytes = take count bytes
part_written calling bytes = bytes

-- the files after a write that goes so
abbrev pub WriteGoes : Calling → ℕ → ℕ → List ℕ → (ℕ → FileState) → (ℕ → FileState) → Type 0
WriteGoes Succeeds file at bytes old new = ChangesFile old new file (written (old file) at (length bytes) (put (old file).bytes at bytes))
WriteGoes FailsUndone file at bytes old new = KeepsFiles old new
WriteGoes calling file at bytes old new = ChangesFile old new file (spoiled (old file) at (length bytes) (put (old file).bytes at (part_written calling bytes)))

-- the files after a truncation that goes so
abbrev pub CutGoes : Calling → ℕ → ℕ → (ℕ → FileState) → (ℕ → FileState) → Type 0
CutGoes FailsUndone file size old new = KeepsFiles old new
CutGoes calling file size old new = ChangesFile old new file (cut_to size (old file))

-- the files after a sync that goes so
abbrev pub SyncGoes : Calling → ℕ → (ℕ → FileState) → (ℕ → FileState) → Type 0
SyncGoes Succeeds file old new = ChangesFile old new file (synced (old file))
SyncGoes FailsUndone file old new = KeepsFiles old new
SyncGoes calling file old new = LosesFile old new file

-- a write goes as it is to, or is out of memory and changes no file
abbrev pub Writes : MemDiskView → MemDiskView → ℕ → ℕ → List ℕ → Type 0
Writes old new file at bytes =
    WriteGoes (next_calling old.left old.callings) file at bytes (file_in old.files) (file_in new.files)
    ⊎ ((new.short ≡ counted old.short 1) × KeepsFiles (file_in old.files) (file_in new.files))

-- a truncation goes as it is to
abbrev pub Cuts : MemDiskView → MemDiskView → ℕ → ℕ → Type 0
Cuts old new file size = CutGoes (next_calling old.left old.callings) file size (file_in old.files) (file_in new.files)

-- a sync goes as it is to
abbrev pub Syncs : MemDiskView → MemDiskView → ℕ → Type 0
Syncs old new file = SyncGoes (next_calling old.left old.callings) file (file_in old.files) (file_in new.files)

-- one call of the script is used up
pub record PlaysOn (old new : MemDiskView) : Type 0 where
  pub callings : new.callings ≡ drop 1 old.callings
  pub left : new.left ≡ fewer old.left

-- each file holds, all of it durable, what a crash leaves of it
abbrev pub AreLeft : Leaving → (ℕ → FileState) → (ℕ → FileState) → Type 0
AreLeft leaving old new = (number : ℕ) → (image : List ℕ) × IsLeft leaving (old number) image × (new number ≡ kept_file image)
