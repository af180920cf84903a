-- What the disk of a folder shows.
use Rattle.std.specs.Prelude.{◌≡◌, ℕ, false, [], Result, Ok, Err}
use Rattle.outside_api.specs.Counts.{counted}
use Rattle.outside_api.specs.Disk.{DiskView, empty_file}
use Rattle.outside_api.specs.declared.disk.DiskFault.{DiskFault}
use Rattle.outside_real.specs.declared.folder_disk.FolderDisk.{FolderDisk}
use Rattle.std.specs.declared.io.Error.{Error}

-- its count of faults; it reports nothing of its files
abbrev pub disk_shown : {F D : Type 0} → FolderDisk F D → DiskView
disk_shown disk = record { faults = disk.faults; tells = false; now = λ _. empty_file; past = [] }

-- the same answer, but that an error is a fault, and the fault is counted
abbrev pub IsCounted : {T : Type 0} → ℕ → ℕ → Result T Error → Result T DiskFault → Type 0
IsCounted old new (Ok value) result = (new ≡ old) × (result ≡ Ok value)
IsCounted old new (Err _) result = (new ≡ counted old 1) × ((fault : DiskFault) × (result ≡ Err fault))
