-- Opening and locking a folder, and the names of its files.
use Rattle.std.specs.Prelude.{◌≡◌, ℕ, List, ◌++◌, Result, Ok, Err, codes, string_bytes}
use Rattle.std.specs.Fmt.{decimal}
use Rattle.std.specs.IoError.{error_kind}
use Rattle.std.specs.declared.io.ErrorKind.{ErrorKind}
use Rattle.std.specs.declared.io.ErrorKind.TheVariants.{NotFound, NotADirectory, OutOfMemory}
use Rattle.std.specs.declared.fs.locks.TryLockError.{TryLockError}
use Rattle.std.specs.declared.fs.locks.TryLockError.TheVariants.{Error, WouldBlock}
use Rattle.outside_real.specs.declared.locked_folder.LockedFolder.{LockedFolder}
use Rattle.outside_real.specs.declared.locked_folder.FolderRefusal.{FolderRefusal}
use Rattle.outside_real.specs.declared.locked_folder.FolderRefusal.TheVariants.{Missing, NotAFolder, InUse, Failed, NoMemory}

-- what an error of this kind means where a folder is opened
abbrev pub refused : ErrorKind → FolderRefusal
refused NotFound = Missing
refused NotADirectory = NotAFolder
refused OutOfMemory = NoMemory
refused kind = Failed kind

-- a lock that would block means that the folder is in use
abbrev pub Locks : Result (Unit {0}) TryLockError → Result (Unit {0}) FolderRefusal → Type 0
Locks (Ok _) result = result ≡ Ok tt
Locks (Err WouldBlock) result = result ≡ Err InUse
Locks (Err (Error error)) result = result ≡ Err (refused (error_kind error))

-- the folder's path
abbrev pub folder_path : {R D : Type 0} → LockedFolder R D → List ℕ
folder_path folder = string_bytes folder.path

-- the path of the file of a number: that of its folder, then `/f` and the number in decimal digits
abbrev pub file_path : List ℕ → ℕ → List ℕ
file_path folder file = folder ++ (codes "/f" ++ decimal file)
