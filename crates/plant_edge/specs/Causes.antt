-- What the system's refusals are to a program.
use Rattle.std.specs.Prelude.{◌≡◌, Result, Ok, Err, IsOk}
use Rattle.std.specs.declared.io.ErrorKind.{ErrorKind}
use Rattle.std.specs.declared.io.ErrorKind.TheVariants.{PermissionDenied, StorageFull, ReadOnlyFilesystem, OutOfMemory}
use Rattle.outside_real.specs.declared.locked_folder.FolderRefusal.{FolderRefusal}
use Rattle.outside_real.specs.declared.locked_folder.FolderRefusal.TheVariants as folder
use Rattle.outside_real.specs.declared.port.PortRefusal.{PortRefusal}
use Rattle.outside_real.specs.declared.port.PortRefusal.TheVariants as port
use Rattle.outside_real.specs.declared.reading.ReadRefusal.{ReadRefusal}
use Rattle.outside_real.specs.declared.reading.ReadRefusal.TheVariants as reading
use Rattle.program_outside.specs.declared.fault.Cause.{Cause}
use Rattle.program_outside.specs.declared.fault.Cause.TheVariants as c
use Rattle.program_outside.specs.declared.fault.FileRefusal.{FileRefusal}
use Rattle.program_outside.specs.declared.fault.FileRefusal.TheVariants.{MakeFault, NoMemory}
use Rattle.program_outside.specs.declared.fault.MakeFault.{MakeFault as NotMade}

-- the cause that an error of this kind is
abbrev pub cause_of_kind : ErrorKind → Cause
cause_of_kind PermissionDenied = c.Denied
cause_of_kind StorageFull = c.Full
cause_of_kind ReadOnlyFilesystem = c.Full
cause_of_kind OutOfMemory = c.NoMemory
cause_of_kind _ = c.Other

-- the cause for which a folder isn't opened
abbrev pub cause_of_folder : FolderRefusal → Cause
cause_of_folder folder.Missing = c.Missing
cause_of_folder folder.NotAFolder = c.NotAFolder
cause_of_folder folder.InUse = c.InUse
cause_of_folder (folder.Failed kind) = cause_of_kind kind
cause_of_folder folder.NoMemory = c.NoMemory

-- the cause for which a port isn't listened on, or a connection not accepted
abbrev pub cause_of_port : PortRefusal → Cause
cause_of_port port.InUse = c.PortInUse
cause_of_port (port.Failed kind) = cause_of_kind kind

-- what the refusal to read a file is to a program
abbrev pub refusal_of_file : ReadRefusal → FileRefusal
refusal_of_file reading.Missing = MakeFault c.Missing
refusal_of_file reading.TooLong = MakeFault c.TooLong
refusal_of_file (reading.Failed kind) = MakeFault (cause_of_kind kind)
refusal_of_file reading.NoMemory = NoMemory

-- the fault of a folder that isn't opened has the cause of the refusal, and there is no fault without one
abbrev pub HasFolderCause : {F D : Type 0} → Result F FolderRefusal → Result D NotMade → Type 0
HasFolderCause (Ok _) result = IsOk result
HasFolderCause (Err why) result = result ≡ Err (record { cause = cause_of_folder why })

-- this is the cause of some refusal of a folder
abbrev pub IsFolderCause : Cause → Type 0
IsFolderCause cause = (why : FolderRefusal) × (cause ≡ cause_of_folder why)

-- this is the cause of some refusal of a port or a connection
abbrev pub IsPortCause : Cause → Type 0
IsPortCause cause = (why : PortRefusal) × (cause ≡ cause_of_port why)

-- this is what some refusal to read a file is to a program
abbrev pub IsFileRefusal : FileRefusal → Type 0
IsFileRefusal refusal = (why : ReadRefusal) × (refusal ≡ refusal_of_file why)
