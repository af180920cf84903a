-- What the maker of a program's devices shows, and what its calls change.
use Rattle.std.specs.Prelude.{◌≡◌, ℕ, ℤ, List, [], ◌∷◌, Option, Some, None, Result, Ok, Err, codes}
use Rattle.outside_api.specs.Counts.{counted}
use Rattle.outside_api.specs.Disk.{DiskView}
use Rattle.outside_api.specs.Link.{LinkView, IsFresh}
use Rattle.outside_api.specs.Told.{told}
use Rattle.program_outside.specs.declared.fault.Cause.{Cause}
use Rattle.program_outside.specs.declared.fault.Cause.TheVariants as c
use Rattle.program_outside.specs.declared.fault.FileRefusal.{FileRefusal}
use Rattle.program_outside.specs.declared.fault.FileRefusal.TheVariants.{MakeFault, NoMemory}
use Rattle.program_outside.specs.declared.fault.MakeFault.{MakeFault as NotMade}
use Rattle.program_outside.specs.declared.fault.SayFault.{SayFault}
use Rattle.q_values.specs.declared.turn.Turn.{Turn}

-- a cause in plain words
abbrev pub words_of : Cause → List ℕ
words_of c.Missing = codes "there is no such file or folder"
words_of c.NotAFolder = codes "it is not a folder"
words_of c.InUse = codes "it is in use by another process"
words_of c.PortInUse = codes "the port is in use"
words_of c.Denied = codes "permission denied"
words_of c.Full = codes "no space is left, or the file system is read-only"
words_of c.TooLong = codes "it is too long"
words_of c.NoMemory = codes "out of memory"
words_of c.Other = codes "the system refused it"

-- a link with the readings of its clock and with what was noted of its session, as they were handed back
pub record Back : Type 0 where
  pub link : Option LinkView
  pub readings : Option (Option (List ℤ))
  pub noted : Option (Option (List Turn))

-- a folder that was opened, with its disk as it was then
pub record Opened : Type 0 where
  pub path : List ℕ
  pub disk : DiskView

-- a file that was read whole
pub record FileRead : Type 0 where
  pub path : List ℕ
  pub bytes : List ℕ

-- what an outside shows: how often something couldn't be made or read, how often it couldn't listen or accept, and how often a
-- line couldn't be printed on standard output; the port that it listens on; the links that it made, as they were then; the
-- folders that it opened and the files that it read; the lines on standard output and on standard error; what was handed back
pub record OutsideView : Type 0 where
  pub make_faults : ℕ
  pub listen_faults : ℕ
  pub say_faults : ℕ
  pub listening : Option ℕ
  pub links : Option (List LinkView)
  pub opened : Option (List Opened)
  pub files : Option (List FileRead)
  pub said : Option (List (List ℕ))
  pub warned : Option (List (List ℕ))
  pub backs : Option (List Back)
  pub kept : Option (List DiskView)

-- after something couldn't be made or read
abbrev pub with_fault : OutsideView → OutsideView
with_fault old = record old { make_faults = counted old.make_faults 1 }

-- after a link was made
abbrev pub linked_of : OutsideView → LinkView → OutsideView
linked_of old link = record old { links = told old.links (link ∷ []) }

-- a link was made, and nothing has passed through it
abbrev pub HasLinked : OutsideView → OutsideView → LinkView → Type 0
HasLinked old new link = IsFresh link × (new ≡ linked_of old link)

-- what making a link changes
abbrev pub Links : {L : Type 0} → (L → LinkView) → OutsideView → OutsideView → Result L NotMade → Type 0
Links shown old new (Ok link) = HasLinked old new (shown link)
Links shown old new (Err _) = new ≡ with_fault old

-- it listens on a port
abbrev pub IsListening : OutsideView → Type 0
IsListening seen = (port : ℕ) × (seen.listening ≡ Some port)

-- after it couldn't listen, or couldn't accept a connection
abbrev pub with_listen_fault : OutsideView → OutsideView
with_listen_fault old = record old { listen_faults = counted old.listen_faults 1 }

-- what listening on a port changes
abbrev pub Listens : {T : Type 0} → ℕ → OutsideView → OutsideView → Result T NotMade → Type 0
Listens port old new (Ok _) = new ≡ record old { listening = Some port }
Listens port old new (Err _) = new ≡ with_listen_fault old

-- what accepting a connection changes: nothing, where none came
abbrev pub Accepts : {L : Type 0} → (L → LinkView) → OutsideView → OutsideView → Result (Option L) NotMade → Type 0
Accepts shown old new (Ok (Some link)) = HasLinked old new (shown link)
Accepts shown old new (Ok None) = new ≡ old
Accepts shown old new (Err _) = new ≡ with_listen_fault old

-- after a folder was opened
abbrev pub opened_of : OutsideView → List ℕ → DiskView → OutsideView
opened_of old path disk = record old { opened = told old.opened (record { path = path; disk = disk } ∷ []) }

-- what opening a folder changes
abbrev pub Opens : {D : Type 0} → List ℕ → (D → DiskView) → OutsideView → OutsideView → Result D NotMade → Type 0
Opens path shown old new (Ok disk) = new ≡ opened_of old path (shown disk)
Opens path shown old new (Err _) = new ≡ with_fault old

-- after a file was read
abbrev pub read_of : OutsideView → List ℕ → List ℕ → OutsideView
read_of old path bytes = record old { files = told old.files (record { path = path; bytes = bytes } ∷ []) }

-- what reading a file changes
abbrev pub ReadsFile : {V : Type 0} → List ℕ → (V → List ℕ) → OutsideView → OutsideView → Result V FileRefusal → Type 0
ReadsFile path items old new (Ok bytes) = new ≡ read_of old path (items bytes)
ReadsFile path items old new (Err (MakeFault cause)) = new ≡ with_fault old
ReadsFile path items old new (Err NoMemory) = new ≡ old

-- after a line was printed on standard output
abbrev pub said_of : OutsideView → List ℕ → OutsideView
said_of old line = record old { said = told old.said (line ∷ []) }

-- what printing a line on standard output changes: a fault is counted
abbrev pub Says : {T : Type 0} → List ℕ → OutsideView → OutsideView → Result T SayFault → Type 0
Says line old new (Ok _) = new ≡ said_of old line
Says line old new (Err _) = new ≡ record old { say_faults = counted old.say_faults 1 }

-- after a line was printed on standard error
abbrev pub warned_of : OutsideView → List ℕ → OutsideView
warned_of old line = record old { warned = told old.warned (line ∷ []) }

-- after a link, a clock and a recorder were handed back
abbrev pub handed_back : OutsideView → Option LinkView → Option (Option (List ℤ)) → Option (Option (List Turn)) → OutsideView
handed_back old link readings noted =
    record old { backs = told old.backs (record { link = link; readings = readings; noted = noted } ∷ []) }

-- after the disk of a folder was handed back
abbrev pub kept_of : OutsideView → DiskView → OutsideView
kept_of old disk = record old { kept = told old.kept (disk ∷ []) }
