-- The exit statuses and the lines of a run's ends.
use Rattle.std.specs.Prelude.{◌≡◌, ◌⊎◌, ℕ, List, ◌++◌, Option, Some, None, codes}
use Rattle.std.specs.Fmt.{decimal}
use Rattle.program_outside.specs.Outside.{OutsideView, with_fault, warned_of}
use Rattle.program_outside.specs.declared.fault.Cause.{Cause}
use Rattle.ipc_frame.specs.declared.bad.Bad.{Bad}
use Rattle.ipc_frame.specs.declared.bad.Bad.TheVariants as b
use Rattle.session.specs.declared.end.End.{End}
use Rattle.session.specs.declared.end.End.TheVariants.{Closed, Truncated, BadMessage, ReadFault, WriteFault, Idle, NoMemory}
use Rattle.plant_run.specs.Causes.{Says}
use Rattle.plant_run.specs.declared.causes.StartRefusal.{StartRefusal}
use Rattle.plant_run.specs.declared.causes.StartRefusal.TheVariants as s

-- the number of the rule that a bad message breaks
abbrev pub number_of : Bad → ℕ
number_of b.Order = 1
number_of b.Kind = 2
number_of b.Compressed = 3
number_of b.Length = 4
number_of b.TooLong = 5
number_of b.Object = 6
number_of b.Greeting = 7

-- the exit status of each end of a session
abbrev pub status_of : End → ℕ
status_of Closed = 0
status_of Truncated = 2
status_of (BadMessage code at) = 3
status_of ReadFault = 4
status_of WriteFault = 4
status_of Idle = 5
status_of NoMemory = 7

-- the line that reports a bad message, with a number and an offset
abbrev pub bad_message : ℕ → ℕ → List ℕ
bad_message number at = codes "plant: bad message " ++ decimal number ++ codes " at " ++ decimal at

-- the line of each end on standard error
abbrev pub line_of : End → Option (List ℕ)
line_of Closed = None
line_of Truncated = Some (codes "plant: input ends within a message")
line_of (BadMessage code at) = Some (bad_message (number_of code) at)
line_of ReadFault = Some (codes "plant: link fault")
line_of WriteFault = Some (codes "plant: link fault")
line_of Idle = Some (codes "plant: idle")
line_of NoMemory = Some (codes "plant: wsfull")

-- an outside that printed the line, if there is one
abbrev pub printed : OutsideView → Option (List ℕ) → OutsideView
printed seen None = seen
printed seen (Some line) = warned_of seen line

-- the program ends with the exit status and the line of the session's end
abbrev pub Concludes : End → OutsideView → OutsideView → ℕ → Type 0
Concludes end old new status = (status ≡ status_of end) × (new ≡ printed old (line_of end))

-- the program ends since it is out of memory
abbrev pub IsShort : OutsideView → OutsideView → ℕ → Type 0
IsShort old new status = (status ≡ 7) × (new ≡ warned_of old (codes "plant: wsfull"))

-- the line that says in these words why something of this name refused
abbrev pub cause_line : List ℕ → List ℕ → List ℕ
cause_line name words = codes "plant: " ++ name ++ codes ": " ++ words

-- the line says why, unless there is no memory for it
abbrev pub TellsWhy : List ℕ → StartRefusal → List ℕ → Type 0
TellsWhy name why line =
    ((words : List ℕ) × Says why words × (line ≡ cause_line name words)) ⊎ (line ≡ codes "plant: there is no memory to say why")

-- the program can't start, and a second line says why; what refused has this name
abbrev pub CannotStart : List ℕ → StartRefusal → OutsideView → OutsideView → ℕ → Type 0
CannotStart name why old new status =
    (status ≡ 6) × ((line : List ℕ) × TellsWhy name why line × (new ≡ warned_of (warned_of old (codes "plant: cannot start")) line))

-- what has this name couldn't be made or read, which is counted, and the program can't start
abbrev pub CannotMake : List ℕ → OutsideView → OutsideView → ℕ → Type 0
CannotMake name old new status = (cause : Cause) × CannotStart name (s.Device cause) (with_fault old) new status
