-- What the program does with its arguments, over an outside.
use Rattle.std.specs.Prelude.{◌≡◌, ◌⊎◌, ℕ, Bool, List, Option, codes}
use Rattle.day_rows.specs.declared.schema.Shape.{Shape}
use Rattle.plant_words.specs.Asked.{Asked, init, once, serve, IsAsked}
use Rattle.plant_words.specs.declared.command.Ticking.{Ticking}
use Rattle.outside_api.specs.Counts.{counted}
use Rattle.program_outside.specs.Outside.{OutsideView, said_of, warned_of}
use Rattle.q_values.specs.Limits.{standard_limits}
use Rattle.q_values.specs.declared.limits.Limits.{Limits}
use Rattle.plant_run.specs.Ends.{IsShort}
use Rattle.plant_run.specs.Init.{FormatsIn}
use Rattle.plant_run.specs.Once.{RunsWith}
use Rattle.plant_run.specs.Port.{HostsWith}
use Rattle.plant_run.specs.Tables.{HasTables, HasNoTables}

-- the limits of a run, with or without batched publications
abbrev pub limits_with : Bool → Limits
limits_with batch = record standard_limits { batch = batch }

-- a folder is formatted for the tables that are found first
abbrev pub RunsInit : List ℕ → Option (List ℕ) → OutsideView → OutsideView → ℕ → Type 0
RunsInit path schema old new status =
    HasNoTables schema old new status
    ⊎ ((tables : List Shape) × ((seen : OutsideView) × HasTables schema tables old seen × FormatsIn tables path seen new status))

-- a session is served within these limits, with the tables that are found first
abbrev pub RunsOnce : Limits → Option (List ℕ) → Option (List ℕ) → Option Ticking → OutsideView → OutsideView → ℕ → Type 0
RunsOnce limits folder schema ticking old new status =
    HasNoTables schema old new status
    ⊎ ((tables : List Shape) × ((seen : OutsideView) × HasTables schema tables old seen × RunsWith limits tables ticking folder seen new status))

-- `count` sessions of a port are served within these limits, with the tables that are found first
abbrev pub RunsServe : Limits → ℕ → ℕ → Option (List ℕ) → Option (List ℕ) → OutsideView → OutsideView → ℕ → Type 0
RunsServe limits port count folder schema old new status =
    HasNoTables schema old new status
    ⊎ ((tables : List Shape) × ((seen : OutsideView) × HasTables schema tables old seen × HostsWith limits tables port count folder seen new status))

-- what the program does where its arguments ask for this
abbrev pub RunsFor : Asked → OutsideView → OutsideView → ℕ → Type 0
RunsFor (init path schema) old new status = RunsInit path schema old new status
RunsFor (once folder schema ticking batch) old new status = RunsOnce (limits_with batch) folder schema ticking old new status
RunsFor (serve port sessions folder schema batch) old new status = RunsServe (limits_with batch) port sessions folder schema old new status

-- standard output can't be written, which is counted, and ends the program as a fault of a link does
abbrev pub CannotSay : OutsideView → OutsideView → ℕ → Type 0
CannotSay old new status =
    (status ≡ 4) × (new ≡ warned_of (record old { say_faults = counted old.say_faults 1 }) (codes "plant: link fault"))

-- a text is shown on standard output, or can't be
abbrev pub Shows : OutsideView → OutsideView → ℕ → Type 0
Shows old new status = ((text : List ℕ) × (status ≡ 0) × (new ≡ said_of old text)) ⊎ CannotSay old new status

-- the arguments are faulty, and a second line says in which way
abbrev pub TellsUsage : OutsideView → OutsideView → ℕ → Type 0
TellsUsage old new status = (line : List ℕ) × (status ≡ 1) × (new ≡ warned_of (warned_of old (codes "plant: usage")) line)

-- the arguments ask for nothing that the program does
abbrev pub AsksNothing : List (List ℕ) → Type 0
AsksNothing words = (asked : Asked) → IsAsked words asked → ⊥

-- what the program does with these arguments
abbrev pub Runs : List (List ℕ) → OutsideView → OutsideView → ℕ → Type 0
Runs words old new status =
    ((asked : Asked) × IsAsked words asked × RunsFor asked old new status)
    ⊎ ((AsksNothing words × (Shows old new status ⊎ TellsUsage old new status)) ⊎ IsShort old new status)
