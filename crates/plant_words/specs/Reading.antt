-- How the options are read, one argument after the other.
use Rattle.std.specs.Prelude.{◌≡◌, Bool, true, false, List, [], ◌∷◌, Option, Some, None, Result, Ok, Err, is_some, option_map, if◌then◌else◌, codes}
use Rattle.std.specs.Str.{bytes_eq}
use Rattle.plant_words.specs.Asked.{Text, Given, begins_with_hyphen}
use Rattle.plant_words.specs.declared.options.Options.{Options}
use Rattle.plant_words.specs.declared.options.Reading.{Reading}
use Rattle.plant_words.specs.declared.command.Unread.{Unread}
use Rattle.plant_words.specs.declared.command.Unread.TheVariants.{Faulty, NoMemory}
use Rattle.plant_words.specs.declared.options.Valued.{Valued}
use Rattle.plant_words.specs.declared.options.Valued.TheVariants.{Dir, Schema, Clock, Step, Port, Sessions}

-- what was read so far: the options, and the option that waits for its value
pub record State : Type 0 where
  pub given : Given
  pub waiting : Option Valued

-- no option
abbrev pub nothing_given : Given
nothing_given = record { dir = None; schema = None; clock = None; step = None; port = None; sessions = None; batch = false }

-- the option of a name
abbrev pub valued_named : Text → Option Valued
valued_named argument =
    if bytes_eq argument (codes "--dir") then Some Dir
    else if bytes_eq argument (codes "--schema") then Some Schema
    else if bytes_eq argument (codes "--clock") then Some Clock
    else if bytes_eq argument (codes "--step") then Some Step
    else if bytes_eq argument (codes "--port") then Some Port
    else if bytes_eq argument (codes "--sessions") then Some Sessions
    else None

-- the value of an option
abbrev pub value_in : Given → Valued → Option Text
value_in given Dir = given.dir
value_in given Schema = given.schema
value_in given Clock = given.clock
value_in given Step = given.step
value_in given Port = given.port
value_in given Sessions = given.sessions

-- the options with one more value
abbrev pub with_value : Given → Valued → Text → Given
with_value given Dir value = record given { dir = Some value }
with_value given Schema value = record given { schema = Some value }
with_value given Clock value = record given { clock = Some value }
with_value given Step value = record given { step = Some value }
with_value given Port value = record given { port = Some value }
with_value given Sessions value = record given { sessions = Some value }

-- an option waits for its value, unless it has one
abbrev pub waiting_for : Given → Option Valued → Option State
waiting_for given None = None
waiting_for given (Some name) =
    if is_some (value_in given name) then None else Some (record { given = given; waiting = Some name })

-- an argument that is to be a name
abbrev pub named : Given → Text → Option State
named given argument =
    if bytes_eq argument (codes "--batch")
    then (if given.batch then None else Some (record { given = record given { batch = true }; waiting = None }))
    else waiting_for given (valued_named argument)

-- one more argument
abbrev pub taken_by : Given → Option Valued → Text → Option State
taken_by given None argument = named given argument
taken_by given (Some name) argument =
    if begins_with_hyphen argument then None else Some (record { given = with_value given name argument; waiting = None })

abbrev pub taken : State → Text → Option State
taken state argument = taken_by state.given state.waiting argument

-- the end of the arguments
abbrev pub ended : State → Option Given
ended state = if is_some state.waiting then None else Some state.given

-- the arguments that remain
abbrev pub read_from : Option State → List Text → Option Given
read_from None arguments = None
read_from (Some state) [] = ended state
read_from (Some state) (argument ∷ arguments) = read_from (taken state argument) arguments

-- the texts of the options
abbrev pub given_of : Options → Given
given_of options = record {
  dir = option_map (λ s. s.now) options.folder;
  schema = option_map (λ s. s.now) options.schema;
  clock = option_map (λ s. s.now) options.clock;
  step = option_map (λ s. s.now) options.step;
  port = option_map (λ s. s.now) options.port;
  sessions = option_map (λ s. s.now) options.sessions;
  batch = options.batch;
}

abbrev pub state_of : Reading → State
state_of reading = record { given = given_of reading.options; waiting = reading.waiting }

-- a part of the arguments was read: whatever they ask for is this, unless memory ran out
abbrev pub IsReadBy : {A R : Type 0} → (R → A) → A → Result R Unread → Type 0
IsReadBy view asked (Ok read) = view read ≡ asked
IsReadBy view asked (Err NoMemory) = Unit {0}
IsReadBy view asked (Err Faulty) = ⊥
