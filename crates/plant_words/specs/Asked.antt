-- What a command line asks for: the options, in any order, and the command that they belong to.
use Rattle.std.specs.Prelude.{◌≡◌, ◌≤◌, ℕ, ℤ, pos, ◌==◌, Bool, true, false, List, [], ◌∷◌, ◌++◌, length, Option, Some, None}
use Rattle.std.specs.Prelude.{option_map, filter_map, codes, Result, Ok, Err}
use Rattle.std.specs.List.{AllByRecursion}
use Rattle.std.specs.Option.{option_to_list}
use Rattle.std.specs.Str.Parse.{IsNumeral, digits_value}
use Rattle.q_values.specs.Tree.{atom}
use Rattle.q_values.specs.declared.atom.Atom.TheVariants as a
use Rattle.q_text.specs.Literal.{literal_at}
use Rattle.plant_words.specs.declared.command.Command.{Command}
use Rattle.plant_words.specs.declared.command.Command.TheVariants.{Init, Once, Serve}
use Rattle.plant_words.specs.declared.command.Ticking.{Ticking}
use Rattle.plant_words.specs.declared.command.ArgumentsRefusal.{ArgumentsRefusal}
use Rattle.plant_words.specs.declared.command.ArgumentsRefusal.TheVariants.{NoMemory}

-- an argument, or the value of an option, as its bytes
abbrev pub Text : Type 0
Text = List ℕ

-- an option with its value, or a flag
pub data Setting : Type 0 where
  set_dir : Text → Setting
  set_schema : Text → Setting
  set_clock : Text → Setting
  set_step : Text → Setting
  set_port : Text → Setting
  set_sessions : Text → Setting
  set_batch : Setting

-- an option is written `--name value`, a flag `--name`
abbrev pub arguments_of_setting : Setting → List Text
arguments_of_setting (set_dir value) = codes "--dir" ∷ value ∷ []
arguments_of_setting (set_schema value) = codes "--schema" ∷ value ∷ []
arguments_of_setting (set_clock value) = codes "--clock" ∷ value ∷ []
arguments_of_setting (set_step value) = codes "--step" ∷ value ∷ []
arguments_of_setting (set_port value) = codes "--port" ∷ value ∷ []
arguments_of_setting (set_sessions value) = codes "--sessions" ∷ value ∷ []
arguments_of_setting set_batch = codes "--batch" ∷ []

-- the arguments of settings, in order
abbrev pub arguments_of : List Setting → List Text
arguments_of [] = []
arguments_of (setting ∷ rest) = arguments_of_setting setting ++ arguments_of rest

-- a text begins with `-`
abbrev pub begins_with_hyphen : Text → Bool
begins_with_hyphen [] = false
begins_with_hyphen (b ∷ rest) = b == 45

-- the value of an option doesn't begin with `-`
abbrev pub HasPlainValue : Setting → Type 0
HasPlainValue (set_dir value) = begins_with_hyphen value ≡ false
HasPlainValue (set_schema value) = begins_with_hyphen value ≡ false
HasPlainValue (set_clock value) = begins_with_hyphen value ≡ false
HasPlainValue (set_step value) = begins_with_hyphen value ≡ false
HasPlainValue (set_port value) = begins_with_hyphen value ≡ false
HasPlainValue (set_sessions value) = begins_with_hyphen value ≡ false
HasPlainValue set_batch = Unit {0}

-- the values that the options were given
pub record Given : Type 0 where
  pub dir : Option Text
  pub schema : Option Text
  pub clock : Option Text
  pub step : Option Text
  pub port : Option Text
  pub sessions : Option Text
  pub batch : Bool

abbrev pub dir_of : Setting → Option Text
dir_of (set_dir value) = Some value
dir_of _ = None

abbrev pub schema_of : Setting → Option Text
schema_of (set_schema value) = Some value
schema_of _ = None

abbrev pub clock_of : Setting → Option Text
clock_of (set_clock value) = Some value
clock_of _ = None

abbrev pub step_of : Setting → Option Text
step_of (set_step value) = Some value
step_of _ = None

abbrev pub port_of : Setting → Option Text
port_of (set_port value) = Some value
port_of _ = None

abbrev pub sessions_of : Setting → Option Text
sessions_of (set_sessions value) = Some value
sessions_of _ = None

abbrev pub batch_of : Setting → Option Bool
batch_of set_batch = Some true
batch_of _ = None

abbrev pub flags : Bool → List Bool
flags true = true ∷ []
flags false = []

-- the settings give each option at most once, and these values
pub record Gives (settings : List Setting) (given : Given) : Type 0 where
  pub dir : filter_map dir_of settings ≡ option_to_list given.dir
  pub schema : filter_map schema_of settings ≡ option_to_list given.schema
  pub clock : filter_map clock_of settings ≡ option_to_list given.clock
  pub step : filter_map step_of settings ≡ option_to_list given.step
  pub port : filter_map port_of settings ≡ option_to_list given.port
  pub sessions : filter_map sessions_of settings ≡ option_to_list given.sessions
  pub batch : filter_map batch_of settings ≡ flags given.batch

-- the arguments are settings, in any order, that give these values
pub record AreOptions (arguments : List Text) (given : Given) : Type 0 where
  pub settings : List Setting
  pub written : arguments ≡ arguments_of settings
  pub plain : AllByRecursion HasPlainValue settings
  pub values : Gives settings given

-- what a command line asks for: `init` has a folder and a schema; `once` a folder, a schema, a clock, and whether it batches;
-- `serve` a port, a number of sessions, a folder, a schema, and whether it batches
pub data Asked : Type 0 where
  init : Text → Option Text → Asked
  once : Option Text → Option Text → Option Ticking → Bool → Asked
  serve : ℕ → ℕ → Option Text → Option Text → Bool → Asked

-- the text is one timestamp literal, and this is its value
abbrev pub IsMoment : Text → ℤ → Type 0
IsMoment text moment = literal_at text 0 ≡ Some (record { value = atom (a.Timestamp moment); end = length text })

-- decimal digits write the number, which is at most this one
abbrev pub IsNumber : ℕ → Text → ℕ → Type 0
IsNumber most text n = IsNumeral 10 text × (digits_value 10 text ≡ n) × (n ≤ most)

-- a step is at most a day; it is 0 where the option is missing
abbrev pub IsStep : Option Text → ℕ → Type 0
IsStep None n = n ≡ 0
IsStep (Some text) n = IsNumber 86400000000000 text n

-- decimal digits write the number, which is from 1 to this one
abbrev pub IsFromOne : ℕ → Text → ℕ → Type 0
IsFromOne most text n = IsNumber most text n × (1 ≤ n)

-- an option has such a number
abbrev pub HasNumber : ℕ → Option Text → ℕ → Type 0
HasNumber most None n = ⊥
HasNumber most (Some text) n = IsFromOne most text n

-- the clock begins at a timestamp and ticks by the step; without `--clock` there is none
abbrev pub Ticks : Option Text → ℕ → Option Ticking → Type 0
Ticks None step ticking = ticking ≡ None
Ticks (Some text) step ticking = (start : ℤ) × IsMoment text start × (ticking ≡ Some (record { start = start; step = pos step }))

abbrev pub IsClock : Option Text → Option Text → Option Ticking → Type 0
IsClock clock step ticking = (n : ℕ) × IsStep step n × Ticks clock n ticking

-- the name of a command
abbrev pub command_name : Asked → Text
command_name (init folder schema) = codes "init"
command_name (once folder schema ticking is_batch) = codes "once"
command_name (serve port sessions folder schema is_batch) = codes "serve"

-- options that give this, where no other option is there
abbrev pub init_given : Text → Option Text → Given
init_given folder schema = record { dir = Some folder; schema = schema; clock = None; step = None; port = None; sessions = None; batch = false }

-- `once` with these options
pub record AsksOnce (given : Given) (folder schema : Option Text) (ticking : Option Ticking) (is_batch : Bool) : Type 0 where
  pub folder_is : given.dir ≡ folder
  pub schema_is : given.schema ≡ schema
  pub clock_is : IsClock given.clock given.step ticking
  pub no_port : given.port ≡ None
  pub no_sessions : given.sessions ≡ None
  pub batch_is : given.batch ≡ is_batch

-- `serve` with these options
pub record AsksServe (given : Given) (port sessions : ℕ) (folder schema : Option Text) (is_batch : Bool) : Type 0 where
  pub port_is : HasNumber 65535 given.port port
  pub sessions_are : HasNumber 1000000 given.sessions sessions
  pub folder_is : given.dir ≡ folder
  pub schema_is : given.schema ≡ schema
  pub no_clock : given.clock ≡ None
  pub no_step : given.step ≡ None
  pub batch_is : given.batch ≡ is_batch

-- what the options of a command ask for
abbrev pub Asks : Given → Asked → Type 0
Asks given (init folder schema) = given ≡ init_given folder schema
Asks given (once folder schema ticking is_batch) = AsksOnce given folder schema ticking is_batch
Asks given (serve port sessions folder schema is_batch) = AsksServe given port sessions folder schema is_batch

-- the arguments are a command's name and then its options, and ask for this
pub record IsAsked (arguments : List Text) (asked : Asked) : Type 0 where
  pub given : Given
  pub options : List Text
  pub written : arguments ≡ command_name asked ∷ options
  pub are : AreOptions options given
  pub asks : Asks given asked

-- what a command that was read asks for
abbrev pub shown : Command → Asked
shown (Init command) = init command.folder.now (option_map (λ s. s.now) command.schema)
shown (Once command) = once (option_map (λ s. s.now) command.folder) (option_map (λ s. s.now) command.schema) command.clock command.batch
shown (Serve command) = serve command.port command.sessions (option_map (λ s. s.now) command.folder) (option_map (λ s. s.now) command.schema) command.batch

-- this command was read, or memory ran out
abbrev pub IsReadAs : Asked → Result Command ArgumentsRefusal → Type 0
IsReadAs asked (Ok command) = shown command ≡ asked
IsReadAs asked (Err NoMemory) = Unit {0}
IsReadAs asked (Err _) = ⊥
