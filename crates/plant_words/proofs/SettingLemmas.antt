-- Settings that are read give the options that they set.
use Rattle.std.proofs.Common.{◌≡◌, Bool, true, false, List, [], ◌∷◌, ◌++◌, Option, Some, None, codes, refl, ap, ◌∙◌, filter_map}
use Rattle.std.specs.List.{AllByRecursion}
use Rattle.std.specs.Option.{option_to_list}
use Rattle.plant_words.specs.Asked.{set_dir, set_schema, set_clock, set_step, set_port, set_sessions, set_batch}
use Rattle.plant_words.specs.Asked.{Text, Setting, arguments_of, begins_with_hyphen, HasPlainValue, Given, dir_of, schema_of, clock_of, step_of, port_of, sessions_of, batch_of, flags}
use Rattle.plant_words.specs.Reading.{with_value, named, taken_by, read_from}
use Rattle.plant_words.specs.declared.options.Valued.{Valued}
use Rattle.plant_words.specs.declared.options.Valued.TheVariants.{Dir, Schema, Clock, Step, Port, Sessions}

-- the settings give what is missing of the options
pub record Completes (from : Given) (settings : List Setting) (to : Given) : Type 0 where
  pub dirs : option_to_list from.dir ++ filter_map dir_of settings ≡ option_to_list to.dir
  pub schemas : option_to_list from.schema ++ filter_map schema_of settings ≡ option_to_list to.schema
  pub clocks : option_to_list from.clock ++ filter_map clock_of settings ≡ option_to_list to.clock
  pub steps : option_to_list from.step ++ filter_map step_of settings ≡ option_to_list to.step
  pub ports : option_to_list from.port ++ filter_map port_of settings ≡ option_to_list to.port
  pub counts : option_to_list from.sessions ++ filter_map sessions_of settings ≡ option_to_list to.sessions
  pub batches : flags from.batch ++ filter_map batch_of settings ≡ flags to.batch

-- ---- lists of at most one

same_option : (a b : Option Text) → option_to_list a ++ [] ≡ option_to_list b → a ≡ b
same_option None None e = refl
same_option None (Some y) e = absurd (cc)
same_option (Some x) None e = absurd (cc)
same_option (Some x) (Some y) e = cc

same_flag : (a b : Bool) → flags a ++ [] ≡ flags b → a ≡ b
same_flag true true e = refl
same_flag true false e = absurd (cc)
same_flag false true e = absurd (cc)
same_flag false false e = refl

no_option : (a b : Option Text) (x : Text) (rest : List Text) → option_to_list a ++ x ∷ rest ≡ option_to_list b → a ≡ None
no_option None b x rest e = refl
no_option (Some y) None x rest e = absurd (cc)
no_option (Some y) (Some z) x rest e = absurd (cc)

no_flag : (a b : Bool) (rest : List Bool) → flags a ++ true ∷ rest ≡ flags b → a ≡ false
no_flag false b rest e = refl
no_flag true true rest e = absurd (cc)
no_flag true false rest e = absurd (cc)

-- ---- settings are read

same_given : (a b : Given) → Completes a [] b → a ≡ b
same_given a b whole =
    let dirs = same_option a.dir b.dir whole.dirs in
    let schemas = same_option a.schema b.schema whole.schemas in
    let clocks = same_option a.clock b.clock whole.clocks in
    let steps = same_option a.step b.step whole.steps in
    let ports = same_option a.port b.port whole.ports in
    let counts = same_option a.sessions b.sessions whole.counts in
    let batches = same_flag a.batch b.batch whole.batches in
    λ i. record { dir = dirs i; schema = schemas i; clock = clocks i; step = steps i; port = ports i; sessions = counts i; batch = batches i }

-- a name and a value, of an option that has none yet
read-valued : (from : Given) (name : Valued) (argument value : Text) (rest : List Text) → named from argument ≡ Some (record { given = from; waiting = Some name }) → begins_with_hyphen value ≡ false
    → read_from (Some (record { given = from; waiting = None })) (argument ∷ value ∷ rest) ≡ read_from (Some (record { given = with_value from name value; waiting = None })) rest
read-valued from name argument value rest is_named plain =
    let valued : taken_by from (Some name) value ≡ Some (record { given = with_value from name value; waiting = None }) = rw plain refl in
    ap (λ state. read_from state (value ∷ rest)) is_named ∙ ap (λ state. read_from state rest) valued

pub read-settings : (settings : List Setting) (from to : Given) → AllByRecursion HasPlainValue settings → Completes from settings to
    → read_from (Some (record { given = from; waiting = None })) (arguments_of settings) ≡ Some to
read-settings [] from to plain whole = ap Some (same_given from to whole)
read-settings (set_dir value ∷ rest) from to plain whole =
    let none : from.dir ≡ None = no_option from.dir to.dir value (filter_map dir_of rest) whole.dirs in
    read-valued from Dir (codes "--dir") value (arguments_of rest) (rw none refl) plain.0
    ∙ read-settings rest (with_value from Dir value) to plain.1 (record {
      dirs = rw none at whole.dirs;
      schemas = whole.schemas;
      clocks = whole.clocks;
      steps = whole.steps;
      ports = whole.ports;
      counts = whole.counts;
      batches = whole.batches;
    })
read-settings (set_schema value ∷ rest) from to plain whole =
    let none : from.schema ≡ None = no_option from.schema to.schema value (filter_map schema_of rest) whole.schemas in
    read-valued from Schema (codes "--schema") value (arguments_of rest) (rw none refl) plain.0
    ∙ read-settings rest (with_value from Schema value) to plain.1 (record {
      dirs = whole.dirs;
      schemas = rw none at whole.schemas;
      clocks = whole.clocks;
      steps = whole.steps;
      ports = whole.ports;
      counts = whole.counts;
      batches = whole.batches;
    })
read-settings (set_clock value ∷ rest) from to plain whole =
    let none : from.clock ≡ None = no_option from.clock to.clock value (filter_map clock_of rest) whole.clocks in
    read-valued from Clock (codes "--clock") value (arguments_of rest) (rw none refl) plain.0
    ∙ read-settings rest (with_value from Clock value) to plain.1 (record {
      dirs = whole.dirs;
      schemas = whole.schemas;
      clocks = rw none at whole.clocks;
      steps = whole.steps;
      ports = whole.ports;
      counts = whole.counts;
      batches = whole.batches;
    })
read-settings (set_step value ∷ rest) from to plain whole =
    let none : from.step ≡ None = no_option from.step to.step value (filter_map step_of rest) whole.steps in
    read-valued from Step (codes "--step") value (arguments_of rest) (rw none refl) plain.0
    ∙ read-settings rest (with_value from Step value) to plain.1 (record {
      dirs = whole.dirs;
      schemas = whole.schemas;
      clocks = whole.clocks;
      steps = rw none at whole.steps;
      ports = whole.ports;
      counts = whole.counts;
      batches = whole.batches;
    })
read-settings (set_port value ∷ rest) from to plain whole =
    let none : from.port ≡ None = no_option from.port to.port value (filter_map port_of rest) whole.ports in
    read-valued from Port (codes "--port") value (arguments_of rest) (rw none refl) plain.0
    ∙ read-settings rest (with_value from Port value) to plain.1 (record {
      dirs = whole.dirs;
      schemas = whole.schemas;
      clocks = whole.clocks;
      steps = whole.steps;
      ports = rw none at whole.ports;
      counts = whole.counts;
      batches = whole.batches;
    })
read-settings (set_sessions value ∷ rest) from to plain whole =
    let none : from.sessions ≡ None = no_option from.sessions to.sessions value (filter_map sessions_of rest) whole.counts in
    read-valued from Sessions (codes "--sessions") value (arguments_of rest) (rw none refl) plain.0
    ∙ read-settings rest (with_value from Sessions value) to plain.1 (record {
      dirs = whole.dirs;
      schemas = whole.schemas;
      clocks = whole.clocks;
      steps = whole.steps;
      ports = whole.ports;
      counts = rw none at whole.counts;
      batches = whole.batches;
    })
read-settings (set_batch ∷ rest) from to plain whole =
    let none : from.batch ≡ false = no_flag from.batch to.batch (filter_map batch_of rest) whole.batches in
    rw none (read-settings rest (record from { batch = true }) to plain.1 (record {
      dirs = whole.dirs;
      schemas = whole.schemas;
      clocks = whole.clocks;
      steps = whole.steps;
      ports = whole.ports;
      counts = whole.counts;
      batches = rw none at whole.batches;
    }))
