-- Reading the arguments gives the options of their settings.
use Rattle.std.proofs.Common.{◌≡◌, Bool, true, false, List, [], ◌∷◌, ◌++◌, Option, Some, None, is_some, if◌then◌else◌, codes, refl, sym, ap, ◌∙◌, ◌⊎◌, inl, inr, append-nil, ap₂, subst}
use Rattle.std.specs.List.{AllByRecursion}
use Rattle.std.specs.Option.{option_to_list}
use Rattle.std.specs.Str.{bytes_eq}
use Rattle.std.specs.Cmp.Lexicographic.{same_text}
use Rattle.plant_words.specs.Asked.{set_dir, set_schema, set_clock, set_step, set_port, set_sessions, set_batch}
use Rattle.plant_words.specs.Asked.{Text, Setting, arguments_of_setting, arguments_of, begins_with_hyphen, HasPlainValue, Given, flags, Gives, AreOptions}
use Rattle.plant_words.specs.Reading.{State, nothing_given, valued_named, value_in, with_value, waiting_for, named, read_from}
use Rattle.plant_words.specs.declared.options.Valued.{Valued}
use Rattle.plant_words.specs.declared.options.Valued.TheVariants.{Dir, Schema, Clock, Step, Port, Sessions}
use Rattle.plant_words.proofs.SettingLemmas.{Completes, read-settings}

-- ---- what is read was settings

abbrev setting_of : Valued → Text → Setting
setting_of Dir value = set_dir value
setting_of Schema value = set_schema value
setting_of Clock value = set_clock value
setting_of Step value = set_step value
setting_of Port value = set_port value
setting_of Sessions value = set_sessions value

abbrev text_of : Valued → Text
text_of Dir = codes "--dir"
text_of Schema = codes "--schema"
text_of Clock = codes "--clock"
text_of Step = codes "--step"
text_of Port = codes "--port"
text_of Sessions = codes "--sessions"

written_as : (name : Valued) (value : Text) → arguments_of_setting (setting_of name value) ≡ text_of name ∷ value ∷ []
written_as Dir value = refl
written_as Schema value = refl
written_as Clock value = refl
written_as Step value = refl
written_as Port value = refl
written_as Sessions value = refl

plain_value : (name : Valued) (value : Text) → begins_with_hyphen value ≡ false → HasPlainValue (setting_of name value)
plain_value Dir value plain = plain
plain_value Schema value plain = plain
plain_value Clock value plain = plain
plain_value Step value plain = plain
plain_value Port value plain = plain
plain_value Sessions value plain = plain

completes-valued : (name : Valued) (value : Text) (from to : Given) (rest : List Setting) → value_in from name ≡ None → Completes (with_value from name value) rest to → Completes from (setting_of name value ∷ rest) to
completes-valued Dir value from to rest none whole =
    record {
      dirs = rw none whole.dirs;
      schemas = whole.schemas;
      clocks = whole.clocks;
      steps = whole.steps;
      ports = whole.ports;
      counts = whole.counts;
      batches = whole.batches;
    }
completes-valued Schema value from to rest none whole =
    record {
      dirs = whole.dirs;
      schemas = rw none whole.schemas;
      clocks = whole.clocks;
      steps = whole.steps;
      ports = whole.ports;
      counts = whole.counts;
      batches = whole.batches;
    }
completes-valued Clock value from to rest none whole =
    record {
      dirs = whole.dirs;
      schemas = whole.schemas;
      clocks = rw none whole.clocks;
      steps = whole.steps;
      ports = whole.ports;
      counts = whole.counts;
      batches = whole.batches;
    }
completes-valued Step value from to rest none whole =
    record {
      dirs = whole.dirs;
      schemas = whole.schemas;
      clocks = whole.clocks;
      steps = rw none whole.steps;
      ports = whole.ports;
      counts = whole.counts;
      batches = whole.batches;
    }
completes-valued Port value from to rest none whole =
    record {
      dirs = whole.dirs;
      schemas = whole.schemas;
      clocks = whole.clocks;
      steps = whole.steps;
      ports = rw none whole.ports;
      counts = whole.counts;
      batches = whole.batches;
    }
completes-valued Sessions value from to rest none whole =
    record {
      dirs = whole.dirs;
      schemas = whole.schemas;
      clocks = whole.clocks;
      steps = whole.steps;
      ports = whole.ports;
      counts = rw none whole.counts;
      batches = whole.batches;
    }

completes-nothing : (given : Given) → Completes given [] given
completes-nothing given =
    record {
      dirs = append-nil (option_to_list given.dir);
      schemas = append-nil (option_to_list given.schema);
      clocks = append-nil (option_to_list given.clock);
      steps = append-nil (option_to_list given.step);
      ports = append-nil (option_to_list given.port);
      counts = append-nil (option_to_list given.sessions);
      batches = append-nil (flags given.batch);
    }

-- what arguments give that were read from here on, where an option may wait for its value
record Names (from : Given) (arguments : List Text) (to : Given) : Type 0 where
  settings : List Setting
  written : arguments ≡ arguments_of settings
  plain : AllByRecursion HasPlainValue settings
  whole : Completes from settings to

record Values (name : Valued) (from : Given) (arguments : List Text) (to : Given) : Type 0 where
  value : Text
  after : List Text
  written : arguments ≡ value ∷ after
  plain : begins_with_hyphen value ≡ false
  rest : Names (with_value from name value) after to

abbrev Reads : Given → Option Valued → List Text → Given → Type 0
Reads from None arguments to = Names from arguments to
Reads from (Some name) arguments to = (value_in from name ≡ None) → Values name from arguments to

-- a name that is known, of an option that has no value
record IsName (from : Given) (argument : Text) (state : State) : Type 0 where
  name : Valued
  written : argument ≡ text_of name
  none : value_in from name ≡ None
  is : state ≡ record { given = from; waiting = Some name }

record IsFlag (from : Given) (argument : Text) (state : State) : Type 0 where
  written : argument ≡ codes "--batch"
  none : from.batch ≡ false
  is : state ≡ record { given = record from { batch = true }; waiting = None }

absent : (o : Option Text) → is_some o ≡ false → o ≡ None
absent None e = refl
absent (Some x) e = absurd (cc)

read-none : (arguments : List Text) (to : Given) → read_from None arguments ≡ Some to → ⊥
read-none arguments to e = cc

named_by : (argument : Text) (name : Valued) (b1 b2 b3 b4 b5 b6 : Bool)
    → bytes_eq argument (codes "--dir") ≡ b1 → bytes_eq argument (codes "--schema") ≡ b2 → bytes_eq argument (codes "--clock") ≡ b3
    → bytes_eq argument (codes "--step") ≡ b4 → bytes_eq argument (codes "--port") ≡ b5 → bytes_eq argument (codes "--sessions") ≡ b6
    → (if b1 then Some Dir else if b2 then Some Schema else if b3 then Some Clock
    else if b4 then Some Step else if b5 then Some Port else if b6 then Some Sessions else None) ≡ Some name → argument ≡ text_of name
named_by argument name true b2 b3 b4 b5 b6 e1 e2 e3 e4 e5 e6 h =
    let is : Dir ≡ name = cc in subst (λ n. argument ≡ text_of n) is (same_text argument (codes "--dir") (sym e1))
named_by argument name false true b3 b4 b5 b6 e1 e2 e3 e4 e5 e6 h =
    let is : Schema ≡ name = cc in subst (λ n. argument ≡ text_of n) is (same_text argument (codes "--schema") (sym e2))
named_by argument name false false true b4 b5 b6 e1 e2 e3 e4 e5 e6 h =
    let is : Clock ≡ name = cc in subst (λ n. argument ≡ text_of n) is (same_text argument (codes "--clock") (sym e3))
named_by argument name false false false true b5 b6 e1 e2 e3 e4 e5 e6 h =
    let is : Step ≡ name = cc in subst (λ n. argument ≡ text_of n) is (same_text argument (codes "--step") (sym e4))
named_by argument name false false false false true b6 e1 e2 e3 e4 e5 e6 h =
    let is : Port ≡ name = cc in subst (λ n. argument ≡ text_of n) is (same_text argument (codes "--port") (sym e5))
named_by argument name false false false false false true e1 e2 e3 e4 e5 e6 h =
    let is : Sessions ≡ name = cc in subst (λ n. argument ≡ text_of n) is (same_text argument (codes "--sessions") (sym e6))
named_by argument name false false false false false false e1 e2 e3 e4 e5 e6 h = absurd (cc)

text-named : (argument : Text) (name : Valued) → valued_named argument ≡ Some name → argument ≡ text_of name
text-named argument name e = named_by argument name _ _ _ _ _ _ refl refl refl refl refl refl e

flag_by : (from : Given) (argument : Text) (state : State) (f : Bool) → bytes_eq argument (codes "--batch") ≡ true → from.batch ≡ f
    → (if f then None else Some (record { given = record from { batch = true }; waiting = None })) ≡ Some state → IsFlag from argument state
flag_by from argument state true e none h = absurd (cc)
flag_by from argument state false e none h = record { written = same_text argument (codes "--batch") (sym e); none = none; is = cc }

name_by : (from : Given) (argument : Text) (name : Valued) (state : State) (f : Bool) → valued_named argument ≡ Some name → is_some (value_in from name) ≡ f
    → (if f then None else Some (record { given = from; waiting = Some name })) ≡ Some state → IsName from argument state
name_by from argument name state true e none h = absurd (cc)
name_by from argument name state false e none h = record { name = name; written = text-named argument name e; none = absent (value_in from name) none; is = cc }

argument_by : (from : Given) (argument : Text) (state : State) (b : Bool) (o : Option Valued) → bytes_eq argument (codes "--batch") ≡ b → valued_named argument ≡ o
    → (if b then (if from.batch then None else Some (record { given = record from { batch = true }; waiting = None })) else waiting_for from o) ≡ Some state
    → IsFlag from argument state ⊎ IsName from argument state
argument_by from argument state true o e is h = inl (flag_by from argument state from.batch e refl h)
argument_by from argument state false None e is h = absurd (cc)
argument_by from argument state false (Some name) e is h = inr (name_by from argument name state (is_some (value_in from name)) is refl h)

abbrev ReadsAll : List Text → Type 0
ReadsAll arguments = (from : Given) (waiting : Option Valued) (to : Given) → read_from (Some (record { given = from; waiting = waiting })) arguments ≡ Some to → Reads from waiting arguments to

after_name : (argument : Text) (arguments : List Text) (from to : Given) → ReadsAll arguments → (o : Option State) → named from argument ≡ o → read_from o arguments ≡ Some to → Names from (argument ∷ arguments) to
after_name argument arguments from to ih None is e = absurd (cc)
after_name argument arguments from to ih (Some state) is e =
    elim (argument_by from argument state (bytes_eq argument (codes "--batch")) (valued_named argument) refl refl is) [
      | inl flag ↦
          let rest = ih (record from { batch = true }) None to (ap (λ s. read_from (Some s) arguments) (sym flag.is) ∙ e) in
          record {
            settings = set_batch ∷ rest.settings;
            written = ap₂ (λ x xs. x ∷ xs) flag.written rest.written;
            plain = (tt, rest.plain);
            whole = record {
              dirs = rest.whole.dirs;
              schemas = rest.whole.schemas;
              clocks = rest.whole.clocks;
              steps = rest.whole.steps;
              ports = rest.whole.ports;
              counts = rest.whole.counts;
              batches = rw flag.none rest.whole.batches;
            };
          }
      | inr known ↦
          let found = ih from (Some known.name) to (ap (λ s. read_from (Some s) arguments) (sym known.is) ∙ e) known.none in
          record {
            settings = setting_of known.name found.value ∷ found.rest.settings;
            written = ap₂ (λ x xs. x ∷ xs) known.written (found.written ∙ ap (λ xs. found.value ∷ xs) found.rest.written) ∙ ap (λ xs. xs ++ arguments_of found.rest.settings) (sym (written_as known.name found.value));
            plain = (plain_value known.name found.value found.plain, found.rest.plain);
            whole = completes-valued known.name found.value from to found.rest.settings known.none found.rest.whole;
          }
    ]

after_value : (name : Valued) (argument : Text) (arguments : List Text) (from to : Given) → ReadsAll arguments → (b : Bool) → begins_with_hyphen argument ≡ b
    → read_from (if b then None else Some (record { given = with_value from name argument; waiting = None })) arguments ≡ Some to → Values name from (argument ∷ arguments) to
after_value name argument arguments from to ih true plain e = absurd (cc)
after_value name argument arguments from to ih false plain e =
    record { value = argument; after = arguments; written = refl; plain = plain; rest = ih (with_value from name argument) None to e }

reads : (arguments : List Text) → ReadsAll arguments
reads [] from None to e =
    let same : from ≡ to = cc in
    record { settings = []; written = refl; plain = tt; whole = subst (λ g. Completes from [] g) same (completes-nothing from) }
reads [] from (Some name) to e = λ none. absurd (cc)
reads (argument ∷ arguments) from None to e = after_name argument arguments from to (reads arguments) (named from argument) refl e
reads (argument ∷ arguments) from (Some name) to e = λ none. after_value name argument arguments from to (reads arguments) (begins_with_hyphen argument) refl e

-- ---- the two directions

gives-completes : (settings : List Setting) (to : Given) → Gives settings to → Completes nothing_given settings to
gives-completes settings to gives =
    record {
      dirs = gives.dir;
      schemas = gives.schema;
      clocks = gives.clock;
      steps = gives.step;
      ports = gives.port;
      counts = gives.sessions;
      batches = gives.batch;
    }

completes-gives : (settings : List Setting) (to : Given) → Completes nothing_given settings to → Gives settings to
completes-gives settings to whole =
    record {
      dir = whole.dirs;
      schema = whole.schemas;
      clock = whole.clocks;
      step = whole.steps;
      port = whole.ports;
      sessions = whole.counts;
      batch = whole.batches;
    }

pub read-options : (arguments : List Text) (given : Given) → AreOptions arguments given → read_from (Some (record { given = nothing_given; waiting = None })) arguments ≡ Some given
read-options arguments given are =
    ap (λ ws. read_from (Some (record { given = nothing_given; waiting = None })) ws) are.written
    ∙ read-settings are.settings nothing_given given are.plain (gives-completes are.settings given are.values)

pub options-read : (arguments : List Text) (given : Given) → read_from (Some (record { given = nothing_given; waiting = None })) arguments ≡ Some given → AreOptions arguments given
options-read arguments given e =
    let found = reads arguments nothing_given None given e in
    record { settings = found.settings; written = found.written; plain = found.plain; values = completes-gives found.settings given found.whole }
