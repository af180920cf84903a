-- What arguments ask for, part by part.
use Rattle.std.proofs.Common.{◌≡◌, ◌↔◌, ℕ, Bool, true, false, List, [], ◌∷◌, Option, Some, None, Err, codes, refl, sym, ap, ◌∙◌, subst, arith}
use Rattle.std.specs.Str.{bytes_eq}
use Rattle.plant_words.specs.Asked.{Text, Given, AreOptions, Asked, init, once, serve, command_name, Asks, AsksServe, IsAsked, IsClock, shown}
use Rattle.plant_words.specs.Reading.{IsReadBy}
use Rattle.plant_words.specs.declared.command.Command.{Command}
use Rattle.plant_words.specs.declared.command.Ticking.{Ticking}
use Rattle.plant_words.specs.declared.command.Unread.{Unread}
use Rattle.plant_words.specs.declared.command.Unread.TheVariants.{Faulty, NoMemory}

same_refusal : {A R B S : Type 0} (f : R → A) (a : A) (g : S → B) (b : B) (e : Unread) → IsReadBy f a (Err e) → IsReadBy g b (Err e)
same_refusal f a g b NoMemory h = tt
same_refusal f a g b Faulty h = h

-- a clock that isn't read is one that `once` doesn't have
pub once-refused : (given : Given) (asked : Asked) (e : Unread) → ((t : Option Ticking) → IsClock given.clock given.step t → IsReadBy (λ r. r) t (Err e))
    → command_name asked ≡ codes "once" → Asks given asked → IsReadBy shown asked (Err e)
once-refused given (init folder schema) e refused name asks = let bad : true ≡ false = ap (λ t. bytes_eq t (codes "init")) name in absurd (cc)
once-refused given (serve port sessions folder schema is_batch) e refused name asks =
    let bad : true ≡ false = ap (λ t. bytes_eq t (codes "serve")) name in absurd (cc)
once-refused given (once folder schema ticking is_batch) e refused name asks =
    same_refusal (λ r. r) ticking shown (once folder schema ticking is_batch) e (refused ticking asks.clock_is)

-- what `once` and `serve` have none of
pub once-asks : (given : Given) (asked : Asked) → command_name asked ≡ codes "once" → Asks given asked → (given.port ≡ None) × (given.sessions ≡ None)
once-asks given (init folder schema) name asks = let bad : true ≡ false = ap (λ t. bytes_eq t (codes "init")) name in absurd (cc)
once-asks given (serve port sessions folder schema is_batch) name asks = let bad : true ≡ false = ap (λ t. bytes_eq t (codes "serve")) name in absurd (cc)
once-asks given (once folder schema ticking is_batch) name asks = (asks.no_port, asks.no_sessions)

-- `serve` with these options, whatever else they are
pub record IsServe (given : Given) (asked : Asked) : Type 0 where
  pub port : ℕ
  pub sessions : ℕ
  pub folder : Option Text
  pub schema : Option Text
  pub is_batch : Bool
  pub is : asked ≡ serve port sessions folder schema is_batch
  pub asks : AsksServe given port sessions folder schema is_batch

pub serve-asks : (given : Given) (asked : Asked) → command_name asked ≡ codes "serve" → Asks given asked → IsServe given asked
serve-asks given (init folder schema) name asks = let bad : true ≡ false = ap (λ t. bytes_eq t (codes "init")) name in absurd (cc)
serve-asks given (once folder schema ticking is_batch) name asks = let bad : true ≡ false = ap (λ t. bytes_eq t (codes "once")) name in absurd (cc)
serve-asks given (serve port sessions folder schema is_batch) name asks =
    record { port = port; sessions = sessions; folder = folder; schema = schema; is_batch = is_batch; is = refl; asks = asks }

-- what arguments ask for, where the options after the name are these or none
pub record HasParts (name : Text) (o : Option Given) (asked : Asked) : Type 0 where
  pub given : Given
  pub are : o ≡ Some given
  pub named : command_name asked ≡ name
  pub asks : Asks given asked

pub asked-parts : (name : Text) (rest : List Text) (o : Option Given) (asked : Asked) → ((given : Given) → (o ≡ Some given) ↔ AreOptions rest given) → IsAsked (name ∷ rest) asked → HasParts name o asked
asked-parts name rest o asked options is =
    let same_rest : is.options ≡ rest = cc (is.written) in
    let same_name : command_name asked ≡ name = cc (is.written) in
    record { given = is.given; are = (options is.given).1 (subst (λ ws. AreOptions ws is.given) same_rest is.are); named = same_name; asks = is.asks }

pub parts-asked : (name : Text) (rest : List Text) (given : Given) (asked : Asked) → AreOptions rest given → command_name asked ≡ name → Asks given asked → IsAsked (name ∷ rest) asked
parts-asked name rest given asked are named asks =
    record { given = given; options = rest; written = ap (λ n. n ∷ rest) (sym named); are = are; asks = asks }

-- `serve` with these numbers is what the options ask for
pub same-serve : (given : Given) (asked : Asked) (is : IsServe given asked) (port sessions : ℕ) → port ≡ is.port → sessions ≡ is.sessions
    → serve port sessions given.dir given.schema given.batch ≡ asked
same-serve given asked is port sessions same_port same_sessions =
    (λ i. serve (same_port i) (same_sessions i) (is.asks.folder_is i) (is.asks.schema_is i) (is.asks.batch_is i)) ∙ sym is.is
