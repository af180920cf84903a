-- The rule of the lock's table, and what each step tells.
-- Word 0 counts the tickets, word 1 is the ticket that is served, word 2 counts the entries, and word 3 is the next number.
use Rattle.std.specs.Prelude.{◌≡◌, ◌≢◌, ℕ, ◌<◌, ◌≤◌, max, Bool, true, false, List, [], ◌∷◌, ◌++◌, length, drop, All, Option, Some}
use mathlib.Core.Option.{none, some}
use mathlib.Core.Option as maybe
use mathlib.Core.List.{IsPrefix}
use lib.ListN.{get_elem?}
use Rattle.atomic_table.specs.Table.{State, Me, Step}
use Rattle.plant_lock.specs.declared.view.View.{View}
use Rattle.plant_lock.specs.declared.view.Stage.{Stage}
use Rattle.plant_lock.specs.declared.view.Stage.TheVariants.{Idle, Waits, Turns, Holds}
use Rattle.plant_lock.specs.Entries.{own, longer}
use Rattle.plant_lock.specs.Seated.{resting}

-- The one history, the words, which seat has each ticket and each number, and whether a seat has the slot
pub record Ledger (E : Type 0) : Type 0 where
  pub history : List E
  pub tickets : ℕ
  pub serving : ℕ
  pub next : ℕ
  pub owner : ℕ → ℕ
  pub drawer : ℕ → ℕ
  pub out : Bool

module _ {E : Type 0} (l : Ledger E) (id : ℕ) where
  -- each ticket is one seat's, and whose turn it is has seen the whole history
  abbrev pub Stands : List E → Stage → Type 0
  Stands seen Idle = Unit {0}
  Stands seen (Waits t) = (l.serving ≤ t) × (t < l.tickets) × (l.owner t ≡ id)
  Stands seen Turns = (l.serving < l.tickets) × (l.owner l.serving ≡ id) × (seen ≡ l.history)
  Stands seen Holds = (l.serving < l.tickets) × (l.owner l.serving ≡ id) × (seen ≡ l.history) × (l.out ≡ true)

-- a seat has seen a beginning of the history, each number is one seat's, and its entries are all that the history has of it
pub record Knows {E : Type 0} (by : E → ℕ) (l : Ledger E) (id : ℕ) (v : View E) : Type 0 where
  pub sees : IsPrefix v.seen l.history
  pub saw : IsPrefix v.before l.history
  pub heard : IsPrefix v.told l.history
  pub below : (v.number < l.next) × (v.latest < l.next)
  pub makes : v.drawn ≡ true → (l.drawer v.number ≡ id) × (own by v.number v.seen ≡ v.mine) × (own by v.number l.history ≡ v.mine)
  pub stands : Stands l id v.seen v.stage

module _ {S E F : Type 0} where
  -- the slot has a state of the whole history and of the lock's frame, or the seat whose turn it is holds the slot
  abbrev pub Home : (S → List E) → (S → F) → F → Ledger E → List (maybe.Option (Option S)) → List (View E) → Bool → Type 0
  Home entries frame f l homes views false = (x : S) × (homes ≡ some (Some x) ∷ []) × (entries x ≡ l.history) × (frame x ≡ f)
  Home entries frame f l homes views true = (homes ≡ none ∷ []) × ((v : View E) × (get_elem? views (l.owner l.serving) ≡ some v) × (v.stage ≡ Holds))

-- there is one history, of which each seat knows a beginning, and which has no entry of a number that isn't drawn
pub record Kept {S E F : Type 0} (entries : S → List E) (by : E → ℕ) (frame : S → F) (f : F) (s : State (Option S) (View E)) : Type 0 where
  pub ledger : Ledger E
  pub words_are : s.words ≡ ledger.tickets ∷ ledger.serving ∷ length ledger.history ∷ ledger.next ∷ []
  pub in_order : (ledger.serving ≤ ledger.tickets) × (ledger.tickets < 18446744073709551616)
  pub positive : 0 < ledger.next
  pub home : Home entries frame f ledger s.homes s.views ledger.out
  pub seats : (id : ℕ) (v : View E) → get_elem? s.views id ≡ some v → Knows by ledger id v
  pub undrawn : All (λ e. by e < ledger.next) ledger.history

module _ {E : Type 0} where
  -- the first pass has seen the whole state, and made nothing
  abbrev pub starting : ℕ → List E → View E
  starting n seen = resting n n seen []

  -- a seat that has seen as much, with no number or ticket
  abbrev pub daughter : View E → View E
  daughter v = record v { mine = []; drawn = false; number = 0; stage = Idle; before = []; told = [] }

  abbrev pub joined : View E → View E → View E
  joined v w = record v { seen = longer v.seen w.seen; latest = max v.latest w.latest; before = v.seen; told = w.seen }

  abbrev pub spent : View E
  spent = record { seen = []; mine = []; drawn = false; number = 0; latest = 0; stage = Idle; before = []; told = [] }

  -- its turn has come, and it sees the whole history, which has exactly those entries of its own number that it made
  abbrev pub turned : (E → ℕ) → View E → View E → Type 0
  turned by v w = (all : List E) × (w ≡ record v { seen = all; stage = Turns }) × IsPrefix v.seen all × (v.drawn ≡ true → own by v.number all ≡ v.mine)

-- a seat with its slot
abbrev Sat : Type 0 → Type 0 → Type 0
Sat S E = Me (Option S) (View E)

abbrev At : Type 0 → Type 0
At S = Step (Option S)

module _ {S E : Type 0} where
  -- a ticket was drawn, or another seat drew it
  abbrev pub ticketed : At S → Sat S E → ℕ → Sat S E → Type 0
  ticketed st m found m' = (found ≡ st.first → m' ≡ (record m.0 { stage = Waits st.first }, m.1)) × (found ≢ st.first → m' ≡ m)

  -- its turn has come where the ticket that is served is its own
  abbrev pub looked : (E → ℕ) → At S → Sat S E → ℕ → Sat S E → Type 0
  looked by st m found m' = (m'.1 ≡ m.1) × ((t : ℕ) → m.0.stage ≡ Waits t → (found ≡ t → turned by m.0 m'.0) × (found ≢ t → m' ≡ m))

  -- it holds the slot, whose state has the history that it sees, and the frame, where one is named
  abbrev pub took : {F : Type 0} → (S → List E) → (S → F) → Option F → At S → Sat S E → ℕ → Sat S E → Type 0
  took entries frame f st m found m' = (x : S) × (m' ≡ (record m.0 { stage = Holds }, (0, Some x) ∷ m.1)) × (entries x ≡ m.0.seen) × (f ≡ Some (frame x))

  -- it sees the entries of the state in its hands, and those that were added are its own
  abbrev pub counted : (S → List E) → (E → ℕ) → At S → Sat S E → ℕ → Sat S E → Type 0
  counted entries by st m found m' =
      (x : S) → m.1 ≡ (0, Some x) ∷ []
      → (m' ≡ (record m.0 { seen = entries x; mine = m.0.mine ++ drop (length m.0.seen) (entries x) }, m.1))
      × (own by m.0.number (entries x) ≡ m.0.mine ++ drop (length m.0.seen) (entries x))

  -- the slot is at home, and the next ticket is served
  abbrev pub served : At S → Sat S E → ℕ → Sat S E → Type 0
  served st m found m' = m' ≡ (record m.0 { stage = Idle }, [])

  -- a number was drawn, which is above those that were known, and no entry has it or a greater one; or another seat drew it
  abbrev pub numbered : (E → ℕ) → At S → Sat S E → ℕ → Sat S E → Type 0
  numbered by st m found m' =
      (found ≡ st.first →
      (m' ≡ (record m.0 { drawn = true; number = st.first; latest = st.first }, m.1)) × (m.0.latest < st.first)
      × All (λ e. by e < st.first) m.0.seen)
      × (found ≢ st.first → m' ≡ m)

  -- both former lists are beginnings of what is seen
  abbrev pub settled : (E → ℕ) → At S → Sat S E → ℕ → Sat S E → Type 0
  settled by st m found m' =
      (m' ≡ (record m.0 { before = []; told = [] }, m.1)) × IsPrefix m.0.before m.0.seen × IsPrefix m.0.told m.0.seen
      × (m.0.drawn ≡ true → own by m.0.number m.0.seen ≡ m.0.mine)
