-- What a seat at the lock's table knows, as passes and notes tell it.
use Rattle.std.specs.Prelude.{◌≡◌, ℕ, ◌≤◌, List, [], ◌∷◌, true, false, Option, None}
use Rattle.atomic_table.specs.Seated.{TableId}
use Rattle.atomic_table.specs.Table.{Me}
use Rattle.atomic_table.specs.declared.shared.Seat.{Seat}
use Rattle.plant_lock.specs.declared.view.View.{View}
use Rattle.plant_lock.specs.declared.view.Stage.TheVariants.{Idle, Holds}
use Rattle.plant_lock.specs.Told.{Told, Noted}

-- four words and a slot
abbrev pub IsSized : TableId → Type 0
IsSized z = (z.words ≡ 4) × (z.slots ≡ 1)

abbrev pub IsSameSeat : {S V : Type 0} → Seat S V → Seat S V → Type 0
IsSameSeat s t = (t.table_id ≡ s.table_id) × (t.id ≡ s.id)

module _ {E : Type 0} where
  -- the view of a pass that holds nothing
  abbrev pub resting : ℕ → ℕ → List E → List E → View E
  resting n latest seen mine = record { seen = seen; mine = mine; drawn = true; number = n; latest = latest; stage = Idle; before = []; told = [] }

  -- the view of a note
  abbrev pub noting : ℕ → List E → View E
  noting latest seen = record { seen = seen; mine = []; drawn = false; number = 0; latest = latest; stage = Idle; before = []; told = [] }

  -- the view of a pass that holds the state
  abbrev pub holding : ℕ → ℕ → List E → List E → View E
  holding n latest seen mine = record { seen = seen; mine = mine; drawn = true; number = n; latest = latest; stage = Holds; before = []; told = [] }

  abbrev pub told_of : TableId → ℕ → View E → Told E
  told_of z n v = record { lock = z; number = n; latest = v.latest; seen = v.seen; mine = v.mine }

  abbrev pub told_by : TableId → ℕ → List (View E) → Told E
  told_by z n [] = record { lock = z; number = n; latest = n; seen = []; mine = [] }
  told_by z n (v ∷ vs) = told_of z n v

  abbrev pub noted_by : TableId → List (View E) → Noted E
  noted_by z [] = record { lock = z; latest = 0; seen = [] }
  noted_by z (v ∷ vs) = record { lock = z; latest = v.latest; seen = v.seen }

  abbrev pub IsResting : ℕ → List (View E) → Type 0
  IsResting n views = (latest : ℕ) × (seen : List E) × (mine : List E) × (views ≡ resting n latest seen mine ∷ []) × (n ≤ latest)

  abbrev pub IsNoting : List (View E) → Type 0
  IsNoting views = (latest : ℕ) × (seen : List E) × (views ≡ noting latest seen ∷ [])

  abbrev pub IsHolding : {S : Type 0} → ℕ → Me (Option S) (View E) → Type 0
  IsHolding {S} n me = (latest : ℕ) × (seen : List E) × (mine : List E) × (me ≡ (holding n latest seen mine, (0, None) ∷ [])) × (n ≤ latest)
