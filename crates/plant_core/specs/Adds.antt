-- What a prepared update adds to a plant's chronicle.
use Rattle.std.specs.Prelude.{◌≡◌, ◌+◌, ℕ, List, [], ◌∷◌, ◌++◌, length, Option, Some, None}
use Rattle.day_rows.specs.declared.entry.Entry.{Entry}
use Rattle.day_rows.specs.declared.entry.Entry.TheVariants as e
use Rattle.plant_memory.specs.Memory.{MemoryView, PreparedView, due}
use Rattle.plant_core.specs.declared.commits.Logging.{Logging}
use Rattle.plant_core.specs.declared.commits.Logging.TheVariants as l

-- the index of the roll, if the entries, the first of which has the index `place`, begin with one
abbrev pub roll_place : ℕ → List Entry → Option ℕ
roll_place place [] = None
roll_place place (e.Upd by table columns ∷ entries) = None
roll_place place (e.Roll by date ∷ entries) = Some place
roll_place place (e.Fault by ∷ entries) = None

-- entries were added; a roll, if they begin with one, has the index `rolled`, and the last of them the index `place`
pub record Adds (old new : MemoryView) (entries : List Entry) (rolled : Option ℕ) (place : ℕ) : Type 0 where
  pub frame : new.frame ≡ old.frame
  pub whole : new.entries ≡ old.entries ++ entries
  pub rolled_is : rolled ≡ roll_place (length old.entries) entries
  pub last : place + 1 ≡ length (old.entries ++ entries)

-- entries were to be added, and the disk failed at one of them: those before it were added, and then a fault; a roll, if it was
-- added, has the index `rolled`, and the fault the index `place`
pub record Faults (old new : MemoryView) (by : ℕ) (entries : List Entry) (rolled : Option ℕ) (place : ℕ) : Type 0 where
  pub before : List Entry
  pub failed : Entry
  pub rest : List Entry
  pub split : entries ≡ before ++ failed ∷ rest
  pub frame : new.frame ≡ old.frame
  pub whole : new.entries ≡ old.entries ++ before ++ e.Fault by ∷ []
  pub rolled_is : rolled ≡ roll_place (length old.entries) before
  pub last : place ≡ length (old.entries ++ before)

-- the entries of a prepared update: the roll that is due before it, and the update
abbrev pub additions : PreparedView → List Entry
additions update = due update ++ update.entry ∷ []

-- what became of a prepared update
abbrev pub Ends : MemoryView → MemoryView → PreparedView → Logging → Type 0
Ends old new update (l.Logged rolled place) = Adds old new (additions update) rolled place
Ends old new update (l.Failed rolled place) = Faults old new update.by (additions update) rolled place
Ends old new update l.NoMemory = new ≡ record old { spare = new.spare }
