-- What holds at each moment of a call.
use Rattle.std.specs.Prelude.{◌≡◌, ◌⊎◌, ℕ, ℤ, List, [], ◌∷◌, ◌++◌, Option}
use Rattle.std.specs.List.{AllByRecursion}
use Rattle.outside_api.specs.Disk.{FileState, DiskView}
use Rattle.day_rows.specs.declared.entry.Entry.{Entry}
use Rattle.day_rows.specs.declared.schema.Shape.{Shape}
use Rattle.date_logs.specs.Restart.{IsImageOf, IsFoundOf, MayRestart}

-- at each moment since the old view the files are so
pub record Throughout (old new : DiskView) (P : (ℕ → FileState) → Type 0) : Type 0 where
  pub moments : List (ℕ → FileState)
  pub goes_on : new.past ++ new.now ∷ [] ≡ (old.past ++ old.now ∷ []) ++ moments
  pub each : AllByRecursion P moments

-- from each image of these files a plant restarts as these entries, or with the late one
abbrev pub RestartsAs : List Shape → ℤ → List Entry → Option Entry → (ℕ → FileState) → Type 0
RestartsAs schema first entries late files = (image : ℕ → List ℕ) → IsImageOf files image → MayRestart schema first image entries late

-- the same of all that a restart may find of them, after a crash or without one
abbrev pub RestartsFrom : List Shape → ℤ → List Entry → Option Entry → (ℕ → FileState) → Type 0
RestartsFrom schema first entries late files = (found : ℕ → List ℕ) → IsFoundOf files found → MayRestart schema first found entries late

-- the same of each image, where one of two entries may be late
abbrev pub RestartsEither : List Shape → ℤ → List Entry → Option Entry → Option Entry → (ℕ → FileState) → Type 0
RestartsEither schema first entries late other files =
    (image : ℕ → List ℕ) → IsImageOf files image → MayRestart schema first image entries late ⊎ MayRestart schema first image entries other
