-- What the two halves of an append leave, each a write and a sync.
use Rattle.std.specs.Prelude.{◌≡◌, ◌≢◌, ◌≤◌, ℕ, IsTrue, List, ◌∷◌, ◌++◌, length}
use Rattle.outside_api.specs.Disk.{DiskView, Passes}
use Rattle.gated_journal.specs.Format.{open_gate}
use Rattle.gated_journal.specs.Journal.{IsShut, IsAjar}

-- a prefix, and after it a gate that isn't open
pub record HasShut (front image : List ℕ) : Type 0 where
  pub gate : ℕ
  pub rest : List ℕ
  pub shut : gate ≢ open_gate
  pub split : image ≡ front ++ gate ∷ rest

-- a prefix, any gate, and this after it
pub record HasAny (front following image : List ℕ) : Type 0 where
  pub gate : ℕ
  pub rest : List ℕ
  pub split : image ≡ front ++ gate ∷ (following ++ rest)

-- the last gate was shut, and is at each moment since
pub record StaysShut (old new : DiskView) (file end : ℕ) (front : List ℕ) : Type 0 where
  pub passes : Passes old new file (HasShut front)
  pub stands : IsShut (new.now file) front end

-- what followed the last gate follows it at each moment since
pub record StaysAjar (old new : DiskView) (file end : ℕ) (front following : List ℕ) : Type 0 where
  pub passes : Passes old new file (HasAny front following)
  pub stands : IsAjar (new.now file) front end following

abbrev pub KeepsShut : DiskView → DiskView → ℕ → ℕ → Type 0
KeepsShut old new file end =
    IsTrue old.tells → (front : List ℕ) → length front ≡ end → IsShut (old.now file) front end → StaysShut old new file end front

abbrev pub KeepsAjar : DiskView → DiskView → ℕ → ℕ → Type 0
KeepsAjar old new file end =
    IsTrue old.tells → (front following : List ℕ) → length front ≡ end → IsAjar (old.now file) front end following → StaysAjar old new file end front following

-- a file, as reads give it, is no shorter than before
abbrev pub IsNoShorter : DiskView → DiskView → ℕ → Type 0
IsNoShorter old new file = length (old.now file).bytes ≤ length (new.now file).bytes

-- where the disk reports, no file but this one has changed
abbrev pub OthersStay : DiskView → DiskView → ℕ → Type 0
OthersStay old new file = IsTrue old.tells → (k : ℕ) → k ≢ file → new.now k ≡ old.now k
