-- Prefixes of a chronicle.
use Rattle.std.specs.Prelude.{◌≡◌, ℕ, List, ◌++◌, length}
use Rattle.day_rows.specs.declared.entry.Entry.{Entry}

-- a list is the first n entries of a chronicle
pub record IsFront (n : ℕ) (front chronicle : List Entry) : Type 0 where
  pub count : n ≡ length front
  pub more : List Entry
  pub whole : chronicle ≡ front ++ more
