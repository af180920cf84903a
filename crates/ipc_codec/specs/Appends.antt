-- What a writer that ran out of memory leaves of its output.
use Rattle.std.specs.Prelude.{◌≡◌, ℕ, List, length, take}

-- the new list begins with the old one
pub record Begins (old new : List ℕ) : Type 0 where
  pub kept : take (length old) new ≡ old
