-- Items that have names.
use Rattle.std.specs.Prelude.{ℕ, if◌then◌else◌, List, [], ◌∷◌, Option, Some, None}
use Rattle.std.specs.Str.{bytes_eq}

-- the item with this name, in a list that has a name for each; the first one, where several have it
abbrev pub beside : {X : Type 0} → List ℕ → List (List ℕ) → List X → Option X
beside name [] xs = None
beside name (other ∷ names) [] = None
beside name (other ∷ names) (x ∷ xs) = if bytes_eq name other then Some x else beside name names xs
