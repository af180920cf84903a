-- What holds of the verbs, in other words than their definitions.
use Rattle.std.specs.Prelude.{◌≡◌, ℕ, Bool, true, not, ◌&&◌, ◌==◌, List, [], ◌∷◌}
use Rattle.q_verbs.specs.Like.{matches}

-- a pattern without `*` and `?`
abbrev pub is_plain : List ℕ → Bool
is_plain [] = true
is_plain (p ∷ pattern) = not (p == 42) && (not (p == 63) && is_plain pattern)

-- such a pattern matches only itself
abbrev pub PlainPatternIsItself : Type 0
PlainPatternIsItself =
    (pattern text : List ℕ) → is_plain pattern ≡ true
    → (matches pattern text ≡ true → pattern ≡ text) × (matches pattern pattern ≡ true)

-- `*` matches every text
abbrev pub AnyBytesMatchAll : Type 0
AnyBytesMatchAll = (text : List ℕ) → matches (42 ∷ []) text ≡ true
