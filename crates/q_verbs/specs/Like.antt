-- When a text matches a pattern.
use Rattle.std.specs.Prelude.{ℕ, ◌==◌, ◌≡◌, ◌+◌, ◌≤◌, Bool, true, false, ◌&&◌, ◌||◌, if◌then◌else◌, List, [], ◌∷◌, length, drop, slice_index_or}
use Rattle.std.specs.List.{list_any}

-- what is left of a text from each index on, and at its end
abbrev pub suffixes : List ℕ → List (List ℕ)
suffixes [] = [] ∷ []
suffixes (b ∷ text) = (b ∷ text) ∷ suffixes text

-- a byte of a pattern fits a byte of a text: `?` fits any, another byte itself
abbrev pub fits_byte : ℕ → ℕ → Bool
fits_byte p b = p == 63 || p == b

-- one byte that fits, and then the rest
abbrev pub one_byte : ℕ → (List ℕ → Bool) → List ℕ → Bool
one_byte p rest [] = false
one_byte p rest (b ∷ text) = fits_byte p b && rest text

-- the whole text matches the whole pattern: `*` is any bytes, `?` any one byte, another byte itself
abbrev pub matches : List ℕ → List ℕ → Bool
matches [] [] = true
matches [] (b ∷ text) = false
matches (p ∷ pattern) text = if p == 42 then list_any (matches pattern) (suffixes text) else one_byte p (matches pattern) text

-- for each index of a text, and for its end, whether what is left passes the test
pub record IsRow (test : List ℕ → Bool) (text : List ℕ) (row : List Bool) : Type 0 where
  pub size : length row ≡ length text + 1
  pub value : (k : ℕ) → k ≤ length text → slice_index_or row k false ≡ test (drop k text)

-- the n bytes at the front of a pattern fit those of a text, and the rest decides
pub record IsFront (pattern text : List ℕ) (n : ℕ) : Type 0 where
  pub in_pattern : n ≤ length pattern
  pub in_text : n ≤ length text
  pub rest : matches pattern text ≡ matches (drop n pattern) (drop n text)
