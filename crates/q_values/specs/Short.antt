-- Symbols of at most eight bytes, and the eight bytes and the number that stand for each.
use Rattle.std.specs.Prelude.{◌≡◌, ◌*◌, ◌+◌, ◌<◌, ◌≤◌, ℕ, zero, suc, List, [], ◌∷◌, length, All}
use Rattle.q_values.specs.Bytes.{HasNoNul}

-- the bytes before the first 0
abbrev pub text_of : List ℕ → List ℕ
text_of [] = []
text_of (zero ∷ bytes) = []
text_of (suc b ∷ bytes) = suc b ∷ text_of bytes

-- the first n bytes of a text; where it has fewer, zeros make up n
abbrev pub filled : ℕ → List ℕ → List ℕ
filled zero text = []
filled (suc n) [] = 0 ∷ filled n []
filled (suc n) (b ∷ text) = b ∷ filled n text

-- a symbol of at most eight bytes
pub record IsShort (text : List ℕ) : Type 0 where
  pub no_nul : HasNoNul text
  pub bytes : All (λ b. b < 256) text
  pub short : length text ≤ 8

-- eight bytes that are a text without a 0, and then zeros
pub record IsFilled (bytes : List ℕ) : Type 0 where
  pub full : bytes ≡ filled 8 (text_of bytes)
  pub digits : All (λ b. b < 256) bytes

-- the number whose digits to the base 256 are these bytes, the greatest digit first, with another number above them
abbrev pub number_above : ℕ → List ℕ → ℕ
number_above above [] = above
number_above above (b ∷ bytes) = number_above (above * 256 + b) bytes

-- the number that stands for a symbol: its eight bytes, in big-endian order
abbrev pub number_of : List ℕ → ℕ
number_of text = number_above 0 (filled 8 text)
