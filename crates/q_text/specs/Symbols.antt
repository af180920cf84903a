-- Symbol literals: a backtick and a name, and so on without blanks (Q for Mortals, 2.4).
use Rattle.std.specs.Prelude.{ℕ, ◌==◌, if◌then◌else◌, List, [], ◌∷◌, take}
use Rattle.q_text.specs.Words.{is_symbol, span}
use Rattle.q_text.specs.declared.words.Class.TheVariants as c

-- the names after the backticks of the literal at the front
abbrev pub names : List ℕ → List (List ℕ)
names [] = []
names (b ∷ bs) = if b == 96 then take (span c.Symbol bs) bs ∷ names bs else (if is_symbol b then names bs else [])
