-- Lists of entries, each made by the pass of some number.
use Rattle.std.specs.Prelude.{◌≡◌, ℕ, eqb, ltb, cond, List, ◌++◌, length, filter, All}

-- the entries that the pass n made, in order
abbrev pub own : {E : Type 0} → (E → ℕ) → ℕ → List E → List E
own by n xs = filter (λ e. eqb (by e) n) xs

-- ys is xs, and then entries that the pass n made
abbrev pub IsExtendedBy : {E : Type 0} → (E → ℕ) → ℕ → List E → List E → Type 0
IsExtendedBy {E} by n xs ys = (new : List E) × (ys ≡ xs ++ new) × All (λ e. by e ≡ n) new

-- the longer of two lists, and the first of two that are as long
abbrev pub longer : {E : Type 0} → List E → List E → List E
longer xs ys = cond (ltb (length xs) (length ys)) ys xs
