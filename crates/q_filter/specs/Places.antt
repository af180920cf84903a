-- The places at which booleans hold.
use Rattle.std.specs.Prelude.{◌+◌, ℕ, Bool, true, false, List, [], ◌∷◌, map}
use Rattle.q_values.specs.declared.atom.Atom.{Atom}
use Rattle.q_values.specs.declared.atom.Atom.TheVariants as a

-- how many hold
abbrev pub count_of : List Bool → ℕ
count_of [] = 0
count_of (true ∷ bits) = count_of bits + 1
count_of (false ∷ bits) = count_of bits

-- the indices at which they hold, in order, where the first has the index n
abbrev pub places_from : ℕ → List Bool → List ℕ
places_from n [] = []
places_from n (true ∷ bits) = n ∷ places_from (n + 1) bits
places_from n (false ∷ bits) = places_from (n + 1) bits

-- the boolean 1b
abbrev pub is_true : Atom → Bool
is_true (a.Boolean bit) = bit
is_true _ = false

-- the indices at which booleans hold, in order
abbrev pub places_of : List Atom → List ℕ
places_of booleans = places_from 0 (map is_true booleans)

-- the items beside which a boolean holds, in order
abbrev pub kept_in : {X : Type 0} → List Bool → List X → List X
kept_in [] xs = []
kept_in (bit ∷ bits) [] = []
kept_in (true ∷ bits) (x ∷ xs) = x ∷ kept_in bits xs
kept_in (false ∷ bits) (x ∷ xs) = kept_in bits xs

abbrev pub kept_by : List Atom → List Atom → List Atom
kept_by booleans xs = kept_in (map is_true booleans) xs
