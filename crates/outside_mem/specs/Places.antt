-- An index of a list of numbers, which gives the place of each.
use Rattle.std.specs.Prelude.{◌≡◌, ◌≢◌, ◌<◌, ℕ, List, length, get_or, Option, Some, None}
use Rattle.std.specs.Ordering.{nat_cmp}
use Rattle.std.specs.BTreeMap.{BTreeMap, get}

-- the first place of a number in a list, or none where it isn't there
abbrev pub IsPlace : Option ℕ → List ℕ → ℕ → Type 0
IsPlace (Some i) numbers number = (i < length numbers) × (get_or numbers i 0 ≡ number) × ((k : ℕ) → k < i → get_or numbers k 0 ≢ number)
IsPlace None numbers number = (k : ℕ) → k < length numbers → get_or numbers k 0 ≢ number

-- the index has each number of the list, with its place
abbrev pub Finds : BTreeMap ℕ ℕ → List ℕ → Type 0
Finds places numbers = (number : ℕ) → IsPlace (get nat_cmp places number) numbers number
