-- What holds of the verbs, in other words than their definitions.
use Rattle.std.specs.Prelude.{◌≡◌, ℤ, pos, ◌+ℤ◌, ◌*ℤ◌, ◌≤ℤ◌, ◌<ℤ◌, Some}
use Rattle.q_verbs.specs.Places.{quotient_of, remainder_of, multiple_of}

-- x = y * (x div y) + x mod y
abbrev pub DivisionIsWhole : Type 0
DivisionIsWhole = (x y q r : ℤ) → quotient_of x y ≡ Some q → remainder_of x y ≡ Some r → x ≡ (y *ℤ q) +ℤ r

-- the remainder of a divisor above 0 is at least 0 and below the divisor
abbrev pub RemainderLiesBelow : Type 0
RemainderLiesBelow = (x y r : ℤ) → pos 0 <ℤ y → remainder_of x y ≡ Some r → (pos 0 ≤ℤ r) × (r <ℤ y)

-- the remainder of a divisor below 0 is above the divisor and at most 0
abbrev pub RemainderLiesAbove : Type 0
RemainderLiesAbove = (x y r : ℤ) → y <ℤ pos 0 → remainder_of x y ≡ Some r → (y <ℤ r) × (r ≤ℤ pos 0)

-- with a width above 0, xbar gives the greatest multiple of it that is not above the number
abbrev pub BarIsGreatestMultiple : Type 0
BarIsGreatestMultiple =
    (x y m : ℤ) → pos 0 <ℤ x → multiple_of x y ≡ Some m → ((q : ℤ) × (m ≡ x *ℤ q)) × (m ≤ℤ y) × (y <ℤ (m +ℤ x))
