-- Division by the inverse of the divisor.
use Rattle.std.proofs.Common.{Bool, true, if◌then◌else◌, ◌≡◌, ◌+◌, ◌-◌, ◌*◌, ◌/◌, ◌<◌, ◌≤◌, ℕ, zero, suc, ℤ, pos, negsuc, neg_ℤ, ◌-ℤ◌, ◌*ℤ◌, ◌<ℤ◌, ◌≤ℤ◌, List, [], ◌∷◌, length, map, refl, of_z, arith, ap, sym, ◌∙◌}
use Rattle.std.proofs.Math.Nat.{div-mul-le_self, mul-le-mul_left, mul-le-mul_right, mul_comm}
use Rattle.std.proofs.lemmas.Nat.{div-mul-add}
use Rattle.std.proofs.lemmas.Int.{ints, fits_signed_mul, int_wrap_fits, int_wrap-sub_right}
use Rattle.std.specs.Int.{w64, w128, int_shr, int_div_euclid, int_wrap}
use Rattle.std.specs.Int.RustNames.{FitsSigned, int_lt}
use Rattle.std.specs.Prelude.{replicate}
use Rattle.std.specs.Simd.Lanes.{zip2}
use Rattle.q_verbs.specs.Places.{floor_div}

-- the product with the inverse isn't above the quotient
pub near_below : (n inverse v : ℕ) → v * inverse < 18446744073709551616 → n * inverse / 18446744073709551616 * v ≤ n
near_below n inverse v small =
    let near = n * inverse / 18446744073709551616 in
    let one = mul-le-mul_right v (div-mul-le_self (n * inverse) 18446744073709551616) in
    let two : n * (v * inverse) ≤ n * 18446744073709551616 = mul-le-mul_left n (omega (arith, small)) in
    let three : near * 18446744073709551616 * v ≡ near * v * 18446744073709551616 = omega (arith, mul_comm (near * 18446744073709551616) v) in
    omega (arith, one, two, three)

pub is_quotient : (n q v : ℕ) → q * v ≤ n → n - q * v < v → q ≡ n / v
is_quotient n q v below rest =
    let whole : q * v + (n - q * v) ≡ n = omega (arith, below) in
    sym (div-mul-add q v (n - q * v) rest) ∙ ap (λ m. m / v) whole

-- one item beside each of a list
pub zip-one : {X Y Z : Type 0} (f : X → Y → Z) (x : X) (ys : List Y) → zip2 f (replicate (length ys) x) ys ≡ map (f x) ys
zip-one f x [] = refl
zip-one f x (y ∷ ys) = ap (λ l. f x y ∷ l) (zip-one f x ys)

-- the high half of a number of 128 bits has 64
pub high_fits : (z : ℤ) → FitsSigned w128 z → FitsSigned w64 (int_shr z 64)
high_fits (pos a) f = omega (arith, ints, f)
high_fits (negsuc a) f = omega (arith, ints, f)

pub high_fits_wide : (z : ℤ) → FitsSigned w128 z → FitsSigned w128 (int_shr z 64)
high_fits_wide (pos a) f = omega (arith, ints, f)
high_fits_wide (negsuc a) f = omega (arith, ints, f)

pub product_fits : (x y : ℤ) → FitsSigned w64 x → FitsSigned w64 y → FitsSigned w128 (x *ℤ y)
product_fits x y f g = fits_signed_mul w128 x y 9223372036854775808 9223372036854775808 (omega (arith, ints, f)) (omega (arith, ints, g)) (omega (arith))

-- the high half of a product whose first factor is below 0
ceiling : (p : ℕ) → int_shr (neg_ℤ (pos p)) 64 ≡ neg_ℤ (pos ((p + 18446744073709551615) / 18446744073709551616))
ceiling zero = refl
ceiling (suc q) = omega (arith, ints)

times : (c v : ℕ) → neg_ℤ (pos c) *ℤ pos v ≡ neg_ℤ (pos (c * v))
times zero v = omega (arith, ints)
times (suc k) v = omega (arith, ints)

below_zero : (n i v : ℕ) → negsuc n -ℤ (int_shr (negsuc n *ℤ pos i) 64 *ℤ pos v) ≡ pos (((n + 1) * i + 18446744073709551615) / 18446744073709551616 * v) -ℤ pos (n + 1)
below_zero n i v =
    let product : negsuc n *ℤ pos i ≡ neg_ℤ (pos ((n + 1) * i)) = omega (arith, ints) in
    ap (λ p. negsuc n -ℤ (int_shr p 64 *ℤ pos v)) product
    ∙ ap (λ q. negsuc n -ℤ (q *ℤ pos v)) (ceiling ((n + 1) * i))
    ∙ ap (λ q. negsuc n -ℤ q) (times (((n + 1) * i + 18446744073709551615) / 18446744073709551616) v)
    ∙ omega (arith, ints)

above : (m i v : ℕ) → 0 < v → v * i < 18446744073709551616 → (m * i + 18446744073709551615) / 18446744073709551616 * v < m + v
above m i v positive small =
    let near = (m * i + 18446744073709551615) / 18446744073709551616 in
    let one = mul-le-mul_right v (div-mul-le_self (m * i + 18446744073709551615) 18446744073709551616) in
    let two : m * (v * i) ≤ m * 18446744073709551616 = mul-le-mul_left m (omega (arith, small)) in
    let three : near * 18446744073709551616 * v ≡ near * v * 18446744073709551616 = omega (arith, mul_comm (near * 18446744073709551616) v) in
    omega (arith, one, two, three, positive)

-- what a number has above the product of the divisor and the quotient that is near
pub rest_from : (x i v : ℤ) → pos 0 <ℤ v → pos 0 ≤ℤ i → (v *ℤ i) <ℤ pos 18446744073709551616 → FitsSigned w64 x → negsuc 9223372036854775807 ≤ℤ (x -ℤ (int_shr (x *ℤ i) 64 *ℤ v))
rest_from x (negsuc i) v positive signed inverted f = omega (arith, ints, signed)
rest_from x (pos i) (negsuc v) positive signed inverted f = omega (arith, ints, positive)
rest_from (pos n) (pos i) (pos v) positive signed inverted f = omega (arith, ints, f, near_below n i v (omega (arith, ints, inverted)))
rest_from (negsuc n) (pos i) (pos v) positive signed inverted f = rw (below_zero n i v) (omega (arith, ints, f))

pub rest_to : (x i v : ℤ) → pos 0 <ℤ v → pos 0 ≤ℤ i → (v *ℤ i) <ℤ pos 18446744073709551616 → FitsSigned w64 x → v <ℤ pos 9223372036854775808 → (x -ℤ (int_shr (x *ℤ i) 64 *ℤ v)) <ℤ pos 9223372036854775808
rest_to x (negsuc i) v positive signed inverted f g = omega (arith, ints, signed)
rest_to x (pos i) (negsuc v) positive signed inverted f g = omega (arith, ints, positive)
rest_to (pos n) (pos i) (pos v) positive signed inverted f g = omega (arith, ints, f, near_below n i v (omega (arith, ints, inverted)))
rest_to (negsuc n) (pos i) (pos v) positive signed inverted f g = rw (below_zero n i v) (omega (arith, ints, f, g, above (n + 1) i v (omega (arith, ints, positive)) (omega (arith, ints, inverted))))

above_zero : (v : ℕ) → 0 < v → int_lt (pos 0) (pos v) ≡ true
above_zero v h = grind (arith, ints)

floored : (x : ℤ) (v : ℕ) → 0 < v → floor_div x (pos v) ≡ int_div_euclid x (pos v)
floored x v h = ap (λ (b : Bool). if b then int_div_euclid x (pos v) else int_div_euclid (neg_ℤ x) (neg_ℤ (pos v))) (above_zero v h)

-- a quotient whose remainder is at least 0 and below the divisor is rounded down
pub is_floor : (x q : ℤ) (v : ℕ) → 0 < v → pos 0 ≤ℤ (x -ℤ (q *ℤ pos v)) → (x -ℤ (q *ℤ pos v)) <ℤ pos v → q ≡ floor_div x (pos v)
is_floor (pos n) (pos k) v h low high = ap pos (is_quotient n k v (omega (arith, ints, low)) (omega (arith, ints, low, high))) ∙ sym (floored (pos n) v h)
is_floor (pos n) (negsuc k) v h low high = omega (arith, ints, high, times (k + 1) v)
is_floor (negsuc n) (pos k) v h low high = omega (arith, ints, low)
is_floor (negsuc n) (negsuc k) v h low high = ap negsuc (is_quotient n k v (omega (arith, ints, low, high)) (omega (arith, ints, low, high))) ∙ sym (floored (negsuc n) v h)

signed : (z : ℤ) → negsuc 9223372036854775807 ≤ℤ z → z <ℤ pos 9223372036854775808 → FitsSigned w64 z
signed (pos n) low high = omega (arith, ints, high)
signed (negsuc n) low high = omega (arith, ints, low)

at_least_zero : (z : ℤ) (v : ℕ) → FitsSigned w64 z → v < 9223372036854775808 → of_z w64 z < v → pos 0 ≤ℤ z
at_least_zero (pos n) v f small h = omega (arith, ints)
at_least_zero (negsuc n) v f small h = omega (arith, ints, f, small, h)

less : (z : ℤ) (v : ℕ) → FitsSigned w64 z → v < 9223372036854775808 → of_z w64 z < v → z <ℤ pos v
less (pos n) v f small h = omega (arith, ints, h)
less (negsuc n) v f small h = omega (arith, ints)

-- a wrapped multiple, where the bits of what the number has above what is wrapped are below the divisor
pub is_multiple : (x q v : ℤ) → pos 0 <ℤ v → v <ℤ pos 9223372036854775808 → negsuc 9223372036854775807 ≤ℤ (x -ℤ (q *ℤ v)) → (x -ℤ (q *ℤ v)) <ℤ pos 9223372036854775808
    → of_z w64 (int_wrap w64 (x -ℤ int_wrap w64 (q *ℤ v))) < of_z w64 v → q *ℤ v ≡ v *ℤ floor_div x v
is_multiple x q (negsuc v) positive small least most h = omega (arith, ints, positive)
is_multiple x q (pos v) positive small least most h =
    let fits = signed (x -ℤ (q *ℤ pos v)) least most in
    let rest : int_wrap w64 (x -ℤ int_wrap w64 (q *ℤ pos v)) ≡ x -ℤ (q *ℤ pos v) = int_wrap-sub_right w64 x (q *ℤ pos v) ∙ int_wrap_fits w64 (x -ℤ (q *ℤ pos v)) fits in
    let bits : of_z w64 (x -ℤ (q *ℤ pos v)) < v = rw rest at h in
    let top : v < 9223372036854775808 = omega (arith, ints, small) in
    ap (λ k. k *ℤ pos v) (is_floor x q v (omega (arith, ints, positive)) (at_least_zero (x -ℤ (q *ℤ pos v)) v fits top bits) (less (x -ℤ (q *ℤ pos v)) v fits top bits)) ∙ omega (arith, ints)
