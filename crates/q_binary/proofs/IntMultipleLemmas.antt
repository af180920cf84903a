-- Multiples of a width of 31 bits.
use Rattle.std.proofs.Common.{refl, List, [], ◌∷◌, ◌++◌, length, take, drop, map, get_or, set, ◌≡◌, ◌+◌, ◌-◌, ◌*◌, ◌/◌, ◌%◌, ◌<◌, ◌≤◌, ℕ, ℤ, pos, ◌*ℤ◌, Bool, true, false, if◌then◌else◌, Option, Some, None, arith, ap, sym, ◌∙◌}
use Rattle.std.proofs.Math.Nat.{div-mul-le_self, mul-le-mul_left, mul-le-mul_right, mul_comm, div-add-mod}
use Rattle.std.proofs.lemmas.Int.{ints}
use Rattle.std.proofs.lemmas.List.{take_more, drop_more, map_push, length-set, map-append}
use Rattle.std.proofs.lemmas.Grind.{take-set_at, drop-set_at}
use Rattle.std.proofs.Math.Seq.{take-add}
use Rattle.std.specs.Int.{w32, w64, int_wrap}
use Rattle.std.specs.Int.RustNames.{int_lt}
use Rattle.std.specs.Option.{option_map}
use Rattle.std.specs.Ordering.{int_eq}
use Rattle.q_lanes.proofs.WrapLemmas.{int_wrap-32}
use Rattle.q_verbs.specs.Numbers.{least, reduced}
use Rattle.q_verbs.specs.Places.{floor_div, multiple_of}
use Rattle.q_binary.proofs.DivisorLemmas.{is_quotient}
use Rattle.q_binary.specs.Computed.{int_multiple}

-- the product with the inverse isn't above the quotient
pub near_below : (n inverse v : ℕ) → v * inverse < 4294967296 → n * inverse / 4294967296 * v ≤ n
near_below n inverse v small =
    let near = n * inverse / 4294967296 in
    let one = mul-le-mul_right v (div-mul-le_self (n * inverse) 4294967296) in
    let two : n * (v * inverse) ≤ n * 4294967296 = mul-le-mul_left n (omega (arith, small)) in
    let three : near * 4294967296 * v ≡ near * v * 4294967296 = omega (arith, mul_comm (near * 4294967296) v) in
    omega (arith, one, two, three)

-- and it is less than two below it
pub near_above : (n inverse v : ℕ) → n < 4294967296 → 0 < v → 4294967296 ≤ v * inverse + v → n - n * inverse / 4294967296 * v < v + v
near_above n inverse v small above whole =
    let near = n * inverse / 4294967296 in
    let one : n * inverse + 1 ≤ near * 4294967296 + 4294967296 = omega (arith) in
    let two : v * (n * inverse + 1) ≤ v * (near * 4294967296 + 4294967296) = mul-le-mul_left v one in
    let three : n * 4294967296 ≤ n * (v * inverse + v) = mul-le-mul_left n whole in
    let four : n * v ≤ 4294967295 * v = mul-le-mul_right v (omega (arith, small)) in
    omega (arith, two, three, four, above)

-- what is left above the quotient
pub is_remainder : (n q v r : ℕ) → q * v + r ≡ n → r < v → r ≡ n % v
is_remainder n q v r whole small =
    let q_is : q ≡ n / v = is_quotient n q v (omega arith) (omega arith) in
    let parts : v * (n / v) + n % v ≡ n = div-add-mod n v in
    let same : v * (n / v) ≡ q * v = ap (λ k. v * k) (sym q_is) ∙ mul_comm v q in
    omega (arith, whole, parts, same)

not_zero : (w : ℕ) → 0 < w → int_eq (pos w) (pos 0) ≡ false
not_zero w h = grind (arith, ints)

multiple : (w : ℕ) (x : ℤ) → 0 < w → multiple_of (pos w) x ≡ Some (pos w *ℤ floor_div x (pos w))
multiple w x h = ap (λ (b : Bool). if b then None else Some (pos w *ℤ floor_div x (pos w))) (not_zero w h)

-- what is left of an int without what it has above a multiple
pub int_multiple_is : (w : ℕ) (x z : ℤ) → 0 < w → int_lt (least w32) x ≡ true → z ≡ (pos w *ℤ floor_div x (pos w)) → int_wrap w32 z ≡ int_multiple (pos w) x
int_multiple_is w x z h l e =
    rw l (ap (int_wrap w32) e ∙ sym (int_wrap-32 (pos w *ℤ floor_div x (pos w))) ∙ ap (λ (m : Option ℤ). reduced w32 (option_map (int_wrap w64) m)) (sym (multiple w x h)))

-- one item more that is replaced
pub replaced : (f : ℤ → ℤ) (old now : List ℤ) (i : ℕ) (y : ℤ) → i < length now → length now ≡ length old → take i now ≡ map f (take i old) → drop i now ≡ drop i old → y ≡ f (get_or now i (pos 0))
    → (take (i + 1) (set now i y) ≡ map f (take (i + 1) old)) × (drop (i + 1) (set now i y) ≡ drop (i + 1) old) × (length (set now i y) ≡ length old)
replaced f old now i y less size front back is =
    let less' : i < length old = omega (arith, less, size) in
    let both : get_or now i (pos 0) ∷ drop (i + 1) now ≡ get_or old i (pos 0) ∷ drop (i + 1) old = sym (drop_more now i (pos 0) less) ∙ back ∙ drop_more old i (pos 0) less' in
    let head : get_or now i (pos 0) ≡ get_or old i (pos 0) = ap (λ (l : List ℤ). get_or l 0 (pos 0)) both in
    let size' : length (set now i y) ≡ length now = length-set now i y in (
      take-set_at now i (i + 1) y refl less ∙ ap (λ (l : List ℤ). l ++ y ∷ []) front ∙ ap (λ (x : ℤ). map f (take i old) ++ x ∷ []) (is ∙ ap f head)
          ∙ sym (map_push f (take i old) (get_or old i (pos 0))) ∙ ap (map f) (sym (take_more old i (pos 0) less')),
      ap (drop 1) (sym (drop_more (set now i y) i (pos 0) (omega (arith, less, size'))) ∙ drop-set_at now i i y refl less) ∙ ap (drop 1) both,
      size' ∙ size,
    )

-- a part more of a list whose items a function changes
pub grown : (f : ℤ → ℤ) (xs : List ℤ) (done part : ℕ) → map f (take done xs) ++ map f (take part (drop done xs)) ≡ map f (take (done + part) xs)
grown f xs done part = sym (map-append f (take done xs) (take part (drop done xs))) ∙ ap (map f) (sym (take-add done part xs))
