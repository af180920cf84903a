-- The laws of the verbs.
use Rattle.std.proofs.Common.{◌≡◌, ℤ, pos, ◌+ℤ◌, ◌-ℤ◌, ◌*ℤ◌, Bool, true, false, if◌then◌else◌, Some, None, ◌∙◌, arith}
use Rattle.std.specs.Ordering.{int_eq}
use Rattle.std.proofs.lemmas.Int.{ints}
use Rattle.q_verbs.specs.Places.{floor_div}
use Rattle.q_binary.specs.Laws.{DivisionIsWhole}

rejoined : (x p : ℤ) → x ≡ p +ℤ (x -ℤ p)
rejoined x p = omega (arith, ints)

some_or : (b : Bool) (z q : ℤ) → (if b then None else Some z) ≡ Some q → z ≡ q
some_or true z q e = cc
some_or false z q e = cc

pub division_is_whole : DivisionIsWhole
division_is_whole x y q r e d =
    let quotient : floor_div x y ≡ q = some_or (int_eq y (pos 0)) (floor_div x y) q e in
    let rest : x -ℤ (y *ℤ floor_div x y) ≡ r = some_or (int_eq y (pos 0)) (x -ℤ (y *ℤ floor_div x y)) r d in
    rejoined x (y *ℤ floor_div x y) ∙ (λ i. (y *ℤ quotient i) +ℤ rest i)
