-- Numbers that are equal.
use Rattle.std.proofs.Common.{◌≡◌, refl, ℤ, true, false, Bool, ap, sym, ◌∙◌, arith, FitsSigned, of_z, to_z}
use Rattle.std.proofs.Math.Dec.{eqb}
use Rattle.std.proofs.lemmas.Bool.{eq-eqb, eqb-true}
use Rattle.std.proofs.lemmas.Int.{to_z-of_z}
use Rattle.std.specs.Int.{Width, w16, w32, w64}
use Rattle.std.specs.Ordering.{int_cmp, int_eq, is_eq}
use Rattle.std.proofs.lemmas.Int.{ints}
use Rattle.q_lanes.proofs.OrderLemmas.{worth_cmp-16, worth_cmp-32, worth_cmp-64}
use Rattle.q_lanes.specs.Loops.{worth_in_64}
use Rattle.q_verbs.specs.Numbers.{number_in, numeric, worth_cmp}

pub equal : (x y : ℤ) → int_eq x y ≡ is_eq (int_cmp x y)
equal x y = grind (arith, ints)

-- numbers are equal where they are worth the same
pub same-16 : (x y : ℤ) → FitsSigned w16 x → FitsSigned w16 y → int_eq x y ≡ is_eq (worth_cmp (numeric (number_in w16 x)) (numeric (number_in w16 y)))
same-16 x y f g = equal x y ∙ ap is_eq (worth_cmp-16 x y f g)

pub same-32 : (x y : ℤ) → FitsSigned w32 x → FitsSigned w32 y → int_eq x y ≡ is_eq (worth_cmp (numeric (number_in w32 x)) (numeric (number_in w32 y)))
same-32 x y f g = equal x y ∙ ap is_eq (worth_cmp-32 x y f g)

pub same-64 : (x y : ℤ) → FitsSigned w64 x → FitsSigned w64 y → int_eq x y ≡ is_eq (worth_cmp (worth_in_64 x) (worth_in_64 y))
same-64 x y f g = equal x y ∙ ap is_eq (worth_cmp-64 x y f g)

int_is : (x y : ℤ) → int_eq x y ≡ true → x ≡ y
int_is x y e = grind (arith, ints)

int_self : (x y : ℤ) → x ≡ y → int_eq x y ≡ true
int_self x y e = grind (arith, ints)

both : (a b : Bool) → (a ≡ true → b ≡ true) → (b ≡ true → a ≡ true) → a ≡ b
both true b f g = sym (f refl)
both false true f g = g refl
both false false f g = refl

-- numbers are equal where their bits are
pub bits-same : (w : Width) (x y : ℤ) → FitsSigned w x → FitsSigned w y → eqb (of_z w x) (of_z w y) ≡ int_eq x y
bits-same w x y f g =
    both (eqb (of_z w x) (of_z w y)) (int_eq x y)
    (λ e. int_self x y (sym (to_z-of_z w x f) ∙ ap (to_z w) (eqb-true (of_z w x) (of_z w y) e) ∙ to_z-of_z w y g))
    (λ e. eq-eqb (of_z w x) (of_z w y) (ap (of_z w) (int_is x y e)))
