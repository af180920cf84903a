-- The order of numbers of which the least is the null.
use Rattle.std.proofs.Common.{◌≡◌, ℤ, Some, refl, sym, ◌∙◌, arith, FitsSigned}
use Rattle.std.specs.Int.{w16, w32, w64}
use Rattle.std.specs.declared.cmp.Ordering.{Ordering}
use Rattle.std.specs.declared.cmp.Ordering.TheVariants.{Less, Equal, Greater}
use Rattle.std.specs.Ordering.{int_cmp, ordering_then}
use Rattle.std.proofs.lemmas.Int.{ints}
use Rattle.q_verbs.specs.Numbers.{number_cmp, numeric, worth_cmp, number_in}
use Rattle.q_lanes.specs.Loops.{worth_in_64}

ended : (o : Ordering) → ordering_then o Equal ≡ o
ended Less = refl
ended Equal = refl
ended Greater = refl

numbers-64 : (x y : ℤ) → FitsSigned w64 x → FitsSigned w64 y → number_cmp (number_in w64 x) (number_in w64 y) ≡ int_cmp x y
numbers-64 x y f g = grind (arith, ints)

numbers-32 : (x y : ℤ) → FitsSigned w32 x → FitsSigned w32 y → number_cmp (number_in w32 x) (number_in w32 y) ≡ int_cmp x y
numbers-32 x y f g = grind (arith, ints)

numbers-16 : (x y : ℤ) → FitsSigned w16 x → FitsSigned w16 y → number_cmp (number_in w16 x) (number_in w16 y) ≡ int_cmp x y
numbers-16 x y f g = grind (arith, ints)

pub worth_cmp-64 : (x y : ℤ) → FitsSigned w64 x → FitsSigned w64 y → int_cmp x y ≡ worth_cmp (worth_in_64 x) (worth_in_64 y)
worth_cmp-64 x y f g = sym (ended (number_cmp (number_in w64 x) (number_in w64 y)) ∙ numbers-64 x y f g)

pub worth_cmp-32 : (x y : ℤ) → FitsSigned w32 x → FitsSigned w32 y → int_cmp x y ≡ worth_cmp (numeric (number_in w32 x)) (numeric (number_in w32 y))
worth_cmp-32 x y f g = sym (ended (number_cmp (number_in w32 x) (number_in w32 y)) ∙ numbers-32 x y f g)

pub worth_cmp-16 : (x y : ℤ) → FitsSigned w16 x → FitsSigned w16 y → int_cmp x y ≡ worth_cmp (numeric (number_in w16 x)) (numeric (number_in w16 y))
worth_cmp-16 x y f g = sym (ended (number_cmp (number_in w16 x) (number_in w16 y)) ∙ numbers-16 x y f g)

-- numbers that are no nulls
pub worth_cmp-some : (x y : ℤ) → int_cmp x y ≡ worth_cmp (numeric (Some x)) (numeric (Some y))
worth_cmp-some x y = sym (ended (int_cmp x y))
