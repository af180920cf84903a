-- Numbers in and out of range.
use Rattle.std.proofs.Common.{◌≡◌, ℕ, zero, suc, ◌+◌, ◌-◌, ◌*◌, ◌^◌, ◌<◌, Bool, true, false, nat_le, Option, None, min, refl, sym, ◌∙◌, arith, ⊎_elim, ℤ, pos, unsigned_abs, List, eqb, get_or}
use Rattle.std.proofs.lemmas.Bool.{cases_lt}
use Rattle.std.proofs.lemmas.Bool.Decides.{nat_tests}
use Rattle.q_values.specs.declared.kind.LongKind.TheVariants as lk
use Rattle.q_text.specs.Numbers.{greatest, in_range, signed, whole_number, size_of_whole, spelled, nanoseconds_of, timespan_of}
use Rattle.q_text.specs.Forms.{is_null, digits}
use Rattle.q_text.specs.declared.kinds.NumberKind.{NumberKind}
use Rattle.q_text.specs.declared.kinds.NumberKind.TheVariants as nk

above : (a b : ℕ) → b < a → nat_le a b ≡ false
above a b h = grind (arith, nat_tests)

pub in_range-beyond : (kind : NumberKind) (z : ℤ) → greatest kind < unsigned_abs z → in_range kind z ≡ None
unfolding in_range
in_range-beyond kind z h = rw (above (unsigned_abs z) (greatest kind) h) refl

greatest_bound : (kind : NumberKind) → greatest kind < 2 ^ 64 - 1
greatest_bound nk.Boolean = omega arith
greatest_bound nk.Byte = omega arith
greatest_bound nk.Short = omega arith
greatest_bound (nk.Integers kind) = omega arith
greatest_bound (nk.Longs kind) = omega arith

pub size-signed : (negative : Bool) (n : ℕ) → unsigned_abs (signed negative n) ≡ n
size-signed false n = refl
size-signed true zero = refl
size-signed true (suc n) = refl

-- a whole number may be capped where it is beyond every kind
pub whole-cut : (kind : NumberKind) (negative : Bool) (n : ℕ) → in_range kind (signed negative (min n (2 ^ 64 - 1))) ≡ in_range kind (signed negative n)
whole-cut kind negative n = ⊎_elim
    (λ less. let e : min n (2 ^ 64 - 1) ≡ 2 ^ 64 - 1 = omega arith in
    let big : greatest kind < unsigned_abs (signed negative n) = rw (size-signed negative n) (omega (arith, greatest_bound kind, less)) in
    let cut : greatest kind < unsigned_abs (signed negative (2 ^ 64 - 1)) = rw (size-signed negative (2 ^ 64 - 1)) (greatest_bound kind) in
    rw e (in_range-beyond kind (signed negative (2 ^ 64 - 1)) cut ∙ sym (in_range-beyond kind (signed negative n) big)))
    (λ most. let e : min n (2 ^ 64 - 1) ≡ n = omega arith in rw e refl)
    (cases_lt (2 ^ 64 - 1) n)

-- and so may the days of a timespan
pub days-cut : (n r : ℕ) → in_range (nk.Longs lk.Timespan) (pos (86_400_000_000_000 * min n (2 ^ 64 - 1) + r)) ≡ in_range (nk.Longs lk.Timespan) (pos (86_400_000_000_000 * n + r))
days-cut n r = ⊎_elim
    (λ less. let e : min n (2 ^ 64 - 1) ≡ 2 ^ 64 - 1 = omega arith in
    rw e (in_range-beyond (nk.Longs lk.Timespan) (pos (86_400_000_000_000 * (2 ^ 64 - 1) + r)) (omega arith) ∙ sym (in_range-beyond (nk.Longs lk.Timespan) (pos (86_400_000_000_000 * n + r)) (omega (arith, less)))))
    (λ most. let e : min n (2 ^ 64 - 1) ≡ n = omega arith in rw e refl)
    (cases_lt (2 ^ 64 - 1) n)

-- a whole number is read where its size is capped
pub whole-read : (kind : NumberKind) (w : List ℕ) (size : ℕ) (number : ℤ) (found : Option ℤ)
    → is_null w ≡ false → size ≡ min (size_of_whole kind w) (2 ^ 64 - 1) → number ≡ signed (eqb (get_or w 0 0) 45) size → found ≡ in_range kind number → found ≡ whole_number kind w
unfolding whole_number
whole-read kind w size number found null size-is number-is found-is =
    rw (null, found-is, number-is, size-is) (whole-cut kind (eqb (get_or w 0 0) 45) (size_of_whole kind w))

-- and so is a timespan
pub timespan-read : (w : List ℕ) (days clock : ℕ) (number : ℤ) (found : Option ℤ)
    → days ≡ min (spelled 0 w) (2 ^ 64 - 1) → clock ≡ nanoseconds_of w (digits w + 1) → number ≡ pos (86_400_000_000_000 * days + clock) → found ≡ in_range (nk.Longs lk.Timespan) number
    → found ≡ in_range (nk.Longs lk.Timespan) (pos (timespan_of w))
timespan-read w days clock number found days-is clock-is number-is found-is =
    rw (found-is, number-is, days-is, clock-is) (days-cut (spelled 0 w) (nanoseconds_of w (digits w + 1)))
