-- Decimal numbers, capped at a limit.
use Rattle.std.proofs.Common.{◌≡◌, ℕ, suc, ◌+◌, ◌-◌, ◌*◌, ◌<◌, ◌≤◌, Bool, true, false, cond, List, [], ◌∷◌, length, drop, get_or, min, refl, arith, ⊎_elim}
use Rattle.std.proofs.lemmas.Bool.{cases_lt}
use Rattle.std.proofs.Math.ListN.{drop_of_length-le}
use Rattle.std.proofs.Math.Numerals.{add-one}
use Rattle.std.proofs.Math.Seq.{drop-cons}
use Rattle.q_text.specs.Words.{is_digit}
use Rattle.q_text.specs.Numbers.{spelled}

pub spelled-least : (n : ℕ) (bs : List ℕ) → n ≤ spelled n bs
spelled-least n [] = omega arith
spelled-least n (b ∷ bs) = go (is_digit b) (spelled-least (10 * n + (b - 48)) bs)
  where
    go : (t : Bool) → 10 * n + (b - 48) ≤ spelled (10 * n + (b - 48)) bs → n ≤ cond t (spelled (10 * n + (b - 48)) bs) n
    go false more = omega arith
    go true more = omega (arith, more)

-- capping on the way changes nothing
pub spelled-min : (n limit : ℕ) (bs : List ℕ) → min (spelled (min n limit) bs) limit ≡ min (spelled n bs) limit
spelled-min n limit bs = ⊎_elim
    (λ less. let e : min n limit ≡ limit = omega arith in rw e (omega (arith, spelled-least n bs, spelled-least limit bs, less)))
    (λ most. let e : min n limit ≡ n = omega arith in rw e refl)
    (cases_lt limit n)

-- one digit more, of a number that was capped
pub spelled-step : (n limit more : ℕ) (text : List ℕ) (offset : ℕ) → offset < length text → is_digit (get_or text offset 0) ≡ true → more ≡ min (min (n * 10) limit + (get_or text offset 0 - 48)) limit
    → min (spelled more (drop (offset + 1) text)) limit ≡ min (spelled n (drop offset text)) limit
spelled-step n limit more text offset less digit is =
    let cut : more ≡ min (10 * n + (get_or text offset 0 - 48)) limit = omega (arith, is) in
    rw (add-one offset, drop-cons text offset 0 less, digit, cut) (spelled-min (10 * n + (get_or text offset 0 - 48)) limit (drop (suc offset) text))

pub spelled-end : (n limit : ℕ) (text : List ℕ) (offset : ℕ) → offset < length text → is_digit (get_or text offset 0) ≡ false → min (spelled n (drop offset text)) limit ≡ min n limit
spelled-end n limit text offset less digit = rw (drop-cons text offset 0 less, digit) refl

pub spelled-out : (n limit : ℕ) (text : List ℕ) (offset : ℕ) → length text ≤ offset → min (spelled n (drop offset text)) limit ≡ min n limit
spelled-out n limit text offset past = rw (drop_of_length-le text past) refl

-- where no digit follows, the number is the one so far
pub spelled-stop : (n limit : ℕ) (text : List ℕ) (offset : ℕ) → n ≤ limit → min (spelled n (drop offset text)) limit ≡ min n limit → n ≡ min (spelled n (drop offset text)) limit
spelled-stop n limit text offset few e = omega (arith, e)
