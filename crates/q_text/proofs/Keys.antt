-- The byte after a word's leading digits, by which its form is known.
use Rattle.std.proofs.Common.{◌≡◌, ℕ, zero, suc, ◌+◌, ◌-◌, ◌<◌, ◌≤◌, ◌||◌, ◌&&◌, Bool, true, false, cond, List, [], ◌∷◌, ◌++◌, length, codes, take, drop, get_or, eqb, nat_le, refl, sym, ap, ◌∙◌, arith, ⊎_elim, subst}
use Rattle.std.specs.Str.{bytes_eq}
use Rattle.std.proofs.Math.Seq.{drop-cons, get_or-append_seam}
use Rattle.std.proofs.lemmas.Bool.{eqb-true, and_parts, or_cases, leb-true}
use Rattle.std.proofs.lemmas.List.{get_or_past, length-drop}
use Rattle.std.proofs.lemmas.Slice.Eq.{bytes_eq-Decides}
use Rattle.q_text.specs.Words.{is_digit, is_of, span}
use Rattle.q_text.specs.Forms.{fits, is_front, is_like, is_civil, is_month, is_clock, is_clock_length, ends_clock, is_date, is_year_month, is_timestamp, is_timespan, is_minute, is_second, is_time, is_special, is_digits, is_plain, sign, digits, begins_bytes}
use Rattle.q_text.specs.Grammar.{AllOf}
use Rattle.q_text.specs.declared.words.Class.{Class}
use Rattle.q_text.specs.declared.words.Class.TheVariants as c
use Rattle.q_text.proofs.Spans.{all-taken, span-all}

abbrev pub key : List ℕ → ℕ
key w = get_or w (span c.Digit w) 0

pub span-at : (n : ℕ) (class : Class) (w : List ℕ) → ((i : ℕ) → i < n → is_of class (get_or w i 0) ≡ true) → is_of class 0 ≡ false → is_of class (get_or w n 0) ≡ false → span class w ≡ n
span-at zero class [] each none stop = refl
span-at zero class (b ∷ bs) each none stop = rw stop refl
span-at (suc n) class [] each none stop = absurd (let yes : is_of class 0 ≡ true = each 0 (omega arith) in cc)
span-at (suc n) class (b ∷ bs) each none stop =
    let first : is_of class b ≡ true = each 0 (omega arith) in
    rw (first, span-at n class bs (λ i less. each (suc i) (omega (arith, less))) none stop) refl

below-more : (class : Class) (b : ℕ) (bs : List ℕ) → ((i : ℕ) → i < span class bs → is_of class (get_or bs i 0) ≡ true) → (i : ℕ) → i < span class (b ∷ bs) → is_of class (get_or (b ∷ bs) i 0) ≡ true
below-more class b bs each i less = go (is_of class b) refl i less
  where
    go : (t : Bool) → is_of class b ≡ t → (i : ℕ) → i < cond t (suc (span class bs)) 0 → is_of class (get_or (b ∷ bs) i 0) ≡ true
    go false e i less = absurd (omega (arith, less))
    go true e zero less = e
    go true e (suc i) less = each i (omega (arith, less))

pub span-below : (class : Class) (w : List ℕ) (i : ℕ) → i < span class w → is_of class (get_or w i 0) ≡ true
span-below class [] i less = absurd (omega arith)
span-below class (b ∷ bs) i less = below-more class b bs (λ k below. span-below class bs k below) i less

fits-at : (p w : List ℕ) (i : ℕ) → is_front p w ≡ true → i < length w → fits (get_or p i 0) (get_or w i 0) ≡ true
fits-at p [] i h less = absurd (omega arith)
fits-at [] (b ∷ bs) i h less = absurd (cc)
fits-at (p ∷ ps) (b ∷ bs) zero h less = (and_parts (fits p b) (is_front ps bs) h).0
fits-at (p ∷ ps) (b ∷ bs) (suc i) h less = fits-at ps bs i (and_parts (fits p b) (is_front ps bs) h).1 (omega (arith, less))

-- four digits and a dot
dotted-key : (p w : List ℕ) → 5 ≤ length w → is_front (100 ∷ 100 ∷ 100 ∷ 100 ∷ 46 ∷ p) w ≡ true → key w ≡ 46
dotted-key p w long h =
    let dot : get_or w 4 0 ≡ 46 = sym (eqb-true 46 (get_or w 4 0) (fits-at (100 ∷ 100 ∷ 100 ∷ 100 ∷ 46 ∷ p) w 4 h (omega arith))) in
    let stop : is_of c.Digit (get_or w 4 0) ≡ false = rw dot refl in
    let len : span c.Digit w ≡ 4 = span-at 4 c.Digit w four refl stop in
    rw len dot
  where
    four : (i : ℕ) → i < 4 → is_of c.Digit (get_or w i 0) ≡ true
    four zero less = fits-at (100 ∷ 100 ∷ 100 ∷ 100 ∷ 46 ∷ p) w 0 h (omega arith)
    four (suc zero) less = fits-at (100 ∷ 100 ∷ 100 ∷ 100 ∷ 46 ∷ p) w 1 h (omega arith)
    four (suc (suc zero)) less = fits-at (100 ∷ 100 ∷ 100 ∷ 100 ∷ 46 ∷ p) w 2 h (omega arith)
    four (suc (suc (suc zero))) less = fits-at (100 ∷ 100 ∷ 100 ∷ 100 ∷ 46 ∷ p) w 3 h (omega arith)
    four (suc (suc (suc (suc i)))) less = absurd (omega (arith, less))

-- two digits and a colon
colon-key : (p w : List ℕ) → 3 ≤ length w → is_front (100 ∷ 100 ∷ 58 ∷ p) w ≡ true → key w ≡ 58
colon-key p w long h =
    let colon : get_or w 2 0 ≡ 58 = sym (eqb-true 58 (get_or w 2 0) (fits-at (100 ∷ 100 ∷ 58 ∷ p) w 2 h (omega arith))) in
    let stop : is_of c.Digit (get_or w 2 0) ≡ false = rw colon refl in
    let len : span c.Digit w ≡ 2 = span-at 2 c.Digit w two refl stop in
    rw len colon
  where
    two : (i : ℕ) → i < 2 → is_of c.Digit (get_or w i 0) ≡ true
    two zero less = fits-at (100 ∷ 100 ∷ 58 ∷ p) w 0 h (omega arith)
    two (suc zero) less = fits-at (100 ∷ 100 ∷ 58 ∷ p) w 1 h (omega arith)
    two (suc (suc i)) less = absurd (omega (arith, less))

-- a length and a key
pub record Known (w : List ℕ) (n b : ℕ) : Type 0 where
  pub len : length w ≡ n
  pub is : key w ≡ b

pub date-known : (w : List ℕ) → is_date w ≡ true → Known w 10 46
unfolding is_date
date-known w h =
    let like : is_like (codes "dddd.dd.dd") w ≡ true = (and_parts (is_like (codes "dddd.dd.dd") w) (is_civil w) h).0 in
    let parts : (eqb (length w) 10 ≡ true) × (is_front (codes "dddd.dd.dd") w ≡ true) = and_parts (eqb (length w) 10) (is_front (codes "dddd.dd.dd") w) like in
    let len : length w ≡ 10 = eqb-true (length w) 10 parts.0 in
    record { len = len; is = dotted-key (codes "dd.dd") w (omega arith) parts.1 }

pub month-known : (w : List ℕ) → is_year_month w ≡ true → Known w 8 46
unfolding is_year_month
month-known w h =
    let like : is_like (codes "dddd.ddm") w ≡ true = (and_parts (is_like (codes "dddd.ddm") w) (is_month w) h).0 in
    let parts : (eqb (length w) 8 ≡ true) × (is_front (codes "dddd.ddm") w ≡ true) = and_parts (eqb (length w) 8) (is_front (codes "dddd.ddm") w) like in
    let len : length w ≡ 8 = eqb-true (length w) 8 parts.0 in
    record { len = len; is = dotted-key (codes "ddm") w (omega arith) parts.1 }

-- a clock has a byte at least, its "D"
clock-some : (n : ℕ) → is_clock_length n ≡ true → 1 ≤ n
clock-some zero h = absurd (cc)
clock-some (suc n) h = omega arith

pub timestamp-known : (w : List ℕ) → is_timestamp w ≡ true → (11 ≤ length w) × (key w ≡ 46)
unfolding is_timestamp
timestamp-known w h =
    let parts : (is_front (codes "dddd.dd.ddDdd:dd:dd.ddddddddd") w ≡ true) × ((ends_clock w 10 && (is_civil w && is_clock 23 w 11)) ≡ true) = and_parts (is_front (codes "dddd.dd.ddDdd:dd:dd.ddddddddd") w) (ends_clock w 10 && (is_civil w && is_clock 23 w 11)) h in
    let ends : ends_clock w 10 ≡ true = (and_parts (ends_clock w 10) (is_civil w && is_clock 23 w 11) parts.1).0 in
    let long : 11 ≤ length w = omega (arith, clock-some (length w - 10) ends) in
    (long, dotted-key (codes "dd.ddDdd:dd:dd.ddddddddd") w (omega arith) parts.0)

pub minute-known : (w : List ℕ) → is_minute w ≡ true → Known w 5 58
unfolding is_minute
minute-known w h =
    let like : is_like (codes "dd:dd") w ≡ true = (and_parts (is_like (codes "dd:dd") w) (is_clock 99 w 0) h).0 in
    let parts : (eqb (length w) 5 ≡ true) × (is_front (codes "dd:dd") w ≡ true) = and_parts (eqb (length w) 5) (is_front (codes "dd:dd") w) like in
    let len : length w ≡ 5 = eqb-true (length w) 5 parts.0 in
    record { len = len; is = colon-key (codes "dd") w (omega arith) parts.1 }

pub second-known : (w : List ℕ) → is_second w ≡ true → Known w 8 58
unfolding is_second
second-known w h =
    let like : is_like (codes "dd:dd:dd") w ≡ true = (and_parts (is_like (codes "dd:dd:dd") w) (is_clock 99 w 0) h).0 in
    let parts : (eqb (length w) 8 ≡ true) × (is_front (codes "dd:dd:dd") w ≡ true) = and_parts (eqb (length w) 8) (is_front (codes "dd:dd:dd") w) like in
    let len : length w ≡ 8 = eqb-true (length w) 8 parts.0 in
    record { len = len; is = colon-key (codes "dd:dd") w (omega arith) parts.1 }

pub time-known : (w : List ℕ) → is_time w ≡ true → Known w 12 58
unfolding is_time
time-known w h =
    let like : is_like (codes "dd:dd:dd.ddd") w ≡ true = (and_parts (is_like (codes "dd:dd:dd.ddd") w) (is_clock 99 w 0) h).0 in
    let parts : (eqb (length w) 12 ≡ true) × (is_front (codes "dd:dd:dd.ddd") w ≡ true) = and_parts (eqb (length w) 12) (is_front (codes "dd:dd:dd.ddd") w) like in
    let len : length w ≡ 12 = eqb-true (length w) 12 parts.0 in
    record { len = len; is = colon-key (codes "dd:dd.ddd") w (omega arith) parts.1 }

pub timespan-known : (w : List ℕ) → is_timespan w ≡ true → key w ≡ 68
unfolding is_timespan
timespan-known w h =
    let a : (is_front (codes "Ddd:dd:dd.ddddddddd") (drop (digits w) w) && (ends_clock w (digits w) && is_clock 23 w (digits w + 1))) ≡ true = (and_parts (nat_le 1 (digits w) && nat_le (digits w) 6) (is_front (codes "Ddd:dd:dd.ddddddddd") (drop (digits w) w) && (ends_clock w (digits w) && is_clock 23 w (digits w + 1))) h).1 in
    let b : (is_front (codes "Ddd:dd:dd.ddddddddd") (drop (digits w) w) ≡ true) × ((ends_clock w (digits w) && is_clock 23 w (digits w + 1)) ≡ true) = and_parts (is_front (codes "Ddd:dd:dd.ddddddddd") (drop (digits w) w)) (ends_clock w (digits w) && is_clock 23 w (digits w + 1)) a in
    let ends : ends_clock w (digits w) ≡ true = (and_parts (ends_clock w (digits w)) (is_clock 23 w (digits w + 1)) b.1).0 in
    let some : digits w < length w = omega (arith, clock-some (length w - digits w) ends) in
    let there : fits 68 (get_or (drop (digits w) w) 0 0) ≡ true = fits-at (codes "Ddd:dd:dd.ddddddddd") (drop (digits w) w) 0 b.0 (omega (arith, length-drop (digits w) w, some)) in
    let first : get_or (drop (digits w) w) 0 0 ≡ get_or w (digits w) 0 = rw (drop-cons w (digits w) 0 some) refl in
    sym first ∙ sym (eqb-true 68 (get_or (drop (digits w) w) 0 0) there)

-- bits are digits
bit-digit : (b : ℕ) → is_of c.Bit b ≡ true → is_of c.Digit b ≡ true
bit-digit b h = ⊎_elim
    (λ zero_is. let e : b ≡ 48 = eqb-true b 48 zero_is in rw e refl)
    (λ one_is. let e : b ≡ 49 = eqb-true b 49 one_is in rw e refl)
    (or_cases (eqb b 48) (eqb b 49) h)

pub bits-known : (w : List ℕ) → get_or w (span c.Bit w) 0 ≡ 98 → key w ≡ 98
bits-known w h =
    let stop : is_of c.Digit (get_or w (span c.Bit w) 0) ≡ false = rw h refl in
    let len : span c.Digit w ≡ span c.Bit w = span-at (span c.Bit w) c.Digit w (λ i less. bit-digit (get_or w i 0) (span-below c.Bit w i less)) refl stop in
    rw len h

pub bytes-known : (w : List ℕ) → begins_bytes w ≡ true → key w ≡ 120
bytes-known w h =
    let parts : (eqb (get_or w 0 0) 48 ≡ true) × (eqb (get_or w 1 0) 120 ≡ true) = and_parts (eqb (get_or w 0 0) 48) (eqb (get_or w 1 0) 120) h in
    let first : get_or w 0 0 ≡ 48 = eqb-true (get_or w 0 0) 48 parts.0 in
    let second : get_or w 1 0 ≡ 120 = eqb-true (get_or w 1 0) 120 parts.1 in
    let stop : is_of c.Digit (get_or w 1 0) ≡ false = rw second refl in
    let len : span c.Digit w ≡ 1 = span-at 1 c.Digit w (one first) refl stop in
    rw len second
  where
    one : get_or w 0 0 ≡ 48 → (i : ℕ) → i < 1 → is_of c.Digit (get_or w i 0) ≡ true
    one first zero less = rw first refl
    one first (suc i) less = absurd (omega (arith, less))

-- keys of whole numbers: none, "-", "N", "W" and the suffixes
abbrev pub number_key : ℕ → Bool
number_key b = eqb b 0 || (eqb b 45 || (eqb b 78 || (eqb b 87 || (eqb b 104 || (eqb b 105 || eqb b 106)))))

-- the special words
pub special-is : (w : List ℕ) → is_special w ≡ true → (P : List ℕ → Type 0) → P (codes "0N") → P (codes "0W") → P (codes "-0W") → P w
unfolding is_special
special-is w h P null most least = ⊎_elim
    (λ a. subst P (sym ((bytes_eq-Decides w (codes "0N")).0 a)) null)
    (λ more. ⊎_elim
    (λ a. subst P (sym ((bytes_eq-Decides w (codes "0W")).0 a)) most)
    (λ a. subst P (sym ((bytes_eq-Decides w (codes "-0W")).0 a)) least)
    (or_cases (bytes_eq w (codes "0W")) (bytes_eq w (codes "-0W")) more))
    (or_cases (bytes_eq w (codes "0N")) (bytes_eq w (codes "0W") || bytes_eq w (codes "-0W")) h)

pub all-digits : (w : List ℕ) → is_digits w ≡ true → (1 ≤ length w) × (digits w ≡ length w)
unfolding is_digits
all-digits w h =
    let parts : (nat_le 1 (length w) ≡ true) × (eqb (digits w) (length w) ≡ true) = and_parts (nat_le 1 (length w)) (eqb (digits w) (length w)) h in
    (leb-true 1 (length w) parts.0, eqb-true (digits w) (length w) parts.1)

-- a word with "-" at its front
signed-key : (w : List ℕ) → get_or w 0 0 ≡ 45 → key w ≡ 45
signed-key w first =
    let stop : is_of c.Digit (get_or w 0 0) ≡ false = rw first refl in
    let len : span c.Digit w ≡ 0 = span-at 0 c.Digit w (λ i less. absurd (omega (arith, less))) refl stop in
    rw len first

pub plain-key : (w : List ℕ) → is_plain w ≡ true → number_key (key w) ≡ true
unfolding is_plain
plain-key w h = ⊎_elim
    (λ special. special-is w special (λ v. number_key (key v) ≡ true) refl refl refl)
    (λ digits_are. go (eqb (get_or w 0 0) 45) refl digits_are)
    (or_cases (is_special w) (is_digits (drop (sign w) w)) h)
  where
    go : (t : Bool) → eqb (get_or w 0 0) 45 ≡ t → is_digits (drop (cond t 1 0) w) ≡ true → number_key (key w) ≡ true
    go true e digits_are = let is : key w ≡ 45 = signed-key w (eqb-true (get_or w 0 0) 45 e) in rw is refl
    go false e digits_are =
        let all : digits w ≡ length w = (all-digits w digits_are).1 in
        let is : key w ≡ 0 = get_or_past w (span c.Digit w) 0 (omega (arith, all)) in
        rw is refl

-- a letter after a whole number
pub lettered-key : (v : List ℕ) (letter : ℕ) → is_plain v ≡ true → number_key letter ≡ true → is_digit letter ≡ false → number_key (key (v ++ letter ∷ [])) ≡ true
unfolding is_plain
lettered-key v letter h known other = ⊎_elim
    (λ special. special-is v special (λ x. number_key (key (x ++ letter ∷ [])) ≡ true) refl refl refl)
    (λ digits_are. go (eqb (get_or v 0 0) 45) refl digits_are)
    (or_cases (is_special v) (is_digits (drop (sign v) v)) h)
  where
    take-all : (x : List ℕ) → take (length x) x ≡ x
    take-all [] = refl
    take-all (b ∷ bs) = ap (λ l. b ∷ l) (take-all bs)

    whole : (x : List ℕ) → span c.Digit x ≡ length x → AllOf c.Digit x
    whole x all = let same : take (span c.Digit x) x ≡ x = rw all (take-all x) in subst (AllOf c.Digit) same (all-taken c.Digit x)

    front-is : (x : List ℕ) → get_or x 0 0 ≡ 45 → get_or (x ++ letter ∷ []) 0 0 ≡ 45
    front-is [] e = absurd (cc)
    front-is (b ∷ bs) e = e

    go : (t : Bool) → eqb (get_or v 0 0) 45 ≡ t → is_digits (drop (cond t 1 0) v) ≡ true → number_key (key (v ++ letter ∷ [])) ≡ true
    go true e digits_are = let is : key (v ++ letter ∷ []) ≡ 45 = signed-key (v ++ letter ∷ []) (front-is v (eqb-true (get_or v 0 0) 45 e)) in rw is refl
    go false e digits_are =
        let all : digits v ≡ length v = (all-digits v digits_are).1 in
        let len : span c.Digit (v ++ letter ∷ []) ≡ length v = span-all c.Digit v (letter ∷ []) (whole v all) other in
        let is : key (v ++ letter ∷ []) ≡ letter = rw len (get_or-append_seam v letter [] 0) in
        rw is known
