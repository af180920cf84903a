-- A written date is read back.
use Rattle.std.proofs.Common.{◌≡◌, ℕ, suc, ◌+◌, ◌-◌, ◌*◌, ◌/◌, ◌%◌, ◌<◌, ◌≤◌, true, false, nat_le, eqb, List, [], ◌∷◌, length, codes, drop, take, get_or, Some, None, refl, sym, ap, ◌∙◌, arith, subst, ℤ, pos, negsuc, ◌+ℤ◌, ◌≤ℤ◌, unsigned_abs}
use Rattle.std.proofs.lemmas.Bool.Decides.{nat_tests}
use Rattle.jiff_core.specs.Calendar.{days_from_civil, days_in_month, IsCivilDate}
use Rattle.jiff_core.proofs.SignedLemmas.{signed_arith}
use Rattle.jiff_core.proofs.CalendarLemmas.{days_in_month_bounds}
use Rattle.q_values.specs.Tree.{atom}
use Rattle.q_values.specs.declared.atom.Atom.TheVariants as a
use Rattle.q_values.specs.declared.kind.IntegerKind.TheVariants as ik
use Rattle.q_text.specs.Words.{is_digit, word_at, word_end}
use Rattle.q_text.specs.Forms.{is_date, is_civil, is_like, form_of, calendar_form, year_of, month_of, day_of}
use Rattle.q_text.specs.Runs.{run_of, next_form}
use Rattle.q_text.specs.Numbers.{numbers_from, numbers_as, temporal, in_range, days_of}
use Rattle.q_text.specs.Literal.{literal_at, numbers_at, starts_literal}
use Rattle.q_text.specs.Dates.{IsDay, IsPlantDate, date_text, written_digit}
use Rattle.q_text.specs.Laws.{WrittenDatesAreRead}
use Rattle.q_text.specs.declared.forms.Form.TheVariants as f
use Rattle.q_text.specs.declared.kinds.NumberKind.TheVariants as nk
use Rattle.q_text.specs.declared.runs.Run.{Run}
use Rattle.q_text.proofs.Followers.{followers-none}
use Rattle.q_text.proofs.Openings.{word-digit}

-- ten bytes with dots after the fourth and the sixth digit
abbrev dotted : ℕ → ℕ → ℕ → ℕ → ℕ → ℕ → ℕ → ℕ → List ℕ
dotted y₁ y₂ y₃ y₄ m₁ m₂ d₁ d₂ = y₁ ∷ y₂ ∷ y₃ ∷ y₄ ∷ 46 ∷ m₁ ∷ m₂ ∷ 46 ∷ d₁ ∷ d₂ ∷ []

-- the word is the whole text
word_end-dotted : (y₁ y₂ y₃ y₄ m₁ m₂ d₁ d₂ : ℕ) → is_digit y₁ ≡ true → is_digit y₂ ≡ true → is_digit y₃ ≡ true → is_digit y₄ ≡ true → is_digit m₁ ≡ true → is_digit m₂ ≡ true → is_digit d₁ ≡ true → is_digit d₂ ≡ true → eqb y₁ 45 ≡ false
    → word_end (dotted y₁ y₂ y₃ y₄ m₁ m₂ d₁ d₂) 0 ≡ 10
word_end-dotted y₁ y₂ y₃ y₄ m₁ m₂ d₁ d₂ h₁ h₂ h₃ h₄ h₅ h₆ h₇ h₈ sign =
    rw (sign, word-digit y₁ h₁, word-digit y₂ h₂, word-digit y₃ h₃, word-digit y₄ h₄, word-digit m₁ h₅, word-digit m₂ h₆, word-digit d₁ h₇, word-digit d₂ h₈) refl

is_like-dotted : (y₁ y₂ y₃ y₄ m₁ m₂ d₁ d₂ : ℕ) → is_digit y₁ ≡ true → is_digit y₂ ≡ true → is_digit y₃ ≡ true → is_digit y₄ ≡ true → is_digit m₁ ≡ true → is_digit m₂ ≡ true → is_digit d₁ ≡ true → is_digit d₂ ≡ true
    → is_like (codes "dddd.dd.dd") (dotted y₁ y₂ y₃ y₄ m₁ m₂ d₁ d₂) ≡ true
is_like-dotted y₁ y₂ y₃ y₄ m₁ m₂ d₁ d₂ h₁ h₂ h₃ h₄ h₅ h₆ h₇ h₈ = rw (h₁, h₂, h₃, h₄, h₅, h₆, h₇, h₈) refl

form-date : (w : List ℕ) → is_date w ≡ true → form_of w ≡ Some (f.Item (nk.Integers ik.Date))
unfolding form_of calendar_form
form-date w h = rw h refl

-- a word that nothing follows is a run by itself
run-alone : (text : List ℕ) (end : ℕ) → next_form text end ≡ None → run_of (f.Item (nk.Integers ik.Date)) text end ≡ Some (record { kind = nk.Integers ik.Date; count = 1; end = end })
unfolding run_of
run-alone text end h = rw (followers-none (length text) (f.Item (nk.Integers ik.Date)) text end (rw h refl)) refl

number-date : (w : List ℕ) (z : ℤ) → is_civil w ≡ true → days_of w ≡ z → nat_le (unsigned_abs z) 2147483647 ≡ true → numbers_as (f.Item (nk.Integers ik.Date)) (nk.Integers ik.Date) w ≡ Some (z ∷ [])
unfolding numbers_as temporal in_range
number-date w z civil is small = rw (civil, is, small) refl

numbers-date : (text w : List ℕ) (z : ℤ) → word_at text 0 ≡ w → numbers_as (f.Item (nk.Integers ik.Date)) (nk.Integers ik.Date) w ≡ Some (z ∷ []) → numbers_from 1 (f.Item (nk.Integers ik.Date)) (nk.Integers ik.Date) text 0 ≡ Some (z ∷ [])
unfolding numbers_from
numbers-date text w z word h = rw (word, h) refl

digit-written : (n : ℕ) → is_digit (written_digit n) ≡ true
digit-written n = grind (arith, nat_tests)

not-sign : (n k : ℕ) → k < 48 → eqb (written_digit n) k ≡ false
not-sign n k h = grind (arith, nat_tests)

not-tick : (n k : ℕ) → 57 < k → eqb (written_digit n) k ≡ false
not-tick n k h = grind (arith, nat_tests)

-- the two digits of a number below 100
pair-written : (n : ℕ) → n < 100 → 10 * (written_digit (n / 10) - 48) + (written_digit n - 48) ≡ n
pair-written n h = omega arith

-- and those of a longer number
pair-last : (n : ℕ) → 10 * (written_digit (n / 10) - 48) + (written_digit n - 48) ≡ n % 100
pair-last n = omega arith

year_of-written : (year month day : ℕ) → year ≤ 9999 → year_of (date_text year month day) ≡ year
unfolding year_of
year_of-written year month day h =
    let goal : 100 * (10 * (written_digit (year / 100 / 10) - 48) + (written_digit (year / 100) - 48)) + (10 * (written_digit (year / 10) - 48) + (written_digit year - 48)) ≡ year =
    omega (arith, pair-written (year / 100) (omega (arith, h)), pair-last year) in
    goal

month_of-written : (year month day : ℕ) → month < 100 → month_of (date_text year month day) ≡ month
unfolding month_of
month_of-written year month day h = pair-written month h

day_of-written : (year month day : ℕ) → day < 100 → day_of (date_text year month day) ≡ day
unfolding day_of
day_of-written year month day h = pair-written day h

le-test : (a b : ℕ) → a ≤ b → nat_le a b ≡ true
le-test a b h = grind (arith, nat_tests)

year-below : (year : ℕ) → pos year ≤ℤ pos 9999 → year ≤ 9999
year-below year h = omega (arith, signed_arith, h)

is_civil-written : (w : List ℕ) (year month day : ℕ) → year_of w ≡ year → month_of w ≡ month → day_of w ≡ day → IsCivilDate (pos year) month day → 1 ≤ year → is_civil w ≡ true
is_civil-written w year month day y m d civil positive =
    rw (y, m, d, le-test 1 year positive, le-test year 9999 (year-below year civil.0.1), le-test 1 month civil.1.0, le-test month 12 civil.1.1, le-test 1 day civil.2.0, le-test day (days_in_month (pos year) month) civil.2.1) refl

days_of-written : (w : List ℕ) (date : ℤ) (year month day : ℕ) → year_of w ≡ year → month_of w ≡ month → day_of w ≡ day → days_from_civil (pos year) month day ≡ date +ℤ pos 10957 → days_of w ≡ date
unfolding days_of
days_of-written w date year month day y m d number = rw (y, m, d, number) (omega (arith, signed_arith))

starts-digit : (text : List ℕ) → is_digit (get_or text 0 0) ≡ true → starts_literal text 0 ≡ true
unfolding starts_literal
starts-digit text h = rw h refl

literal_at-number : (text : List ℕ) → starts_literal text 0 ≡ true → eqb (get_or text 0 0) 96 ≡ false → eqb (get_or text 0 0) 34 ≡ false → literal_at text 0 ≡ numbers_at text 0
unfolding literal_at
literal_at-number text s t q = rw (s, t, q) refl

small : (date : ℤ) → IsPlantDate date → nat_le (unsigned_abs date) 2147483647 ≡ true
small (pos n) h = le-test n 2147483647 (omega (arith, signed_arith, h.1))
small (negsuc n) h = le-test (suc n) 2147483647 (omega (arith, signed_arith, h.0))

abbrev date_run : Run
date_run = record { kind = nk.Integers ik.Date; count = 1; end = 10 }

numbers_at-date : (w : List ℕ) (date : ℤ) → word_end w 0 ≡ 10 → word_at w 0 ≡ w → form_of w ≡ Some (f.Item (nk.Integers ik.Date)) → run_of (f.Item (nk.Integers ik.Date)) w 10 ≡ Some date_run
    → numbers_from 1 (f.Item (nk.Integers ik.Date)) (nk.Integers ik.Date) w 0 ≡ Some (date ∷ []) → numbers_at w 0 ≡ Some (record { value = atom (a.Date date); end = 10 })
unfolding numbers_at
numbers_at-date w date end word form run numbers = rw (word, form, end, run, numbers) refl

ends-there : (y₁ y₂ y₃ y₄ m₁ m₂ d₁ d₂ : ℕ) → next_form (dotted y₁ y₂ y₃ y₄ m₁ m₂ d₁ d₂) 10 ≡ None
unfolding next_form
ends-there y₁ y₂ y₃ y₄ m₁ m₂ d₁ d₂ = refl

is-word : (y₁ y₂ y₃ y₄ m₁ m₂ d₁ d₂ : ℕ) → word_end (dotted y₁ y₂ y₃ y₄ m₁ m₂ d₁ d₂) 0 ≡ 10 → word_at (dotted y₁ y₂ y₃ y₄ m₁ m₂ d₁ d₂) 0 ≡ dotted y₁ y₂ y₃ y₄ m₁ m₂ d₁ d₂
is-word y₁ y₂ y₃ y₄ m₁ m₂ d₁ d₂ end = ap (λ n. take (n - 0) (drop 0 (dotted y₁ y₂ y₃ y₄ m₁ m₂ d₁ d₂))) end

is_date-from : (w : List ℕ) → is_like (codes "dddd.dd.dd") w ≡ true → is_civil w ≡ true → is_date w ≡ true
unfolding is_date
is_date-from w like civil = rw (like, civil) refl

few : (year month : ℕ) → days_in_month (pos year) month < 100
few year month = omega (arith, (days_in_month_bounds (pos year) month).0)

date-read : (date : ℤ) (year month day : ℕ) → IsPlantDate date → IsDay date year month day → literal_at (date_text year month day) 0 ≡ Some (record { value = atom (a.Date date); end = 10 })
date-read date year month day range is =
    let w : List ℕ = date_text year month day in
    let d : (n : ℕ) → is_digit (written_digit n) ≡ true = digit-written in
    let y : year_of w ≡ year = year_of-written year month day (year-below year is.civil.0.1) in
    let m : month_of w ≡ month = month_of-written year month day (omega (arith, is.civil.1.1)) in
    let low : days_in_month (pos year) month < 100 = few year month in
    let e : day_of w ≡ day = day_of-written year month day (omega (arith, is.civil.2.1, low)) in
    let civil : is_civil w ≡ true = is_civil-written w year month day y m e is.civil is.positive in
    let days : days_of w ≡ date = days_of-written w date year month day y m e is.number in
    let like : is_like (codes "dddd.dd.dd") w ≡ true = is_like-dotted (written_digit (year / 100 / 10)) (written_digit (year / 100)) (written_digit (year / 10)) (written_digit year) (written_digit (month / 10)) (written_digit month) (written_digit (day / 10)) (written_digit day) (d (year / 100 / 10)) (d (year / 100)) (d (year / 10)) (d year) (d (month / 10)) (d month) (d (day / 10)) (d day) in
    let end : word_end w 0 ≡ 10 = word_end-dotted (written_digit (year / 100 / 10)) (written_digit (year / 100)) (written_digit (year / 10)) (written_digit year) (written_digit (month / 10)) (written_digit month) (written_digit (day / 10)) (written_digit day) (d (year / 100 / 10)) (d (year / 100)) (d (year / 10)) (d year) (d (month / 10)) (d month) (d (day / 10)) (d day) (not-sign (year / 100 / 10) 45 (omega arith)) in
    let word : word_at w 0 ≡ w = is-word (written_digit (year / 100 / 10)) (written_digit (year / 100)) (written_digit (year / 10)) (written_digit year) (written_digit (month / 10)) (written_digit month) (written_digit (day / 10)) (written_digit day) end in
    let form : form_of w ≡ Some (f.Item (nk.Integers ik.Date)) = form-date w (is_date-from w like civil) in
    let run : run_of (f.Item (nk.Integers ik.Date)) w 10 ≡ Some date_run = run-alone w 10 (ends-there (written_digit (year / 100 / 10)) (written_digit (year / 100)) (written_digit (year / 10)) (written_digit year) (written_digit (month / 10)) (written_digit month) (written_digit (day / 10)) (written_digit day)) in
    let numbers : numbers_from 1 (f.Item (nk.Integers ik.Date)) (nk.Integers ik.Date) w 0 ≡ Some (date ∷ []) = numbers-date w w date word (number-date w date civil days (small date range)) in
    literal_at-number w (starts-digit w (d (year / 100 / 10))) (not-tick (year / 100 / 10) 96 (omega arith)) (not-sign (year / 100 / 10) 34 (omega arith)) ∙ numbers_at-date w date end word form run numbers

pub written-read : WrittenDatesAreRead
written-read date text range spells =
    let P : List ℕ → Type 0 = λ l. literal_at l 0 ≡ Some (record { value = atom (a.Date date); end = 10 }) in
    subst P (sym spells.text_is) (date-read date spells.year spells.month spells.day range spells.is_day)
