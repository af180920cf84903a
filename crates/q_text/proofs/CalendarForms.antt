-- The forms of dates, times and timespans.
use Rattle.std.proofs.Common.{◌≡◌, ℕ, ◌≤◌, Bool, true, false, cond, List, length, eqb, Some, None, refl, sym, ◌∙◌, arith, subst}
use Rattle.std.proofs.lemmas.Bool.{eqb-false, false_from_ne_true}
use Rattle.q_values.specs.declared.kind.IntegerKind.TheVariants as ik
use Rattle.q_values.specs.declared.kind.LongKind.TheVariants as lk
use Rattle.q_text.specs.Forms.{is_date, is_year_month, is_timestamp, is_timespan, is_minute, is_second, is_time, calendar_form, clock_form}
use Rattle.q_text.specs.Grammar.{HasForm}
use Rattle.q_text.specs.declared.kinds.NumberKind.TheVariants as nk
use Rattle.q_text.specs.declared.forms.Form.{Form}
use Rattle.q_text.specs.declared.forms.Form.TheVariants as f
use Rattle.q_text.proofs.Keys.{key, date-known, month-known, timestamp-known, timespan-known, minute-known, second-known, time-known}
use Rattle.q_text.proofs.FormKeys.{apart}

-- no form of these where the key is another
pub calendar-none : (w : List ℕ) → (key w ≡ 46 → ⊥) → calendar_form w ≡ None
unfolding calendar_form
calendar-none w other =
    let d : is_date w ≡ false = false_from_ne_true (is_date w) (λ t. other (date-known w t).is) in
    let m : is_year_month w ≡ false = false_from_ne_true (is_year_month w) (λ t. other (month-known w t).is) in
    let s : is_timestamp w ≡ false = false_from_ne_true (is_timestamp w) (λ t. other (timestamp-known w t).1) in
    rw (d, m, s) refl

pub clock-none : (w : List ℕ) → (key w ≡ 68 → ⊥) → (key w ≡ 58 → ⊥) → clock_form w ≡ None
unfolding clock_form
clock-none w no_span no_colon =
    let a : is_timespan w ≡ false = false_from_ne_true (is_timespan w) (λ t. no_span (timespan-known w t)) in
    let m : is_minute w ≡ false = false_from_ne_true (is_minute w) (λ t. no_colon (minute-known w t).is) in
    let s : is_second w ≡ false = false_from_ne_true (is_second w) (λ t. no_colon (second-known w t).is) in
    let d : is_time w ≡ false = false_from_ne_true (is_time w) (λ t. no_colon (time-known w t).is) in
    rw (a, m, s, d) refl

-- words of two lengths
lengths : (w : List ℕ) (n m : ℕ) → length w ≡ n → eqb n m ≡ false → length w ≡ m → ⊥
lengths w n m is differ other = eqb-false n m differ (sym is ∙ other)

pub date-found : (w : List ℕ) → is_date w ≡ true → calendar_form w ≡ Some (f.Item (nk.Integers ik.Date))
unfolding calendar_form
date-found w h = rw h refl

pub month-found : (w : List ℕ) → is_year_month w ≡ true → calendar_form w ≡ Some (f.Item (nk.Integers ik.Month))
unfolding calendar_form
month-found w h =
    let d : is_date w ≡ false = false_from_ne_true (is_date w) (λ t. lengths w 8 10 (month-known w h).len refl (date-known w t).len) in
    rw (d, h) refl

pub timestamp-found : (w : List ℕ) → is_timestamp w ≡ true → calendar_form w ≡ Some (f.Item (nk.Longs lk.Timestamp))
unfolding calendar_form
timestamp-found w h =
    let long : 11 ≤ length w = (timestamp-known w h).0 in
    let d : is_date w ≡ false = false_from_ne_true (is_date w) (λ t. omega (arith, long, (date-known w t).len)) in
    let m : is_year_month w ≡ false = false_from_ne_true (is_year_month w) (λ t. omega (arith, long, (month-known w t).len)) in
    rw (d, m, h) refl

pub timespan-found : (w : List ℕ) → is_timespan w ≡ true → clock_form w ≡ Some (f.Item (nk.Longs lk.Timespan))
unfolding clock_form
timespan-found w h = rw h refl

no-timespan : (w : List ℕ) → key w ≡ 58 → is_timespan w ≡ false
no-timespan w known = false_from_ne_true (is_timespan w) (λ t. apart w 58 68 known refl (timespan-known w t))

pub minute-found : (w : List ℕ) → is_minute w ≡ true → clock_form w ≡ Some (f.Item (nk.Integers ik.Minute))
unfolding clock_form
minute-found w h = rw (no-timespan w (minute-known w h).is, h) refl

pub second-found : (w : List ℕ) → is_second w ≡ true → clock_form w ≡ Some (f.Item (nk.Integers ik.Second))
unfolding clock_form
second-found w h =
    let m : is_minute w ≡ false = false_from_ne_true (is_minute w) (λ t. lengths w 8 5 (second-known w h).len refl (minute-known w t).len) in
    rw (no-timespan w (second-known w h).is, m, h) refl

pub time-found : (w : List ℕ) → is_time w ≡ true → clock_form w ≡ Some (f.Item (nk.Integers ik.Time))
unfolding clock_form
time-found w h =
    let m : is_minute w ≡ false = false_from_ne_true (is_minute w) (λ t. lengths w 12 5 (time-known w h).len refl (minute-known w t).len) in
    let s : is_second w ≡ false = false_from_ne_true (is_second w) (λ t. lengths w 12 8 (time-known w h).len refl (second-known w t).len) in
    rw (no-timespan w (time-known w h).is, m, s, h) refl

pub calendar-sound : (w : List ℕ) (form : Form) → calendar_form w ≡ Some form → HasForm form w
unfolding calendar_form
calendar-sound w form h = go (is_date w) refl (is_year_month w) refl (is_timestamp w) refl h
  where
    go : (d : Bool) → is_date w ≡ d → (m : Bool) → is_year_month w ≡ m → (s : Bool) → is_timestamp w ≡ s
        → cond d (Some (f.Item (nk.Integers ik.Date))) (cond m (Some (f.Item (nk.Integers ik.Month))) (cond s (Some (f.Item (nk.Longs lk.Timestamp))) None)) ≡ Some form → HasForm form w
    go true d m e s k h = let Q : Form → Type 0 = λ g. HasForm g w in let same : f.Item (nk.Integers ik.Date) ≡ form = cc in subst Q same d
    go false d true e s k h = let Q : Form → Type 0 = λ g. HasForm g w in let same : f.Item (nk.Integers ik.Month) ≡ form = cc in subst Q same e
    go false d false e true k h = let Q : Form → Type 0 = λ g. HasForm g w in let same : f.Item (nk.Longs lk.Timestamp) ≡ form = cc in subst Q same k
    go false d false e false k h = absurd (cc)

pub clock-sound : (w : List ℕ) (form : Form) → clock_form w ≡ Some form → HasForm form w
unfolding clock_form
clock-sound w form h = go (is_timespan w) refl (is_minute w) refl (is_second w) refl (is_time w) refl h
  where
    go : (a : Bool) → is_timespan w ≡ a → (m : Bool) → is_minute w ≡ m → (s : Bool) → is_second w ≡ s → (t : Bool) → is_time w ≡ t
        → cond a (Some (f.Item (nk.Longs lk.Timespan))) (cond m (Some (f.Item (nk.Integers ik.Minute))) (cond s (Some (f.Item (nk.Integers ik.Second))) (cond t (Some (f.Item (nk.Integers ik.Time))) None))) ≡ Some form → HasForm form w
    go true a m e s k t l h = let Q : Form → Type 0 = λ g. HasForm g w in let same : f.Item (nk.Longs lk.Timespan) ≡ form = cc in subst Q same a
    go false a true e s k t l h = let Q : Form → Type 0 = λ g. HasForm g w in let same : f.Item (nk.Integers ik.Minute) ≡ form = cc in subst Q same e
    go false a false e true k t l h = let Q : Form → Type 0 = λ g. HasForm g w in let same : f.Item (nk.Integers ik.Second) ≡ form = cc in subst Q same k
    go false a false e false k true l h = let Q : Form → Type 0 = λ g. HasForm g w in let same : f.Item (nk.Integers ik.Time) ≡ form = cc in subst Q same l
    go false a false e false k false l h = absurd (cc)
