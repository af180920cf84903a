-- A word has at most one form, and that is the form found in it.
use Rattle.std.proofs.Common.{◌≡◌, ℕ, true, false, List, [], ◌∷◌, ◌++◌, eqb, Some, refl, arith, ⊎_elim}
use Rattle.q_values.specs.declared.kind.IntegerKind.TheVariants as ik
use Rattle.q_values.specs.declared.kind.LongKind.TheVariants as lk
use Rattle.q_text.specs.Forms.{either, calendar_form, clock_form, bits_form, bytes_form, number_form, form_of}
use Rattle.q_text.specs.Grammar.{HasForm}
use Rattle.q_text.specs.Laws.{WordsHaveOneForm}
use Rattle.q_text.specs.declared.kinds.NumberKind.TheVariants as nk
use Rattle.q_text.specs.declared.forms.Form.{Form}
use Rattle.q_text.specs.declared.forms.Form.TheVariants as f
use Rattle.q_text.proofs.Keys.{key, number_key, timespan-known, minute-known, second-known, time-known, plain-key, lettered-key}
use Rattle.q_text.proofs.FormKeys.{either-cases, apart, number-apart}
use Rattle.q_text.proofs.CalendarForms.{calendar-none, clock-none, date-found, month-found, timestamp-found, timespan-found, minute-found, second-found, time-found, calendar-sound, clock-sound}
use Rattle.q_text.proofs.BitForms.{bits-none, bits-sound, bits-key, bits-item, bits-row}
use Rattle.q_text.proofs.ByteForms.{bytes-none, bytes-sound, bytes-item, bytes-row}
use Rattle.q_text.proofs.NumberForms.{Suffix, suffix-known, number-sound, suffixed-complete, special-complete, special-key, whole-found}

-- each form is found where none before it is
at-number : (w : List ℕ) (form : Form) → number_key (key w) ≡ true → number_form w ≡ Some form → form_of w ≡ Some form
unfolding form_of
at-number w form known h =
    rw (calendar-none w (number-apart w 46 known refl), clock-none w (number-apart w 68 known refl) (number-apart w 58 known refl), bits-none w (number-apart w 98 known refl), bytes-none w (number-apart w 120 known refl)) h

at-bytes : (w : List ℕ) (form : Form) → key w ≡ 120 → bytes_form w ≡ Some form → form_of w ≡ Some form
unfolding form_of
at-bytes w form known h =
    rw (calendar-none w (apart w 120 46 known refl), clock-none w (apart w 120 68 known refl) (apart w 120 58 known refl), bits-none w (apart w 120 98 known refl), h) refl

at-bits : (w : List ℕ) (form : Form) → key w ≡ 98 → bits_form w ≡ Some form → form_of w ≡ Some form
unfolding form_of
at-bits w form known h =
    rw (calendar-none w (apart w 98 46 known refl), clock-none w (apart w 98 68 known refl) (apart w 98 58 known refl), h) refl

at-clock : (w : List ℕ) (form : Form) (b : ℕ) → key w ≡ b → eqb b 46 ≡ false → clock_form w ≡ Some form → form_of w ≡ Some form
unfolding form_of
at-clock w form b known other h = rw (calendar-none w (apart w b 46 known other), h) refl

at-calendar : (w : List ℕ) (form : Form) → calendar_form w ≡ Some form → form_of w ≡ Some form
unfolding form_of
at-calendar w form h = rw h refl

pub form-sound : (form : Form) (w : List ℕ) → form_of w ≡ Some form → HasForm form w
unfolding form_of
form-sound form w h = ⊎_elim
    (λ calendar. calendar-sound w form calendar)
    (λ a. ⊎_elim
    (λ clock. clock-sound w form clock)
    (λ b. ⊎_elim
    (λ bits. bits-sound w form bits)
    (λ d. ⊎_elim
    (λ bytes. bytes-sound w form bytes)
    (λ e. number-sound w form e.1)
    (either-cases (bytes_form w) (number_form w) form d.1))
    (either-cases (bits_form w) (either (bytes_form w) (number_form w)) form b.1))
    (either-cases (clock_form w) (either (bits_form w) (either (bytes_form w) (number_form w))) form a.1))
    (either-cases (calendar_form w) (either (clock_form w) (either (bits_form w) (either (bytes_form w) (number_form w)))) form h)

pub form-complete : (form : Form) (w : List ℕ) → HasForm form w → form_of w ≡ Some form
form-complete (f.Item (nk.Integers ik.Month)) w h = at-calendar w (f.Item (nk.Integers ik.Month)) (month-found w h)
form-complete (f.Item (nk.Integers ik.Date)) w h = at-calendar w (f.Item (nk.Integers ik.Date)) (date-found w h)
form-complete (f.Item (nk.Integers ik.Minute)) w h = at-clock w (f.Item (nk.Integers ik.Minute)) 58 (minute-known w h).is refl (minute-found w h)
form-complete (f.Item (nk.Integers ik.Second)) w h = at-clock w (f.Item (nk.Integers ik.Second)) 58 (second-known w h).is refl (second-found w h)
form-complete (f.Item (nk.Integers ik.Time)) w h = at-clock w (f.Item (nk.Integers ik.Time)) 58 (time-known w h).is refl (time-found w h)
form-complete (f.Item (nk.Integers ik.Integer)) w h = absurd h
form-complete (f.Item (nk.Longs lk.Timestamp)) w h = at-calendar w (f.Item (nk.Longs lk.Timestamp)) (timestamp-found w h)
form-complete (f.Item (nk.Longs lk.Timespan)) w h = at-clock w (f.Item (nk.Longs lk.Timespan)) 68 (timespan-known w h) refl (timespan-found w h)
form-complete (f.Item (nk.Longs lk.Long)) w h = absurd h
form-complete (f.Item nk.Boolean) w (bits, source, all, many) = rw source (at-bits (bits ++ 98 ∷ []) (f.Item nk.Boolean) (bits-key bits all (omega (arith, many))) (bits-item bits all many))
form-complete (f.Row nk.Boolean) w (bits, source, all, many) = rw source (at-bits (bits ++ 98 ∷ []) (f.Row nk.Boolean) (bits-key bits all (omega (arith, many))) (bits-row bits all many))
form-complete (f.Item nk.Byte) w (hex, source, all, many) = rw source (at-bytes (48 ∷ 120 ∷ hex) (f.Item nk.Byte) refl (bytes-item hex all many))
form-complete (f.Row nk.Byte) w (hex, source, all, many) = rw source (at-bytes (48 ∷ 120 ∷ hex) (f.Row nk.Byte) refl (bytes-row hex all many.0 many.1))
form-complete (f.Item nk.Short) w h = absurd h
form-complete (f.Row nk.Short) w h = absurd h
form-complete (f.Row (nk.Integers kind)) w h = absurd h
form-complete (f.Row (nk.Longs kind)) w h = absurd h
form-complete f.Whole w h = at-number w f.Whole (plain-key w h) (whole-found w h)
form-complete (f.Suffixed kind) w (v, letter, source, plain, e) =
    let s : Suffix (f.Suffixed kind) letter = suffix-known letter (f.Suffixed kind) e in
    rw source (at-number (v ++ letter ∷ []) (f.Suffixed kind) (lettered-key v letter plain s.known s.other) (suffixed-complete v letter kind plain e))
form-complete (f.Special kind) w (v, letter, source, special, e) =
    rw source (at-number (v ++ letter ∷ []) (f.Special kind) (special-key v letter special) (special-complete v letter kind special e))

pub one-form : WordsHaveOneForm
one-form form w = (form-sound form w, form-complete form w)
