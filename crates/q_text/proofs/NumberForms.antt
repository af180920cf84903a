-- The forms of whole numbers, nulls and infinities.
use Rattle.std.proofs.Common.{◌≡◌, ℕ, suc, ◌+◌, ◌-◌, ◌≤◌, Bool, true, false, cond, List, [], ◌∷◌, ◌++◌, length, take, drop, get_or, eqb, Some, None, refl, sym, ap, ◌∙◌, arith, ⊎_elim, subst}
use Rattle.std.proofs.Math.Seq.{take-suc, take-append_seam, get_or-append_seam}
use Rattle.std.proofs.lemmas.Bool.{eqb-true, eqb-false, or_cases, false_from_ne_true}
use Rattle.std.proofs.lemmas.List.{length-append, length-drop, length-take, get_or-drop}
use Rattle.q_values.specs.declared.kind.IntegerKind.TheVariants as ik
use Rattle.q_values.specs.declared.kind.LongKind.TheVariants as lk
use Rattle.q_text.specs.Words.{is_digit, is_of}
use Rattle.q_text.specs.Forms.{is_special, is_digits, is_plain, sign, front, last, suffix_form, letter_form, lettered_form, number_form}
use Rattle.q_text.specs.Grammar.{HasForm}
use Rattle.q_text.specs.declared.kinds.NumberKind.{NumberKind}
use Rattle.q_text.specs.declared.kinds.NumberKind.TheVariants as nk
use Rattle.q_text.specs.declared.words.Class.TheVariants as c
use Rattle.q_text.specs.declared.forms.Form.{Form}
use Rattle.q_text.specs.declared.forms.Form.TheVariants as f
use Rattle.q_text.proofs.Keys.{key, number_key, special-is, all-digits, span-below}
use Rattle.q_text.proofs.FormKeys.{either-cases}

-- all but the last byte, and the last
front-last : (w : List ℕ) → 1 ≤ length w → front w ++ last w ∷ [] ≡ w
front-last w some =
    let e : suc (length w - 1) ≡ length w = omega arith in
    sym (take-suc w (length w - 1) 0 (omega arith)) ∙ (rw e (take-all w))
  where
    take-all : (x : List ℕ) → take (length x) x ≡ x
    take-all [] = refl
    take-all (b ∷ bs) = ap (λ l. b ∷ l) (take-all bs)

last-index : (v : List ℕ) (letter : ℕ) → length (v ++ letter ∷ []) - 1 ≡ length v
last-index v letter = omega (arith, length-append v (letter ∷ []))

front-is : (v : List ℕ) (letter : ℕ) → front (v ++ letter ∷ []) ≡ v
front-is v letter = rw (last-index v letter) (take-append_seam v (letter ∷ []))

last-is : (v : List ℕ) (letter : ℕ) → last (v ++ letter ∷ []) ≡ letter
last-is v letter = rw (last-index v letter) (get_or-append_seam v letter [] 0)

pub record Suffix (form : Form) (b : ℕ) : Type 0 where
  pub kind : NumberKind
  pub is : form ≡ f.Suffixed kind
  pub known : number_key b ≡ true
  pub other : is_digit b ≡ false
  pub apart_N : eqb b 78 ≡ false
  pub apart_W : eqb b 87 ≡ false

suffix-at : (n : ℕ) (kind : NumberKind) (b : ℕ) (form : Form) → eqb b n ≡ true → number_key n ≡ true → is_digit n ≡ false → eqb n 78 ≡ false → eqb n 87 ≡ false → Some (f.Suffixed kind) ≡ Some form → Suffix form b
suffix-at n kind b form e known other no_n no_w h =
    let is : b ≡ n = eqb-true b n e in
    let same : form ≡ f.Suffixed kind = cc in
    record { kind = kind; is = same; known = rw is known; other = rw is other; apart_N = rw is no_n; apart_W = rw is no_w }

pub suffix-known : (b : ℕ) (form : Form) → suffix_form b ≡ Some form → Suffix form b
suffix-known b form h = go (eqb b 104) refl (eqb b 105) refl (eqb b 106) refl h
  where
    go : (x : Bool) → eqb b 104 ≡ x → (y : Bool) → eqb b 105 ≡ y → (z : Bool) → eqb b 106 ≡ z
        → cond x (Some (f.Suffixed nk.Short)) (cond y (Some (f.Suffixed (nk.Integers ik.Integer))) (cond z (Some (f.Suffixed (nk.Longs lk.Long))) None)) ≡ Some form → Suffix form b
    go true p y q z r h = suffix-at 104 nk.Short b form p refl refl refl refl h
    go false p true q z r h = suffix-at 105 (nk.Integers ik.Integer) b form q refl refl refl refl h
    go false p false q true r h = suffix-at 106 (nk.Longs lk.Long) b form r refl refl refl refl h
    go false p false q false r h = absurd (cc)

record Letter (form : Form) (b : ℕ) : Type 0 where
  kind : NumberKind
  is : form ≡ f.Special kind
  no_suffix : suffix_form b ≡ None
  other : is_digit b ≡ false
  apart_N : eqb b 78 ≡ false
  apart_W : eqb b 87 ≡ false

letter-at : (n : ℕ) (kind : NumberKind) (b : ℕ) (form : Form) → eqb b n ≡ true → suffix_form n ≡ None → is_digit n ≡ false → eqb n 78 ≡ false → eqb n 87 ≡ false → Some (f.Special kind) ≡ Some form → Letter form b
letter-at n kind b form e none other no_n no_w h =
    let is : b ≡ n = eqb-true b n e in
    let same : form ≡ f.Special kind = cc in
    record { kind = kind; is = same; no_suffix = rw is none; other = rw is other; apart_N = rw is no_n; apart_W = rw is no_w }

letter-known : (b : ℕ) (form : Form) → letter_form b ≡ Some form → Letter form b
letter-known b form h = go (eqb b 112) refl (eqb b 109) refl (eqb b 100) refl (eqb b 110) refl (eqb b 117) refl (eqb b 118) refl (eqb b 116) refl h
  where
    go : (p : Bool) → eqb b 112 ≡ p → (m : Bool) → eqb b 109 ≡ m → (d : Bool) → eqb b 100 ≡ d → (n : Bool) → eqb b 110 ≡ n → (u : Bool) → eqb b 117 ≡ u → (v : Bool) → eqb b 118 ≡ v → (t : Bool) → eqb b 116 ≡ t
        → cond p (Some (f.Special (nk.Longs lk.Timestamp))) (cond m (Some (f.Special (nk.Integers ik.Month))) (cond d (Some (f.Special (nk.Integers ik.Date))) (cond n (Some (f.Special (nk.Longs lk.Timespan))) (cond u (Some (f.Special (nk.Integers ik.Minute))) (cond v (Some (f.Special (nk.Integers ik.Second))) (cond t (Some (f.Special (nk.Integers ik.Time))) None)))))) ≡ Some form → Letter form b
    go true e₁ m e₂ d e₃ n e₄ u e₅ v e₆ t e₇ h = letter-at 112 (nk.Longs lk.Timestamp) b form e₁ refl refl refl refl h
    go false e₁ true e₂ d e₃ n e₄ u e₅ v e₆ t e₇ h = letter-at 109 (nk.Integers ik.Month) b form e₂ refl refl refl refl h
    go false e₁ false e₂ true e₃ n e₄ u e₅ v e₆ t e₇ h = letter-at 100 (nk.Integers ik.Date) b form e₃ refl refl refl refl h
    go false e₁ false e₂ false e₃ true e₄ u e₅ v e₆ t e₇ h = letter-at 110 (nk.Longs lk.Timespan) b form e₄ refl refl refl refl h
    go false e₁ false e₂ false e₃ false e₄ true e₅ v e₆ t e₇ h = letter-at 117 (nk.Integers ik.Minute) b form e₅ refl refl refl refl h
    go false e₁ false e₂ false e₃ false e₄ false e₅ true e₆ t e₇ h = letter-at 118 (nk.Integers ik.Second) b form e₆ refl refl refl refl h
    go false e₁ false e₂ false e₃ false e₄ false e₅ false e₆ true e₇ h = letter-at 116 (nk.Integers ik.Time) b form e₇ refl refl refl refl h
    go false e₁ false e₂ false e₃ false e₄ false e₅ false e₆ false e₇ h = absurd (cc)

-- a special word is a whole number
special-plain : (w : List ℕ) → is_special w ≡ true → is_plain w ≡ true
unfolding is_plain
special-plain w h = rw h refl

-- the last byte of a whole number
plain-last : (v : List ℕ) (letter : ℕ) → is_plain (v ++ letter ∷ []) ≡ true → is_digit letter ≡ false → eqb letter 78 ≡ false → eqb letter 87 ≡ false → ⊥
unfolding is_plain
plain-last v letter h other no_n no_w =
    let w : List ℕ = v ++ letter ∷ [] in
    let l : last w ≡ letter = last-is v letter in
    ⊎_elim
    (λ special. ends w l special)
    (λ all. digits-last w l (eqb (get_or w 0 0) 45) all)
    (or_cases (is_special w) (is_digits (drop (sign w) w)) h)
  where
    ends : (w : List ℕ) → last w ≡ letter → is_special w ≡ true → ⊥
    ends w l special =
        let P : List ℕ → Type 0 = λ x. last x ≡ letter → ⊥ in
        special-is w special P (λ e. eqb-false letter 78 no_n (sym e)) (λ e. eqb-false letter 87 no_w (sym e)) (λ e. eqb-false letter 87 no_w (sym e)) l

    digits-last : (w : List ℕ) → last w ≡ letter → (t : Bool) → is_digits (drop (cond t 1 0) w) ≡ true → ⊥
    digits-last w l true all =
        let (some, full) = all-digits (drop 1 w) all in
        let digit : is_of c.Digit (get_or (drop 1 w) (length (drop 1 w) - 1) 0) ≡ true = span-below c.Digit (drop 1 w) (length (drop 1 w) - 1) (omega (arith, some, full)) in
        let offset : 1 + (length (drop 1 w) - 1) ≡ length w - 1 = omega (arith, length-drop 1 w, some) in
        let is : get_or (drop 1 w) (length (drop 1 w) - 1) 0 ≡ letter = get_or-drop 1 w (length (drop 1 w) - 1) 0 ∙ (rw offset l) in
        let yes : is_digit letter ≡ true = rw is at digit in
        absurd (cc)
    digits-last w l false all =
        let (some, full) = all-digits w all in
        let digit : is_of c.Digit (last w) ≡ true = span-below c.Digit w (length w - 1) (omega (arith, some, full)) in
        let yes : is_digit letter ≡ true = rw l at digit in
        absurd (cc)

lettered-sound : (special : Bool) (w : List ℕ) (form : Form) → 1 ≤ length w → is_plain (front w) ≡ true → is_special (front w) ≡ special → lettered_form special (last w) ≡ Some form → HasForm form w
lettered-sound special w form some plain is h = ⊎_elim suffixed (λ more. lettered special is more.1) (either-cases (suffix_form (last w)) (cond special (letter_form (last w)) None) form h)
  where
    source : w ≡ front w ++ last w ∷ []
    source = sym (front-last w some)

    P : Form → Type 0
    P g = HasForm g w

    suffixed : suffix_form (last w) ≡ Some form → HasForm form w
    suffixed e =
        let s : Suffix form (last w) = suffix-known (last w) form e in
        let Q : Form → Type 0 = λ g. HasForm g w in
        let e' : suffix_form (last w) ≡ Some (f.Suffixed s.kind) = e ∙ ap (λ g. Some g) s.is in
        subst Q (sym s.is) (front w, last w, source, plain, e')

    lettered : (t : Bool) → is_special (front w) ≡ t → cond t (letter_form (last w)) None ≡ Some form → HasForm form w
    lettered false k e = absurd (cc)
    lettered true k e =
        let s : Letter form (last w) = letter-known (last w) form e in
        let Q : Form → Type 0 = λ g. HasForm g w in
        let e' : letter_form (last w) ≡ Some (f.Special s.kind) = e ∙ ap (λ g. Some g) s.is in
        subst Q (sym s.is) (front w, last w, source, k, e')

plain-some : (w : List ℕ) → is_plain w ≡ true → 1 ≤ length w
unfolding is_plain is_special is_digits
plain-some [] h = absurd (cc)
plain-some (b ∷ bs) h = omega arith

pub number-sound : (w : List ℕ) (form : Form) → number_form w ≡ Some form → HasForm form w
unfolding number_form
number-sound w form h = go (is_plain w) refl (is_plain (front w)) refl h
  where
    go : (t : Bool) → is_plain w ≡ t → (s : Bool) → is_plain (front w) ≡ s → cond t (Some f.Whole) (cond s (lettered_form (is_special (front w)) (last w)) None) ≡ Some form → HasForm form w
    go true t s k h =
        let Q : Form → Type 0 = λ g. HasForm g w in
        let same : f.Whole ≡ form = cc in
        subst Q same t
    go false t true k h = lettered-sound (is_special (front w)) w form (omega (arith, plain-some (front w) k, length-take (length w - 1) w)) k refl h
    go false t false k h = absurd (cc)

pub suffixed-complete : (v : List ℕ) (letter : ℕ) (kind : NumberKind) → is_plain v ≡ true → suffix_form letter ≡ Some (f.Suffixed kind) → number_form (v ++ letter ∷ []) ≡ Some (f.Suffixed kind)
unfolding number_form
suffixed-complete v letter kind plain e =
    let s : Suffix (f.Suffixed kind) letter = suffix-known letter (f.Suffixed kind) e in
    let longer : is_plain (v ++ letter ∷ []) ≡ false = false_from_ne_true (is_plain (v ++ letter ∷ [])) (λ t. plain-last v letter t s.other s.apart_N s.apart_W) in
    rw (longer, front-is v letter, plain, last-is v letter, e) refl

pub special-complete : (v : List ℕ) (letter : ℕ) (kind : NumberKind) → is_special v ≡ true → letter_form letter ≡ Some (f.Special kind) → number_form (v ++ letter ∷ []) ≡ Some (f.Special kind)
unfolding number_form
special-complete v letter kind special e =
    let s : Letter (f.Special kind) letter = letter-known letter (f.Special kind) e in
    let longer : is_plain (v ++ letter ∷ []) ≡ false = false_from_ne_true (is_plain (v ++ letter ∷ [])) (λ t. plain-last v letter t s.other s.apart_N s.apart_W) in
    rw (longer, front-is v letter, special-plain v special, last-is v letter, special, s.no_suffix, e) refl

-- the key of a number with a letter
pub special-key : (v : List ℕ) (letter : ℕ) → is_special v ≡ true → number_key (key (v ++ letter ∷ [])) ≡ true
special-key v letter special = special-is v special (λ x. number_key (key (x ++ letter ∷ [])) ≡ true) refl refl refl

pub whole-found : (w : List ℕ) → is_plain w ≡ true → number_form w ≡ Some f.Whole
unfolding number_form
whole-found w h = rw h refl
