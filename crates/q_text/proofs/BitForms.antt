-- The forms of bits.
use Rattle.std.proofs.Common.{◌≡◌, ℕ, suc, ◌+◌, ◌<◌, ◌≤◌, ◌&&◌, Bool, true, false, cond, List, [], ◌∷◌, ◌++◌, length, take, drop, get_or, eqb, nat_le, Some, None, refl, sym, ap, ◌∙◌, arith, subst}
use Rattle.std.proofs.Math.Seq.{get_or-append_seam, drop-cons}
use Rattle.std.proofs.Math.ListN.{drop_of_length-le}
use Rattle.std.proofs.lemmas.Bool.{eqb-true, eqb-false, eq-eqb, and_parts, leb-true, le-leb, false_from_ne_true, ne_eqb}
use Rattle.std.proofs.lemmas.List.{length-append, length-take, take-append-drop}
use Rattle.q_text.specs.Words.{span}
use Rattle.q_text.specs.Forms.{bits_form}
use Rattle.q_text.specs.Grammar.{AllOf, HasForm}
use Rattle.q_text.specs.declared.kinds.NumberKind.TheVariants as nk
use Rattle.q_text.specs.declared.words.Class.TheVariants as c
use Rattle.q_text.specs.declared.forms.Form.{Form}
use Rattle.q_text.specs.declared.forms.Form.TheVariants as f
use Rattle.q_text.proofs.Spans.{all-taken, span-all}
use Rattle.q_text.proofs.Keys.{key, bits-known}

abbrev bits_test : List ℕ → Bool
bits_test w = eqb (span c.Bit w + 1) (length w) && (eqb (get_or w (span c.Bit w) 0) 98 && nat_le 1 (span c.Bit w))

bits-read : (w : List ℕ) → bits_test w ≡ true → (span c.Bit w + 1 ≡ length w) × (get_or w (span c.Bit w) 0 ≡ 98) × (1 ≤ span c.Bit w)
bits-read w h =
    let a : (eqb (span c.Bit w + 1) (length w) ≡ true) × ((eqb (get_or w (span c.Bit w) 0) 98 && nat_le 1 (span c.Bit w)) ≡ true) = and_parts (eqb (span c.Bit w + 1) (length w)) (eqb (get_or w (span c.Bit w) 0) 98 && nat_le 1 (span c.Bit w)) h in
    let b : (eqb (get_or w (span c.Bit w) 0) 98 ≡ true) × (nat_le 1 (span c.Bit w) ≡ true) = and_parts (eqb (get_or w (span c.Bit w) 0) 98) (nat_le 1 (span c.Bit w)) a.1 in
    (eqb-true (span c.Bit w + 1) (length w) a.0, eqb-true (get_or w (span c.Bit w) 0) 98 b.0, leb-true 1 (span c.Bit w) b.1)

pub bits-none : (w : List ℕ) → (key w ≡ 98 → ⊥) → bits_form w ≡ None
unfolding bits_form
bits-none w other =
    let no_bits : bits_test w ≡ false = false_from_ne_true (bits_test w) (λ t. other (bits-known w (bits-read w t).1)) in
    rw no_bits refl

many-bits : (w : List ℕ) (form : Form) → bits_test w ≡ true → cond (eqb (span c.Bit w) 1) (Some (f.Item nk.Boolean)) (Some (f.Row nk.Boolean)) ≡ Some form → HasForm form w
many-bits w form t h = go (eqb (span c.Bit w) 1) refl h
  where
    n : ℕ
    n = span c.Bit w

    facts : (span c.Bit w + 1 ≡ length w) × (get_or w (span c.Bit w) 0 ≡ 98) × (1 ≤ span c.Bit w)
    facts = bits-read w t

    len : length (take (span c.Bit w) w) ≡ span c.Bit w
    len = omega (arith, length-take (span c.Bit w) w, facts.0)

    source : w ≡ take (span c.Bit w) w ++ 98 ∷ []
    source =
        let rest : drop (span c.Bit w) w ≡ 98 ∷ [] = rw (drop-cons w (span c.Bit w) 0 (omega (arith, facts.0)), facts.1, drop_of_length-le w {i = suc (span c.Bit w)} (omega (arith, facts.0))) refl in
        sym (take-append-drop (span c.Bit w) w) ∙ ap (λ l. take (span c.Bit w) w ++ l) rest

    go : (o : Bool) → eqb (span c.Bit w) 1 ≡ o → cond o (Some (f.Item nk.Boolean)) (Some (f.Row nk.Boolean)) ≡ Some form → HasForm form w
    go true e h =
        let P : Form → Type 0 = λ g. HasForm g w in
        let same : f.Item nk.Boolean ≡ form = cc in
        subst P same (take (span c.Bit w) w, source, all-taken c.Bit w, len ∙ eqb-true (span c.Bit w) 1 e)
    go false e h =
        let P : Form → Type 0 = λ g. HasForm g w in
        let same : f.Row nk.Boolean ≡ form = cc in
        let differs : span c.Bit w ≡ 1 → ⊥ = eqb-false (span c.Bit w) 1 e in
        let more : 1 < length (take (span c.Bit w) w) = omega (arith, len, facts.2, differs) in
        subst P same (take (span c.Bit w) w, source, all-taken c.Bit w, more)

pub bits-sound : (w : List ℕ) (form : Form) → bits_form w ≡ Some form → HasForm form w
unfolding bits_form
bits-sound w form h = go (bits_test w) refl h
  where
    go : (t : Bool) → bits_test w ≡ t → cond t (cond (eqb (span c.Bit w) 1) (Some (f.Item nk.Boolean)) (Some (f.Row nk.Boolean))) None ≡ Some form → HasForm form w
    go true t h = many-bits w form t h
    go false t h = absurd (cc)

bits-tested : (bits : List ℕ) → AllOf c.Bit bits → 1 ≤ length bits → (span c.Bit (bits ++ 98 ∷ []) ≡ length bits) × (bits_test (bits ++ 98 ∷ []) ≡ true)
bits-tested bits all some =
    let len : span c.Bit (bits ++ 98 ∷ []) ≡ length bits = span-all c.Bit bits (98 ∷ []) all refl in
    let whole : eqb (length bits + 1) (length (bits ++ 98 ∷ [])) ≡ true = eq-eqb (length bits + 1) (length (bits ++ 98 ∷ [])) (omega (arith, length-append bits (98 ∷ []))) in
    (len, rw (len, whole, get_or-append_seam bits 98 [] 0, le-leb 1 (length bits) some) refl)

pub bits-key : (bits : List ℕ) → AllOf c.Bit bits → 1 ≤ length bits → key (bits ++ 98 ∷ []) ≡ 98
bits-key bits all some = bits-known (bits ++ 98 ∷ []) (bits-read (bits ++ 98 ∷ []) (bits-tested bits all some).1).1

pub bits-item : (bits : List ℕ) → AllOf c.Bit bits → length bits ≡ 1 → bits_form (bits ++ 98 ∷ []) ≡ Some (f.Item nk.Boolean)
unfolding bits_form
bits-item bits all one = let (len, test) = bits-tested bits all (omega (arith, one)) in rw (test, len, one) refl

pub bits-row : (bits : List ℕ) → AllOf c.Bit bits → 1 < length bits → bits_form (bits ++ 98 ∷ []) ≡ Some (f.Row nk.Boolean)
unfolding bits_form
bits-row bits all more =
    let (len, test) = bits-tested bits all (omega (arith, more)) in
    let other : eqb (length bits) 1 ≡ false = ne_eqb (length bits) 1 (λ e. omega (arith, e, more)) in
    rw (test, len, other) refl
