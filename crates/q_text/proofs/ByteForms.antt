-- The forms of hexadecimal bytes.
use Rattle.std.proofs.Common.{◌≡◌, ℕ, suc, ◌+◌, ◌%◌, ◌&&◌, Bool, true, false, cond, List, [], ◌∷◌, length, take, eqb, Some, None, refl, ap, ap₂, arith, subst}
use Rattle.std.proofs.lemmas.Bool.{eqb-true, eqb-false, eq-eqb, and_parts, false_from_ne_true, ne_eqb}
use Rattle.q_text.specs.Words.{span}
use Rattle.q_text.specs.Forms.{begins_bytes, is_hex_tail, bytes_form}
use Rattle.q_text.specs.Grammar.{AllOf, HasForm}
use Rattle.q_text.specs.declared.kinds.NumberKind.TheVariants as nk
use Rattle.q_text.specs.declared.words.Class.TheVariants as c
use Rattle.q_text.specs.declared.forms.Form.{Form}
use Rattle.q_text.specs.declared.forms.Form.TheVariants as f
use Rattle.q_text.proofs.Spans.{all-taken}
use Rattle.q_text.proofs.Keys.{key, bytes-known}

pub bytes-none : (w : List ℕ) → (key w ≡ 120 → ⊥) → bytes_form w ≡ None
unfolding bytes_form
bytes-none w other =
    let no_bytes : begins_bytes w ≡ false = false_from_ne_true (begins_bytes w) (λ t. other (bytes-known w t)) in
    rw no_bytes refl

hex-read : (hex : List ℕ) → (eqb (span c.Hex hex + 2) (suc (suc (length hex))) && eqb (suc (suc (length hex)) % 2) 0) ≡ true → AllOf c.Hex hex × (length hex % 2 ≡ 0)
hex-read hex h =
    let a : (eqb (span c.Hex hex + 2) (suc (suc (length hex))) ≡ true) × (eqb (suc (suc (length hex)) % 2) 0 ≡ true) = and_parts (eqb (span c.Hex hex + 2) (suc (suc (length hex)))) (eqb (suc (suc (length hex)) % 2) 0) h in
    let full : span c.Hex hex + 2 ≡ suc (suc (length hex)) = eqb-true (span c.Hex hex + 2) (suc (suc (length hex))) a.0 in
    let even : suc (suc (length hex)) % 2 ≡ 0 = eqb-true (suc (suc (length hex)) % 2) 0 a.1 in
    let all : span c.Hex hex ≡ length hex = omega (arith, full) in
    let same : take (span c.Hex hex) hex ≡ hex = rw all (take-all hex) in
    (subst (AllOf c.Hex) same (all-taken c.Hex hex), omega (arith, even))
  where
    take-all : (x : List ℕ) → take (length x) x ≡ x
    take-all [] = refl
    take-all (b ∷ bs) = ap (λ l. b ∷ l) (take-all bs)

bytes-split : (w : List ℕ) (form : Form) → begins_bytes w ≡ true → is_hex_tail w ≡ true → cond (eqb (length w) 4) (Some (f.Item nk.Byte)) (Some (f.Row nk.Byte)) ≡ Some form → HasForm form w
bytes-split [] form b x h = absurd (cc)
bytes-split (a ∷ []) form b x h = absurd (let no_second : (eqb a 48 && false) ≡ true = b in let parts : (eqb a 48 ≡ true) × (false ≡ true) = and_parts (eqb a 48) false no_second in let f : false ≡ true = parts.1 in cc)
bytes-split (a ∷ d ∷ hex) form b x h =
    let parts : (eqb a 48 ≡ true) × (eqb d 120 ≡ true) = and_parts (eqb a 48) (eqb d 120) b in
    let source : a ∷ d ∷ hex ≡ 48 ∷ 120 ∷ hex = ap₂ (λ p q. p ∷ q ∷ hex) (eqb-true a 48 parts.0) (eqb-true d 120 parts.1) in
    let (all, even) = hex-read hex x in
    go source all even (eqb (suc (suc (length hex))) 4) refl h
  where
    go : a ∷ d ∷ hex ≡ 48 ∷ 120 ∷ hex → AllOf c.Hex hex → length hex % 2 ≡ 0 → (o : Bool) → eqb (suc (suc (length hex))) 4 ≡ o → cond o (Some (f.Item nk.Byte)) (Some (f.Row nk.Byte)) ≡ Some form → HasForm form (a ∷ d ∷ hex)
    go source all even true e h =
        let P : Form → Type 0 = λ g. HasForm g (a ∷ d ∷ hex) in
        let same : f.Item nk.Byte ≡ form = cc in
        let four : suc (suc (length hex)) ≡ 4 = eqb-true (suc (suc (length hex))) 4 e in
        let two : length hex ≡ 2 = omega (arith, four) in
        subst P same (hex, source, all, two)
    go source all even false e h =
        let P : Form → Type 0 = λ g. HasForm g (a ∷ d ∷ hex) in
        let same : f.Row nk.Byte ≡ form = cc in
        let differs : suc (suc (length hex)) ≡ 4 → ⊥ = eqb-false (suc (suc (length hex))) 4 e in
        let other : length hex ≡ 2 → ⊥ = λ two. differs (omega (arith, two)) in
        subst P same (hex, source, all, (even, other))

pub bytes-sound : (w : List ℕ) (form : Form) → bytes_form w ≡ Some form → HasForm form w
unfolding bytes_form
bytes-sound w form h = go (begins_bytes w && is_hex_tail w) refl h
  where
    go : (t : Bool) → (begins_bytes w && is_hex_tail w) ≡ t → cond t (cond (eqb (length w) 4) (Some (f.Item nk.Byte)) (Some (f.Row nk.Byte))) None ≡ Some form → HasForm form w
    go true t h = let parts : (begins_bytes w ≡ true) × (is_hex_tail w ≡ true) = and_parts (begins_bytes w) (is_hex_tail w) t in bytes-split w form parts.0 parts.1 h
    go false t h = absurd (cc)

hex-span : (hex : List ℕ) → AllOf c.Hex hex → span c.Hex hex ≡ length hex
hex-span [] all = refl
hex-span (b ∷ bs) all = rw (all.0, hex-span bs all.1) refl

hex-tested : (hex : List ℕ) → AllOf c.Hex hex → length hex % 2 ≡ 0 → is_hex_tail (48 ∷ 120 ∷ hex) ≡ true
hex-tested hex all even =
    let whole : eqb (length hex + 2) (suc (suc (length hex))) ≡ true = eq-eqb (length hex + 2) (suc (suc (length hex))) (omega arith) in
    let two : eqb (suc (suc (length hex)) % 2) 0 ≡ true = eq-eqb (suc (suc (length hex)) % 2) 0 (omega (arith, even)) in
    rw (hex-span hex all, whole, two) refl

pub bytes-item : (hex : List ℕ) → AllOf c.Hex hex → length hex ≡ 2 → bytes_form (48 ∷ 120 ∷ hex) ≡ Some (f.Item nk.Byte)
unfolding bytes_form
bytes-item hex all two =
    let even : length hex % 2 ≡ 0 = rw two refl in
    let test : is_hex_tail (48 ∷ 120 ∷ hex) ≡ true = hex-tested hex all even in
    let four : eqb (suc (suc (length hex))) 4 ≡ true = eq-eqb (suc (suc (length hex))) 4 (omega (arith, two)) in
    rw (test, four) refl

pub bytes-row : (hex : List ℕ) → AllOf c.Hex hex → length hex % 2 ≡ 0 → (length hex ≡ 2 → ⊥) → bytes_form (48 ∷ 120 ∷ hex) ≡ Some (f.Row nk.Byte)
unfolding bytes_form
bytes-row hex all even other =
    let test : is_hex_tail (48 ∷ 120 ∷ hex) ≡ true = hex-tested hex all even in
    let four : eqb (suc (suc (length hex))) 4 ≡ false = ne_eqb (suc (suc (length hex))) 4 (λ e. other (omega (arith, e))) in
    rw (test, four) refl
