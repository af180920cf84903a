-- The byte before an offset, as part of a symbol literal.
use Rattle.std.proofs.Common.{◌≡◌, ℕ, zero, suc, ◌-◌, ◌<◌, ◌≤◌, ◌||◌, ◌&&◌, Bool, true, false, List, [], ◌∷◌, length, take, refl, subst, arith, eqb, get_or}
use Rattle.std.proofs.lemmas.Bool.{eqb-true}
use Rattle.q_text.specs.Words.{in_symbol, is_symbol}

-- one byte more
pub in_symbol-take : (inside : Bool) (text : List ℕ) (k : ℕ) → k < length text
    → in_symbol inside (take (suc k) text) ≡ (eqb (get_or text k 0) 96 || (in_symbol inside (take k text) && is_symbol (get_or text k 0)))
in_symbol-take inside [] k less = absurd (omega arith)
in_symbol-take inside (b ∷ bs) zero less = refl
in_symbol-take inside (b ∷ bs) (suc k) less = in_symbol-take (eqb b 96 || (inside && is_symbol b)) bs k (omega arith)

not-tick : (b : ℕ) → is_symbol b ≡ true → eqb b 96 ≡ false
not-tick b h = go (eqb b 96) refl
  where
    go : (t : Bool) → eqb b 96 ≡ t → t ≡ false
    go false e = refl
    go true e = let P : ℕ → Type 0 = λ n. is_symbol n ≡ true in absurd (let no : is_symbol 96 ≡ true = subst P (eqb-true b 96 e) h in cc)

-- a byte that a symbol takes goes on with what stands before it
pub in_symbol-back : (text : List ℕ) (offset : ℕ) → 0 < offset → offset ≤ length text → is_symbol (get_or text (offset - 1) 0) ≡ true
    → in_symbol false (take (offset - 1) text) ≡ in_symbol false (take offset text)
in_symbol-back text zero some within h = absurd (omega arith)
in_symbol-back text (suc k) some within h =
    let e : suc k - 1 ≡ k = omega arith in
    let is : is_symbol (get_or text k 0) ≡ true = rw e at h in
    rw (e, in_symbol-take false text k (omega arith), not-tick (get_or text k 0) is, is) (go (in_symbol false (take k text)))
  where
    go : (t : Bool) → t ≡ (t && true)
    go true = refl
    go false = refl

-- any other byte is of a symbol where it is the backtick
pub in_symbol-stop : (text : List ℕ) (offset : ℕ) → 0 < offset → offset ≤ length text → is_symbol (get_or text (offset - 1) 0) ≡ false
    → eqb (get_or text (offset - 1) 0) 96 ≡ in_symbol false (take offset text)
in_symbol-stop text zero some within h = absurd (omega arith)
in_symbol-stop text (suc k) some within h =
    let e : suc k - 1 ≡ k = omega arith in
    let is : is_symbol (get_or text k 0) ≡ false = rw e at h in
    rw (e, in_symbol-take false text k (omega arith), is) (go (eqb (get_or text k 0) 96) (in_symbol false (take k text)))
  where
    go : (t s : Bool) → t ≡ (t || (s && false))
    go true s = refl
    go false true = refl
    go false false = refl
