-- The names of a symbol literal, one name more.
use Rattle.std.proofs.Common.{◌≡◌, ℕ, zero, suc, ◌+◌, ◌-◌, ◌<◌, Bool, true, false, cond, List, [], ◌∷◌, ◌++◌, length, take, drop, get_or, eqb, refl, sym, ap, subst, ◌∙◌, arith, All, append_assoc, ⊎_elim}
use Rattle.std.specs.List.{AllByRecursion}
use Rattle.std.proofs.lemmas.Bool.{eqb-true, cases_lt}
use Rattle.std.proofs.lemmas.List.{drop-drop, get_or_past}
use Rattle.std.proofs.lemmas.List.Elements.{All-from_recursion}
use Rattle.std.proofs.Math.Numerals.{add-one}
use Rattle.std.proofs.Math.Seq.{drop-cons}
use Rattle.q_text.specs.Words.{span, is_symbol, is_of}
use Rattle.q_text.specs.Symbols.{names}
use Rattle.q_text.specs.declared.words.Class.{Class}
use Rattle.q_text.specs.declared.words.Class.TheVariants as c

-- no byte of a class follows the bytes of that class
pub span-at_end : (class : Class) (bs : List ℕ) → span class (drop (span class bs) bs) ≡ 0
span-at_end class [] = refl
span-at_end class (b ∷ bs) = go (is_of class b) refl (span-at_end class bs)
  where
    go : (t : Bool) → is_of class b ≡ t → span class (drop (span class bs) bs) ≡ 0 → span class (drop (cond t (suc (span class bs)) 0) (b ∷ bs)) ≡ 0
    go false h more = rw h refl
    go true h more = more

pub not-tick : (b : ℕ) → is_symbol b ≡ true → eqb b 96 ≡ false
not-tick b h = go (eqb b 96) refl
  where
    go : (t : Bool) → eqb b 96 ≡ t → t ≡ false
    go false e = refl
    go true e = let P : ℕ → Type 0 = λ n. is_symbol n ≡ true in absurd (let no : is_symbol 96 ≡ true = subst P (eqb-true b 96 e) h in cc)

not-nul : (b : ℕ) → is_symbol b ≡ true → 0 < b
not-nul zero h = absurd (cc)
not-nul (suc b) h = omega arith

-- the names are those after the first
names-passed : (bs : List ℕ) → names (drop (span c.Symbol bs) bs) ≡ names bs
names-passed [] = refl
names-passed (b ∷ bs) = go (is_symbol b) refl (names-passed bs)
  where
    go : (t : Bool) → is_symbol b ≡ t → names (drop (span c.Symbol bs) bs) ≡ names bs → names (drop (cond t (suc (span c.Symbol bs)) 0) (b ∷ bs)) ≡ names (b ∷ bs)
    go false h more = refl
    go true h more = rw (not-tick b h, h) more

no_nul-recursion : (bs : List ℕ) → AllByRecursion (λ b. 0 < b) (take (span c.Symbol bs) bs)
no_nul-recursion [] = tt
no_nul-recursion (b ∷ bs) = go (is_symbol b) refl (no_nul-recursion bs)
  where
    go : (t : Bool) → is_symbol b ≡ t → AllByRecursion (λ x. 0 < x) (take (span c.Symbol bs) bs) → AllByRecursion (λ x. 0 < x) (take (cond t (suc (span c.Symbol bs)) 0) (b ∷ bs))
    go false h more = tt
    go true h more = (not-nul b h, more)

-- no name has a byte 0
pub no_nul : (bs : List ℕ) → All (λ b. 0 < b) (take (span c.Symbol bs) bs)
no_nul bs = All-from_recursion (λ b. 0 < b) (take (span c.Symbol bs) bs) (no_nul-recursion bs)

-- no names at an offset where neither a backtick nor a name begins
pub names-stopped : (bs : List ℕ) → span c.Symbol bs ≡ 0 → eqb (get_or bs 0 0) 96 ≡ false → names bs ≡ []
names-stopped [] h k = refl
names-stopped (b ∷ bs) h k = rw k (go (is_symbol b) refl h)
  where
    go : (t : Bool) → is_symbol b ≡ t → cond t (suc (span c.Symbol bs)) 0 ≡ 0 → cond t (names bs) [] ≡ []
    go false e z = refl
    go true e z = absurd (omega (arith, z))

-- the name after the backtick at an offset, and those after its end
names-next : (text : List ℕ) (offset end : ℕ) → offset < length text → get_or text offset 0 ≡ 96 → end ≡ suc offset + span c.Symbol (drop (suc offset) text)
    → names (drop offset text) ≡ take (end - suc offset) (drop (suc offset) text) ∷ names (drop end text)
names-next text offset end less tick is =
    let len : end - suc offset ≡ span c.Symbol (drop (suc offset) text) = omega (arith, is) in
    let rest : names (drop end text) ≡ names (drop (suc offset) text) = rw is (ap names (sym (drop-drop (span c.Symbol (drop (suc offset) text)) (suc offset) text)) ∙ names-passed (drop (suc offset) text)) in
    rw (drop-cons text offset 0 less, tick, len, rest) refl

pub names-step : (text : List ℕ) (offset end : ℕ) → offset < length text → get_or text offset 0 ≡ 96 → end ≡ offset + 1 + span c.Symbol (drop (offset + 1) text)
    → names (drop offset text) ≡ take (end - (offset + 1)) (drop (offset + 1) text) ∷ names (drop end text)
names-step text offset end less tick is = rw (add-one offset) (names-next text offset end less tick (rw (add-one offset) at is))

-- the name at an offset is appended to others
pub push-name : (xs new ys : List (List ℕ)) (text : List ℕ) (offset end : ℕ) → offset < length text → get_or text offset 0 ≡ 96 → end ≡ offset + 1 + span c.Symbol (drop (offset + 1) text)
    → new ≡ xs ++ take (end - (offset + 1)) (drop (offset + 1) text) ∷ [] → xs ++ names (drop offset text) ≡ ys → new ++ names (drop end text) ≡ ys
push-name xs new ys text offset end less tick is new-is inv =
    ap (λ l. l ++ names (drop end text)) new-is
    ∙ append_assoc xs (take (end - (offset + 1)) (drop (offset + 1) text) ∷ []) (names (drop end text))
    ∙ ap (λ l. xs ++ l) (sym (names-step text offset end less tick is))
    ∙ inv

pub name-stops : (text : List ℕ) (offset end : ℕ) → end ≡ offset + 1 + span c.Symbol (drop (offset + 1) text) → span c.Symbol (drop end text) ≡ 0
name-stops text offset end is =
    rw is (ap (λ l. span c.Symbol l) (sym (drop-drop (span c.Symbol (drop (offset + 1) text)) (offset + 1) text)) ∙ span-at_end c.Symbol (drop (offset + 1) text))

pub name-no_nul : (text : List ℕ) (offset end : ℕ) → end ≡ offset + 1 + span c.Symbol (drop (offset + 1) text) → All (λ b. 0 < b) (take (end - (offset + 1)) (drop (offset + 1) text))
name-no_nul text offset end is =
    let e : end - (offset + 1) ≡ span c.Symbol (drop (offset + 1) text) = omega (arith, is) in
    rw e (no_nul (drop (offset + 1) text))

-- a backtick stands within the text
pub tick-within : (text : List ℕ) (offset : ℕ) → get_or text offset 0 ≡ 96 → offset < length text
tick-within text offset tick = ⊎_elim
    (λ less. less)
    (λ past. absurd (omega (arith, get_or_past text offset 0 past, tick)))
    (cases_lt offset (length text))
