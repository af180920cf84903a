-- Symbols that are put into sets, one after the other.
use Rattle.std.proofs.Common.{get_or, ◌≤◌, ◌++◌, cond, ap₂, ◌&&◌, ◌≡◌, ℕ, ◌+◌, ◌<◌, ◌||◌, ◌==◌, Bool, true, false, not, List, [], ◌∷◌, length, take, refl, sym, ap, ◌∙◌, arith, Some, slice_get}
use Rattle.std.specs.Prelude.{Vec}
use Rattle.std.specs.HashSet.{HashSet, PutsKey}
use Rattle.std.specs.List.{list_any}
use Rattle.std.specs.Str.{bytes_eq}
use Rattle.std.proofs.lemmas.List.Folds.{list_any_more, list_any-append}
use Rattle.std.proofs.lemmas.List.Sorted.{list_any-IsPermutation}
use Rattle.std.proofs.lemmas.Option.{get_or_from_slice_get}
use Rattle.std.proofs.lemmas.Slice.Eq.{bytes_eq-Decides}
use Rattle.pubsub.specs.SymbolSet.{has_text}

-- one more element, which a call read
pub any_more : {X : Type 0} (p : X → Bool) (xs : List X) (i : ℕ) (x : X) → i < length xs → slice_get xs i ≡ Some x → list_any p (take (i + 1) xs) ≡ (list_any p (take i xs) || p x)
any_more p xs i x h e = list_any_more p xs i x h ∙ ap (λ y. list_any p (take i xs) || p y) (get_or_from_slice_get xs i x x e)

eqb-sym : (x y : ℕ) → (x == y) ≡ (y == x)
eqb-sym x y = grind arith

bytes_eq-sym : (xs ys : List ℕ) → bytes_eq xs ys ≡ bytes_eq ys xs
bytes_eq-sym [] [] = refl
bytes_eq-sym [] (y ∷ ys) = refl
bytes_eq-sym (x ∷ xs) [] = refl
bytes_eq-sym (x ∷ xs) (y ∷ ys) = ap₂ ◌&&◌ (eqb-sym x y) (bytes_eq-sym xs ys)

cond_or : (b c : Bool) → cond b true c ≡ (c || b)
cond_or true true = refl
cond_or true false = refl
cond_or false true = refl
cond_or false false = refl

or-comm : (b c : Bool) → (b || c) ≡ (c || b)
or-comm true true = refl
or-comm true false = refl
or-comm false true = refl
or-comm false false = refl

and_false : (b c : Bool) → c ≡ false → (b && c) ≡ false
and_false true c e = e
and_false false c e = refl

or_false : (b : Bool) → b ≡ (b || false)
or_false true = refl
or_false false = refl

-- one more element, at its index
pub any_more_at : {X : Type 0} (p : X → Bool) (xs : List X) (i : ℕ) (x : X) → i < length xs → x ≡ get_or xs i x → list_any p (take (i + 1) xs) ≡ (list_any p (take i xs) || p x)
any_more_at p xs i x h e = list_any_more p xs i x h ∙ ap (λ y. list_any p (take i xs) || p y) (sym e)

-- one more symbol of a set
pub set_more : (bytes : List ℕ) (items : List (List ℕ)) (i : ℕ) (item : List ℕ) (before after : Bool) → i < length items → item ≡ get_or items i item → before ≡ list_any (bytes_eq bytes) (take i items) → after ≡ cond (bytes_eq item bytes) true before
    → after ≡ list_any (bytes_eq bytes) (take (i + 1) items)
set_more bytes items i item before after i_in is so_far put =
    put ∙ cond_or (bytes_eq item bytes) before ∙ (λ j. so_far j || bytes_eq-sym item bytes j) ∙ sym (any_more_at (bytes_eq bytes) items i item i_in is)

-- a symbol is put at the end
pub any_pushed : (bytes symbol put : List ℕ) (before after : List (List ℕ)) → put ≡ symbol → after ≡ before ++ put ∷ [] → list_any (bytes_eq bytes) after ≡ (list_any (bytes_eq bytes) before || bytes_eq bytes symbol)
any_pushed bytes symbol put before after e pushed =
    ap (list_any (bytes_eq bytes)) pushed
    ∙ list_any-append (bytes_eq bytes) before (put ∷ [])
    ∙ ap (λ b. list_any (bytes_eq bytes) before || b) (sym (or_false (bytes_eq bytes put)) ∙ ap (bytes_eq bytes) e)

-- a longer symbol isn't equal to one of at most eight bytes
longer : (bytes symbol : List ℕ) → length bytes < length symbol → bytes_eq bytes symbol ≡ false
longer [] [] h = absurd (omega (arith, h))
longer [] (y ∷ ys) h = refl
longer (x ∷ xs) [] h = refl
longer (x ∷ xs) (y ∷ ys) h = and_false (x == y) (bytes_eq xs ys) (longer xs ys (omega (arith, h)))

pub any_longer : (bytes symbol : List ℕ) (before : List (List ℕ)) → length bytes ≤ 8 → 8 < length symbol → list_any (bytes_eq bytes) before ≡ (list_any (bytes_eq bytes) before || bytes_eq bytes symbol)
any_longer bytes symbol before short long =
    or_false (list_any (bytes_eq bytes) before) ∙ ap (λ b. list_any (bytes_eq bytes) before || b) (sym (longer bytes symbol (omega (arith, short, long))))

same_text : {Y S : Type 0} (old : HashSet (Vec ℕ Y) S) (text : Vec ℕ Y) (bytes : List ℕ) (b : Bool) → bytes_eq bytes text.items ≡ b → has_text old text.items ≡ true → has_text old bytes ≡ (has_text old bytes || b)
same_text old text bytes false e has = or_false (has_text old bytes)
same_text old text bytes true e has =
    let there : has_text old bytes ≡ true = ap (has_text old) ((bytes_eq-Decides bytes text.items).0 e) ∙ has in
    there ∙ ap (λ b. b || true) (sym there)

not_so : (b : Bool) → false ≡ not b → b ≡ true
not_so true e = refl
not_so false e = cc

-- a text is put into a set, which may have it
pub text_put : {Y S : Type 0} (old new : HashSet (Vec ℕ Y) S) (text : Vec ℕ Y) (bytes : List ℕ) (added : Bool) → added ≡ not (has_text old text.items) → PutsKey old new text added → has_text new bytes ≡ (has_text old bytes || bytes_eq bytes text.items)
text_put old new text bytes true is_new puts =
    sym (list_any-IsPermutation (λ t. bytes_eq bytes t.items) (text ∷ old.keys) new.keys puts)
    ∙ or-comm (bytes_eq bytes text.items) (has_text old bytes)
text_put old new text bytes false is_new puts =
    ap (list_any (λ t. bytes_eq bytes t.items)) puts ∙ same_text old text bytes (bytes_eq bytes text.items) refl (not_so (has_text old text.items) is_new)
