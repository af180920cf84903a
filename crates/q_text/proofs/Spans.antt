-- Bytes of one class at the front of others.
use Rattle.std.proofs.Common.{◌≡◌, ℕ, suc, ◌≤◌, Bool, true, false, cond, List, [], ◌∷◌, ◌++◌, length, take, drop, get_or, refl, arith}
use Rattle.std.proofs.lemmas.List.{length-drop}
use Rattle.q_text.specs.Words.{span, is_of, span_end}
use Rattle.q_text.specs.Grammar.{AllOf}
use Rattle.q_text.specs.declared.words.Class.{Class}

-- the bytes counted are of the class
pub all-taken : (class : Class) (bs : List ℕ) → AllOf class (take (span class bs) bs)
all-taken class [] = tt
all-taken class (b ∷ bs) = go (is_of class b) refl (all-taken class bs)
  where
    go : (t : Bool) → is_of class b ≡ t → AllOf class (take (span class bs) bs) → AllOf class (take (cond t (suc (span class bs)) 0) (b ∷ bs))
    go false h more = tt
    go true h more = (h, more)

-- and the byte after them is not
pub span-stops : (class : Class) (bs : List ℕ) → is_of class 0 ≡ false → is_of class (get_or (drop (span class bs) bs) 0 0) ≡ false
span-stops class [] none = none
span-stops class (b ∷ bs) none = go (is_of class b) refl (span-stops class bs none)
  where
    go : (t : Bool) → is_of class b ≡ t → is_of class (get_or (drop (span class bs) bs) 0 0) ≡ false → is_of class (get_or (drop (cond t (suc (span class bs)) 0) (b ∷ bs)) 0 0) ≡ false
    go false h more = h
    go true h more = more

-- bytes of the class, followed by another
pub span-all : (class : Class) (bs rest : List ℕ) → AllOf class bs → is_of class (get_or rest 0 0) ≡ false → span class (bs ++ rest) ≡ length bs
span-all class [] [] h k = refl
span-all class [] (r ∷ rest) h k = rw k refl
span-all class (b ∷ bs) rest h k = rw (h.0, span-all class bs rest h.1 k) refl

pub span-le : (class : Class) (bs : List ℕ) → span class bs ≤ length bs
span-le class [] = omega arith
span-le class (b ∷ bs) = go (is_of class b) (span-le class bs)
  where
    go : (t : Bool) → span class bs ≤ length bs → cond t (suc (span class bs)) 0 ≤ suc (length bs)
    go false h = omega arith
    go true h = omega (arith, h)

pub span_end-le : (class : Class) (text : List ℕ) (at : ℕ) → at ≤ length text → span_end class text at ≤ length text
span_end-le class text at within = omega (arith, span-le class (drop at text), length-drop at text)

pub all-append : (class : Class) (xs ys : List ℕ) → AllOf class xs → AllOf class ys → AllOf class (xs ++ ys)
all-append class [] ys h k = k
all-append class (x ∷ xs) ys h k = (h.0, all-append class xs ys h.1 k)
