-- The laws of the verbs.
use Rattle.std.proofs.Common.{◌≡◌, ℕ, Bool, true, false, not, ◌&&◌, ◌||◌, ◌==◌, if◌then◌else◌, List, [], ◌∷◌, refl, sym, ap, ◌∙◌, arith}
use Rattle.std.specs.List.{list_any}
use Rattle.q_verbs.specs.Like.{matches, suffixes, fits_byte, one_byte}
use Rattle.q_matching.specs.Laws.{is_plain, PlainPatternIsItself, AnyBytesMatchAll}

pub any_bytes_match_all : AnyBytesMatchAll
any_bytes_match_all [] = refl
any_bytes_match_all (b ∷ text) = any_bytes_match_all text

and_first : (a b : Bool) → (a && b) ≡ true → a ≡ true
and_first true b e = refl
and_first false b e = e

and_second : (a b : Bool) → (a && b) ≡ true → b ≡ true
and_second true b e = e
and_second false b e = cc

not_so : (b : Bool) → not b ≡ true → b ≡ false
not_so true e = cc
not_so false e = refl

same_byte : (p b : ℕ) → (p == 63) ≡ false → fits_byte p b ≡ true → p ≡ b
same_byte p b other e = let here : (p == b) ≡ true = ap (λ c. c || (p == b)) (sym other) ∙ e in grind arith

itself : (p : ℕ) → (p == p) ≡ true
itself p = grind arith

or_true : (b c : Bool) → c ≡ true → (b || c) ≡ true
or_true true c e = refl
or_true false c e = e

as_byte : (p : ℕ) (pattern text : List ℕ) → (p == 42) ≡ false → one_byte p (matches pattern) text ≡ matches (p ∷ pattern) text
as_byte p pattern text other = ap (λ b. if b then list_any (matches pattern) (suffixes text) else one_byte p (matches pattern) text) (sym other)

plain_first : (p : ℕ) (pattern : List ℕ) → is_plain (p ∷ pattern) ≡ true → (p == 42) ≡ false
plain_first p pattern e = not_so (p == 42) (and_first (not (p == 42)) (not (p == 63) && is_plain pattern) e)

plain_second : (p : ℕ) (pattern : List ℕ) → is_plain (p ∷ pattern) ≡ true → (p == 63) ≡ false
plain_second p pattern e = not_so (p == 63) (and_first (not (p == 63)) (is_plain pattern) (and_second (not (p == 42)) (not (p == 63) && is_plain pattern) e))

plain_rest : (p : ℕ) (pattern : List ℕ) → is_plain (p ∷ pattern) ≡ true → is_plain pattern ≡ true
plain_rest p pattern e = and_second (not (p == 63)) (is_plain pattern) (and_second (not (p == 42)) (not (p == 63) && is_plain pattern) e)

plain_forth : (pattern text : List ℕ) → is_plain pattern ≡ true → matches pattern text ≡ true → pattern ≡ text
plain_forth [] [] e m = refl
plain_forth [] (b ∷ text) e m = cc
plain_forth (p ∷ pattern) [] e m = let never : false ≡ true = as_byte p pattern [] (plain_first p pattern e) ∙ m in cc
plain_forth (p ∷ pattern) (b ∷ text) e m =
    let both : (fits_byte p b && matches pattern text) ≡ true = as_byte p pattern (b ∷ text) (plain_first p pattern e) ∙ m in
    let here = same_byte p b (plain_second p pattern e) (and_first (fits_byte p b) (matches pattern text) both) in
    let rest = plain_forth pattern text (plain_rest p pattern e) (and_second (fits_byte p b) (matches pattern text) both) in
    (λ i. here i ∷ rest i)

and_both : (a b : Bool) → a ≡ true → b ≡ true → (a && b) ≡ true
and_both true b d e = e
and_both false b d e = d

plain_back : (pattern : List ℕ) → is_plain pattern ≡ true → matches pattern pattern ≡ true
plain_back [] e = refl
plain_back (p ∷ pattern) e =
    sym (as_byte p pattern (p ∷ pattern) (plain_first p pattern e))
    ∙ and_both (fits_byte p p) (matches pattern pattern) (or_true (p == 63) (p == p) (itself p)) (plain_back pattern (plain_rest p pattern e))

pub plain_pattern_is_itself : PlainPatternIsItself
plain_pattern_is_itself pattern text e = (plain_forth pattern text e, plain_back pattern e)
