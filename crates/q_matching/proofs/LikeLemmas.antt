-- Rows of a text.
use Rattle.std.proofs.Common.{◌≡◌, ℕ, zero, suc, ◌+◌, ◌-◌, ◌<◌, ◌≤◌, ◌⊎◌, ⊎_elim, Bool, true, false, ◌&&◌, ◌||◌, ◌==◌, if◌then◌else◌, List, [], ◌∷◌, length, get_or, drop, refl, sym, ap, ◌∙◌, subst, arith}
use Rattle.std.specs.List.{list_any}
use Rattle.std.proofs.lemmas.List.{drop_more}
use Rattle.q_matching.proofs.LawLemmas.{any_bytes_match_all}
use Rattle.q_verbs.specs.Like.{suffixes, fits_byte, one_byte, matches, IsRow}

drop_end : (text : List ℕ) → drop (length text) text ≡ []
drop_end [] = refl
drop_end (b ∷ text) = drop_end text

last_or_not : (k n : ℕ) → k ≤ n → (k < n) ⊎ (k ≡ n)
last_or_not k n h = grind arith

-- a row is known by its items and its end
row_of : (test : List ℕ → Bool) (text : List ℕ) (row : List Bool) → length row ≡ length text + 1 → ((k : ℕ) → k < length text → get_or row k false ≡ test (drop k text)) → get_or row (length text) false ≡ test [] → IsRow test text row
row_of test text row size places end = record {
  size = size;
  value = λ k h. ⊎_elim (λ below. places k below) (λ last. subst (λ n. get_or row n false ≡ test (drop n text)) (sym last) (end ∙ ap test (sym (drop_end text)))) (last_or_not k (length text) h);
}

pub row_end : (text : List ℕ) (row : List Bool) → length row ≡ length text + 1 → ((k : ℕ) → k < length text → get_or row k false ≡ false) → get_or row (length text) false ≡ true → IsRow (matches []) text row
row_end text row size places end = row_of (matches []) text row size (λ k h. places k h ∙ ap (matches []) (sym (drop_more text k 0 h))) end

pub row_byte : (p : ℕ) (pattern text : List ℕ) (old new : List Bool) → (p == 42) ≡ false → length new ≡ length old → IsRow (matches pattern) text old → ((k : ℕ) → k < length text → get_or new k false ≡ (fits_byte p (get_or text k 0) && get_or old (k + 1) false)) → get_or new (length text) false ≡ false → IsRow (matches (p ∷ pattern)) text new
row_byte p pattern text old new other size before places end =
    row_of (matches (p ∷ pattern)) text new (size ∙ before.size)
    (λ k h. places k h ∙ ap (λ b. fits_byte p (get_or text k 0) && b) (before.value (k + 1) (omega arith)) ∙ ap (one_byte p (matches pattern)) (sym (cut k h)) ∙ as_byte (drop k text))
    (end ∙ as_byte [])
  where
    as_byte : (t : List ℕ) → one_byte p (matches pattern) t ≡ matches (p ∷ pattern) t
    as_byte t = ap (λ b. if b then list_any (matches pattern) (suffixes t) else one_byte p (matches pattern) t) (sym other)

    cut : (k : ℕ) → k < length text → drop k text ≡ get_or text k 0 ∷ drop (k + 1) text
    cut k h = drop_more text k 0 h

pub row_any : (p : ℕ) (pattern text : List ℕ) (old new : List Bool) → (p == 42) ≡ true → length new ≡ length old → IsRow (matches pattern) text old → ((k : ℕ) → k < length text → get_or new k false ≡ (get_or old k false || get_or new (k + 1) false)) → get_or new (length text) false ≡ get_or old (length text) false → IsRow (matches (p ∷ pattern)) text new
row_any p pattern text old new star size before places end =
    row_of (matches (p ∷ pattern)) text new (size ∙ before.size)
    (λ k h. from (length text - k) k (omega arith) ∙ as_any (drop k text))
    (last ∙ as_any [])
  where
    as_any : (t : List ℕ) → list_any (matches pattern) (suffixes t) ≡ matches (p ∷ pattern) t
    as_any t = ap (λ b. if b then list_any (matches pattern) (suffixes t) else one_byte p (matches pattern) t) (sym star)

    or_false : (b : Bool) → b ≡ (b || false)
    or_false true = refl
    or_false false = refl

    last : get_or new (length text) false ≡ list_any (matches pattern) (suffixes [])
    last = end ∙ before.value (length text) (omega arith) ∙ ap (matches pattern) (drop_end text) ∙ or_false (matches pattern [])

    here : (k : ℕ) → k < length text → (matches pattern (drop k text) || list_any (matches pattern) (suffixes (drop (k + 1) text))) ≡ list_any (matches pattern) (suffixes (drop k text))
    here k h = let cut : drop k text ≡ get_or text k 0 ∷ drop (k + 1) text = drop_more text k 0 h in rw cut refl

    from : (d k : ℕ) → k + d ≡ length text → get_or new k false ≡ list_any (matches pattern) (suffixes (drop k text))
    from zero k e =
        let at_end : k ≡ length text = omega arith in
        subst (λ n. get_or new n false ≡ list_any (matches pattern) (suffixes (drop n text))) (sym at_end) (last ∙ ap (λ t. list_any (matches pattern) (suffixes t)) (sym (drop_end text)))
    from (suc d) k e =
        let below : k < length text = omega arith in
        places k below ∙ (λ i. before.value k (omega arith) i || from d (k + 1) (omega arith) i) ∙ here k below

first_byte : (p : ℕ) (pattern text : List ℕ) → (p == 42) ≡ false → matches (p ∷ pattern) text ≡ one_byte p (matches pattern) text
first_byte p pattern text other = ap (λ b. if b then list_any (matches pattern) (suffixes text) else one_byte p (matches pattern) text) other

byte_at : (pattern text : List ℕ) (i : ℕ) → i < length pattern → (get_or pattern i 0 == 42) ≡ false → matches (drop i pattern) (drop i text) ≡ one_byte (get_or pattern i 0) (matches (drop (i + 1) pattern)) (drop i text)
byte_at pattern text i below other = ap (λ q. matches q (drop i text)) (drop_more pattern i 0 below) ∙ first_byte (get_or pattern i 0) (drop (i + 1) pattern) (drop i text) other

two_bytes : (pattern text : List ℕ) (i : ℕ) → i < length pattern → i < length text → (get_or pattern i 0 == 42) ≡ false → matches (drop i pattern) (drop i text) ≡ (fits_byte (get_or pattern i 0) (get_or text i 0) && matches (drop (i + 1) pattern) (drop (i + 1) text))
two_bytes pattern text i below within other = byte_at pattern text i below other ∙ ap (one_byte (get_or pattern i 0) (matches (drop (i + 1) pattern))) (drop_more text i 0 within)

-- a byte of the pattern that fits leaves the rest to decide
pub front_fits : (pattern text : List ℕ) (i : ℕ) → i < length pattern → i < length text → (get_or pattern i 0 == 42) ≡ false → fits_byte (get_or pattern i 0) (get_or text i 0) ≡ true → matches (drop i pattern) (drop i text) ≡ matches (drop (i + 1) pattern) (drop (i + 1) text)
front_fits pattern text i below within other fits = two_bytes pattern text i below within other ∙ ap (λ b. b && matches (drop (i + 1) pattern) (drop (i + 1) text)) fits

-- a byte that doesn't fit matches nothing
pub front_other : (pattern text : List ℕ) (i : ℕ) → i < length pattern → i < length text → (get_or pattern i 0 == 42) ≡ false → fits_byte (get_or pattern i 0) (get_or text i 0) ≡ false → matches (drop i pattern) (drop i text) ≡ false
front_other pattern text i below within other fits = two_bytes pattern text i below within other ∙ ap (λ b. b && matches (drop (i + 1) pattern) (drop (i + 1) text)) fits

-- nor does one past the text's end
pub front_short : (pattern text : List ℕ) (i : ℕ) → i < length pattern → i ≡ length text → (get_or pattern i 0 == 42) ≡ false → matches (drop i pattern) (drop i text) ≡ false
front_short pattern text i below end other = byte_at pattern text i below other ∙ ap (one_byte (get_or pattern i 0) (matches (drop (i + 1) pattern))) (ap (λ n. drop n text) end ∙ drop_end text)

-- the empty pattern matches the empty text alone
pub no_pattern : (pattern text : List ℕ) → length pattern ≡ 0 → (length text == 0) ≡ matches pattern text
no_pattern [] [] e = refl
no_pattern [] (b ∷ text) e = grind arith
no_pattern (p ∷ pattern) text e = absurd (omega arith)

-- a pattern that is `*` alone matches every text
pub lone_star : (pattern text : List ℕ) → length pattern ≡ 1 → get_or pattern 0 0 ≡ 42 → matches pattern text ≡ true
lone_star [] text size star = absurd (omega arith)
lone_star (p ∷ []) text size star = ap (λ q. matches (q ∷ []) text) star ∙ any_bytes_match_all text
lone_star (p ∷ q ∷ pattern) text size star = absurd (omega arith)
