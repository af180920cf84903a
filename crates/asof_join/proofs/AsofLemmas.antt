-- The rows that are found by their numbers are those that hold.
use Rattle.std.proofs.Common.{◌≡◌, ◌≢◌, ℕ, ℤ, pos, zero, suc, ◌+◌, ◌<◌, ◌≤◌, Bool, true, false, cond, not, ◌&&◌, List, [], ◌∷◌, length, get_or, take, drop, refl, sym, ap, ◌∙◌, arith, subst, Option, Some, None, Ordering, Less, Equal, Greater}
use Rattle.std.specs.Prelude.{nat_eq}
use Rattle.std.specs.List.{filter, last_or, list_all, range_with_len}
use Rattle.std.specs.Ordering.{int_cmp, is_gt}
use Rattle.std.specs.Simd.Lanes.{zip2}
use Rattle.std.proofs.lemmas.Bool.Decides.{nat_tests}
use Rattle.std.proofs.lemmas.Cmp.{int_cmp_total}
use Rattle.std.proofs.lemmas.List.{ext_get_or, get_or-drop, get_or-take, get_or_default}
use Rattle.std.proofs.lemmas.Simd.{get_or-zip2, length-zip2}
use Rattle.q_values.specs.Order.{atom_cmp}
use Rattle.q_values.specs.declared.atom.Atom.{Atom}
use Rattle.q_keys.specs.Keys.{same_key}
use Rattle.day_rows.specs.Rows.{absent}
use Rattle.asof_join.specs.Asof.{KeyedRows, head_at, last_at, is_match, matching, has_greatest, row_as_of, rows_as_of}
use Rattle.asof_join.specs.Heads.{AreHeads}
use Rattle.asof_join.specs.Lasts.{AreNumbers}
use Rattle.asof_join.specs.Lines.{Numbered, code_in, number_in, IsFit, IsHeld, IsFound, AreFound}
use Rattle.asof_join.proofs.OrderLemmas.{turned}

no : {P : Type 0} → false ≡ true → P
no e = absurd cc

no_again : {P : Type 0} → true ≡ false → P
no_again e = absurd cc

-- ---- the last of the numbers that pass a test

none_in_range : (p : ℕ → Bool) (a n : ℕ) (o : Option ℕ) → ((j : ℕ) → a ≤ j → j < a + n → p j ≡ false) → last_or o (filter p (range_with_len a n)) ≡ o
none_in_range p a zero o none = refl
none_in_range p a (suc n) o none = go (p a) (none a (omega arith) (omega arith)) (none_in_range p (a + 1) n o (λ j above low. none j (omega arith) (omega arith)))
  where
    go : (b : Bool) → b ≡ false → last_or o (filter p (range_with_len (a + 1) n)) ≡ o → last_or o (cond b (a ∷ filter p (range_with_len (a + 1) n)) (filter p (range_with_len (a + 1) n))) ≡ o
    go true e rest = no_again e
    go false e rest = rest

last_in_range : (p : ℕ → Bool) (a n : ℕ) (o : Option ℕ) (i : ℕ) → a ≤ i → i < a + n → p i ≡ true → ((j : ℕ) → i < j → j < a + n → p j ≡ false) → last_or o (filter p (range_with_len a n)) ≡ Some i
last_in_range p a zero o i above low holds later = absurd (omega (arith, above, low))
last_in_range p a (suc n) o i above low holds later =
    go (λ other apart. last_in_range p (a + 1) n other i (omega arith) (omega arith) holds (λ j j_above j_low. later j j_above (omega arith))) (nat_eq a i) refl (p a) refl
  where
    go : ((other : Option ℕ) → a ≢ i → last_or other (filter p (range_with_len (a + 1) n)) ≡ Some i) → (b : Bool) → nat_eq a i ≡ b → (c : Bool) → p a ≡ c → last_or o (cond c (a ∷ filter p (range_with_len (a + 1) n)) (filter p (range_with_len (a + 1) n))) ≡ Some i
    go rest true e true f =
        let same : a ≡ i = grind arith in
        none_in_range p (a + 1) n (Some a) (λ j j_above j_low. later j (omega arith) (omega arith)) ∙ ap (λ k. Some k) same
    go rest true e false f = let same : a ≡ i = grind arith in no (sym f ∙ ap p same ∙ holds)
    go rest false e true f = let apart : a ≢ i = grind arith in rest (Some a) apart
    go rest false e false f = let apart : a ≢ i = grind arith in rest o apart

-- ---- what holds of all numbers that pass a test

all_in_range : (m f : ℕ → Bool) (a n : ℕ) → ((j : ℕ) → a ≤ j → j < a + n → m j ≡ true → f j ≡ true) → list_all f (filter m (range_with_len a n)) ≡ true
all_in_range m f a zero each = refl
all_in_range m f a (suc n) each = go (all_in_range m f (a + 1) n (λ j above low. each j (omega arith) (omega arith))) (m a) refl
  where
    go : list_all f (filter m (range_with_len (a + 1) n)) ≡ true → (b : Bool) → m a ≡ b → list_all f (cond b (a ∷ filter m (range_with_len (a + 1) n)) (filter m (range_with_len (a + 1) n))) ≡ true
    go rest true e = ap (λ (c : Bool). c && list_all f (filter m (range_with_len (a + 1) n))) (each a (omega arith) (omega arith) e) ∙ rest
    go rest false e = rest

and_false : (b : Bool) → (b && false) ≡ false
and_false true = refl
and_false false = refl

not_all_in_range : (m f : ℕ → Bool) (a n i : ℕ) → a ≤ i → i < a + n → m i ≡ true → f i ≡ false → list_all f (filter m (range_with_len a n)) ≡ false
not_all_in_range m f a zero i above low passes fails = absurd (omega (arith, above, low))
not_all_in_range m f a (suc n) i above low passes fails =
    go (λ apart. not_all_in_range m f (a + 1) n i (omega arith) (omega arith) passes fails) (nat_eq a i) refl (m a) refl
  where
    go : (a ≢ i → list_all f (filter m (range_with_len (a + 1) n)) ≡ false) → (b : Bool) → nat_eq a i ≡ b → (c : Bool) → m a ≡ c → list_all f (cond c (a ∷ filter m (range_with_len (a + 1) n)) (filter m (range_with_len (a + 1) n))) ≡ false
    go rest true e true g =
        let same : a ≡ i = grind arith in
        ap (λ (c : Bool). c && list_all f (filter m (range_with_len (a + 1) n))) (ap f same ∙ fails)
    go rest true e false g = let same : a ≡ i = grind arith in no (sym g ∙ ap m same ∙ passes)
    go rest false e true g = let apart : a ≢ i = grind arith in ap (λ (c : Bool). f a && c) (rest apart) ∙ and_false (f a)
    go rest false e false g = let apart : a ≢ i = grind arith in rest apart

filter-filter : (m g : ℕ → Bool) (xs : List ℕ) → filter g (filter m xs) ≡ filter (λ (x : ℕ). m x && g x) xs
filter-filter m g [] = refl
filter-filter m g (x ∷ xs) = go (m x) (filter-filter m g xs)
  where
    go : (b : Bool) → filter g (filter m xs) ≡ filter (λ (y : ℕ). m y && g y) xs
        → filter g (cond b (x ∷ filter m xs) (filter m xs)) ≡ cond (b && g x) (x ∷ filter (λ (y : ℕ). m y && g y) xs) (filter (λ (y : ℕ). m y && g y) xs)
    go true rest = ap (λ l. cond (g x) (x ∷ l) l) rest
    go false rest = rest

-- ---- numbers and keys

pub not_gt : (o : Ordering) → o ≢ Greater → not (is_gt o) ≡ true
not_gt Less h = refl
not_gt Equal h = refl
not_gt Greater h = absurd (h refl)

from_not_gt : (o : Ordering) → not (is_gt o) ≡ true → o ≢ Greater
from_not_gt Less e = λ f. absurd cc
from_not_gt Equal e = λ f. absurd cc
from_not_gt Greater e = no e

is_above : (o : Ordering) → o ≡ Greater → not (is_gt o) ≡ false
is_above Less e = absurd cc
is_above Equal e = absurd cc
is_above Greater e = refl

both_true : (a b : Bool) → (a && b) ≡ true → (a ≡ true) × (b ≡ true)
both_true true b e = (refl, e)
both_true false b e = no e

module _ (left right : KeyedRows) (codes : List ℕ) (groups : ℕ) (of_left of_right : List ℤ)
    (heads : AreHeads left.heads right.heads codes groups)
    (lasts : AreNumbers left.lasts right.lasts of_left of_right)
    (left_even : length left.heads ≡ length left.lasts) (right_even : length right.heads ≡ length right.lasts) where
  abbrev lows : Numbered
  lows = record { codes = take (length of_left) codes; numbers = of_left }

  abbrev highs : Numbered
  highs = record { codes = drop (length of_left) codes; numbers = of_right }

  module _ (i : ℕ) (i_low : i < length of_left) where
    abbrev head : List Atom
    head = get_or left.heads i []

    abbrev last : Atom
    last = get_or left.lasts i absent

    same_code : (j : ℕ) → j < length of_right → nat_eq (code_in highs j) (code_in lows i) ≡ same_key (head_at right j) head
    same_code j low =
        let sizes = lasts.left_size in
        let sizes' = lasts.right_size in
        let m : length left.heads ≡ length of_left = omega (arith, left_even, sizes) in
        (λ k. nat_eq (get_or-drop (length of_left) codes j 0 k) (get_or-take (length of_left) codes i 0 i_low k))
        ∙ ap (λ k. nat_eq (get_or codes (k + j) 0) (get_or codes i 0)) (sym m)
        ∙ heads.same i j (omega arith) (omega arith)

    number_is : (j : ℕ) → j < length of_right → int_cmp (number_in highs j) (number_in lows i) ≡ atom_cmp (last_at right j) last
    number_is j low = let sizes = lasts.left_size in let sizes' = lasts.right_size in lasts.across i j (omega arith) (omega arith)

    match_of_fit : (j : ℕ) → j < length of_right → IsFit highs lows i j → is_match right head last j ≡ true
    match_of_fit j low fit =
        let group : nat_eq (code_in highs j) (code_in lows i) ≡ true = (let g = fit.group in grind (arith, nat_tests)) in
        let first : same_key (head_at right j) head ≡ true = sym (same_code j low) ∙ group in
        let second : not (is_gt (atom_cmp (last_at right j) last)) ≡ true = ap (λ o. not (is_gt o)) (sym (number_is j low)) ∙ not_gt (int_cmp (number_in highs j) (number_in lows i)) fit.number in
        ap (λ (b : Bool). b && not (is_gt (atom_cmp (last_at right j) last))) first ∙ second

    fit_of_match : (j : ℕ) → j < length of_right → is_match right head last j ≡ true → IsFit highs lows i j
    fit_of_match j low e =
        let parts = both_true (same_key (head_at right j) head) (not (is_gt (atom_cmp (last_at right j) last))) e in
        let group : nat_eq (code_in highs j) (code_in lows i) ≡ true = same_code j low ∙ parts.0 in
        record {
          group = grind arith;
          number = from_not_gt (int_cmp (number_in highs j) (number_in lows i)) (ap (λ o. not (is_gt o)) (number_is j low) ∙ parts.1);
        }

    abbrev rows : List ℕ
    rows = range_with_len 0 (length right.lasts)

    abbrev test : ℕ → Bool
    test j = is_match right head last j && has_greatest right (matching right head last) j

    as_one : row_as_of right head last ≡ last_or None (filter test rows)
    as_one = ap (last_or None) (filter-filter (is_match right head last) (has_greatest right (matching right head last)) rows)

    compare : (j k : ℕ) → j < length of_right → k < length of_right → int_cmp (number_in highs j) (number_in highs k) ≡ atom_cmp (last_at right j) (last_at right k)
    compare j k j_low k_low = let sizes = lasts.right_size in lasts.within j k (omega arith) (omega arith)

    holding : (found : ℕ) → IsHeld highs lows i found → row_as_of right head last ≡ Some found
    holding found h =
        let size = lasts.right_size in
        let low = h.low in
        let passes : is_match right head last found ≡ true = match_of_fit found h.low h.fit in
        as_one ∙ last_in_range test 0 (length right.lasts) None found (omega arith) (omega arith) (chosen passes) (λ j above j_low. others passes j above (omega arith))
      where
        chosen : is_match right head last found ≡ true → test found ≡ true
        chosen passes =
            ap (λ (b : Bool). b && has_greatest right (matching right head last) found) passes
            ∙ all_in_range (is_match right head last) (λ (other : ℕ). not (is_gt (atom_cmp (last_at right other) (last_at right found)))) 0 (length right.lasts) (λ j _ j_low e. each j (let size = lasts.right_size in omega arith) e)
          where
            each : (j : ℕ) → j < length of_right → is_match right head last j ≡ true → not (is_gt (atom_cmp (last_at right j) (last_at right found))) ≡ true
            each j low e =
                ap (λ o. not (is_gt o)) (sym (compare j found low h.low))
                ∙ not_gt (int_cmp (number_in highs j) (number_in highs found)) (h.greatest j low (fit_of_match j low e))

        others : is_match right head last found ≡ true → (j : ℕ) → found < j → j < length of_right → test j ≡ false
        others passes j above low = go (is_match right head last j) refl
          where
            go : (b : Bool) → is_match right head last j ≡ b → (b && has_greatest right (matching right head last) j) ≡ false
            go false e = refl
            go true e =
                let less = h.last j low above (fit_of_match j low e) in
                let more : atom_cmp (last_at right found) (last_at right j) ≡ Greater = sym (compare found j h.low low) ∙ turned int_cmp int_cmp_total (number_in highs j) (number_in highs found) Less less in
                let size = lasts.right_size in
                let found_low = h.low in
                not_all_in_range (is_match right head last) (λ (other : ℕ). not (is_gt (atom_cmp (last_at right other) (last_at right j)))) 0 (length right.lasts) found (omega arith) (omega arith) passes
                (is_above (atom_cmp (last_at right found) (last_at right j)) more)

    row_found : (o : Option ℕ) → IsFound highs lows i o → row_as_of right head last ≡ o
    row_found (Some found) h = holding found h
    row_found None h =
        as_one ∙ none_in_range test 0 (length right.lasts) None (λ j _ low. none j (let size = lasts.right_size in omega arith))
      where
        none : (j : ℕ) → j < length of_right → test j ≡ false
        none j low = go (is_match right head last j) refl
          where
            go : (b : Bool) → is_match right head last j ≡ b → (b && has_greatest right (matching right head last) j) ≡ false
            go false e = refl
            go true e = absurd (h j low (fit_of_match j low e))

  pub rows_found : (found : List (Option ℕ)) → AreFound highs lows found → found ≡ rows_as_of left right
  rows_found found h =
      let size = lasts.left_size in
      let count : length found ≡ length of_left = h.size in
      let all : length (rows_as_of left right) ≡ length left.heads = length-zip2 (row_as_of right) left.heads left.lasts left_even in
      ext_get_or None found (rows_as_of left right) (omega arith) (λ i low.
      let i_low : i < length of_left = omega arith in
      sym (get_or-zip2 (row_as_of right) left.heads left.lasts i [] absent None (omega arith) (omega arith) ∙ row_found i i_low (get_or found i None) (h.each i i_low)))
