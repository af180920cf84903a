-- The row that holds is the one of its group that was seen last.
use Rattle.std.proofs.Common.{◌≡◌, ◌≢◌, ℕ, ℤ, pos, suc, ◌+◌, ◌-◌, ◌<◌, ◌≤◌, Bool, true, false, cond, List, [], ◌∷◌, length, get_or, refl, sym, ap, ◌∙◌, arith, subst, Option, Some, None, Ordering, Less, Equal, Greater, IsPermutation}
use Rattle.std.specs.Prelude.{nat_lt}
use Rattle.std.specs.List.{range_with_len}
use Rattle.std.specs.Ordering.{nat_cmp, int_cmp, ordering_then, ordering_reverse, is_lt}
use Rattle.std.specs.Simd.Lanes.{zip2}
use Rattle.std.proofs.lemmas.Bool.Decides.{nat_tests}
use Rattle.std.proofs.lemmas.Cmp.{nat_cmp_total, int_cmp_total}
use Rattle.std.proofs.lemmas.List.FromFn.{length-range_with_len, get_or-range_with_len}
use Rattle.std.proofs.lemmas.List.Sorted.{IsPermutation-refl}
use Rattle.std.proofs.lemmas.Simd.{get_or-zip2, length-zip2}
use Rattle.q_values.specs.Order.{IsOrder, place_cmp}
use Rattle.asof_join.specs.Lines.{Numbered, code_in, number_in, class_of, pair_of, pair_cmp, last_seen, IsFit, IsHeld, IsFound}
use Rattle.asof_join.proofs.OrderLemmas.{turned, same_self, pair_total, above_trans, order_size, row_low, each_row, later_item, later_index, rises, IsLast, last_is}

-- ---- what rows are ordered by

abbrev pub pairs_in : Bool → Numbered → List (ℕ × ℤ)
pairs_in by rows = zip2 (pair_of by) rows.codes rows.numbers

abbrev pub pair_in : Bool → Numbered → ℕ → ℕ × ℤ
pair_in by rows row = pair_of by (code_in rows row) (number_in rows row)

pub pairs_at : (by : Bool) (rows : Numbered) (i : ℕ) (d : ℕ × ℤ) → length rows.codes ≡ length rows.numbers → i < length rows.numbers → get_or (pairs_in by rows) i d ≡ pair_in by rows i
pairs_at by rows i d even low = get_or-zip2 (pair_of by) rows.codes rows.numbers i 0 (pos 0) d (omega (arith, even, low)) low

pub length-pairs : (by : Bool) (rows : Numbered) → length rows.codes ≡ length rows.numbers → length (pairs_in by rows) ≡ length rows.numbers
length-pairs by rows even = length-zip2 (pair_of by) rows.codes rows.numbers even ∙ even

then_of_equal : (o p : Ordering) → o ≡ Equal → ordering_then o p ≡ p
then_of_equal Less p e = absurd cc
then_of_equal Equal p e = refl
then_of_equal Greater p e = absurd cc

-- rows of one group are ordered by their numbers
same_group : (by : Bool) (c c' : ℕ) (x y : ℤ) → c ≡ c' → pair_cmp (pair_of by c x) (pair_of by c' y) ≡ int_cmp x y
same_group by c c' x y e =
    then_of_equal (nat_cmp (class_of by c) (class_of by c')) (int_cmp x y)
    (ap (λ k. nat_cmp (class_of by c) (class_of by k)) (sym e) ∙ same_self nat_cmp nat_cmp_total (class_of by c))

nothing : {P : Type 0} → ⊥ → P
nothing e = absurd e

less_not_greater : (o : Ordering) → o ≡ Less → o ≢ Greater
less_not_greater Less e = λ f. absurd cc
less_not_greater Equal e = absurd cc
less_not_greater Greater e = absurd cc

-- what is not less the other way
not_above : (x y : ℤ) → int_cmp x y ≢ Less → int_cmp y x ≢ Greater
not_above x y h = λ e. h (turned int_cmp int_cmp_total y x Greater e)

below_of : (x y : ℤ) → int_cmp x y ≢ Less → int_cmp x y ≢ Equal → int_cmp y x ≡ Less
below_of x y h g = go (int_cmp x y) refl
  where
    go : (o : Ordering) → int_cmp x y ≡ o → int_cmp y x ≡ Less
    go Less e = nothing (h e)
    go Equal e = nothing (g e)
    go Greater e = turned int_cmp int_cmp_total x y Greater e

not_below : (p q : ℕ) → nat_cmp q p ≢ Less → q < p → ⊥
not_below p q h less = h (let e : nat_cmp q p ≡ Less = grind (arith, nat_tests) in e)

-- ---- the row that was seen last holds

module _ (by : Bool) (right left : Numbered) (order : List ℕ) (even : length right.codes ≡ length right.numbers) (is : IsOrder pair_cmp (pairs_in by right) order) where
  abbrev at : ℕ → ℕ
  at p = get_or order p 0

  size : length (pairs_in by right) ≡ length right.numbers
  size = length-pairs by right even

  pub row_in : (p : ℕ) → p < length right.numbers → at p < length right.numbers
  row_in p low = let s = size in let l = row_low pair_cmp pair_total (pairs_in by right) (0, pos 0) order is p (omega arith) in omega arith

  pub size_of_order : length order ≡ length right.numbers
  size_of_order = order_size pair_cmp pair_total (pairs_in by right) (0, pos 0) order is ∙ size

  pair_is : (p : ℕ) → p < length right.numbers → get_or (pairs_in by right) (at p) (0, pos 0) ≡ pair_in by right (at p)
  pair_is p low = pairs_at by right (at p) (0, pos 0) even (row_in p low)

  -- rows at later places aren't before
  later_pair : (p q : ℕ) → p < q → q < length right.numbers → pair_cmp (pair_in by right (at q)) (pair_in by right (at p)) ≢ Less
  later_pair p q less low =
      let s = size in
      let h = later_item pair_cmp pair_total (pairs_in by right) (0, pos 0) order is p q less (omega arith) in
      λ e. h ((λ i. pair_cmp (pair_is q low i) (pair_is p (omega arith) i)) ∙ e)

  later_tie : (p q : ℕ) → p < q → q < length right.numbers → pair_cmp (pair_in by right (at q)) (pair_in by right (at p)) ≡ Equal → nat_cmp (at q) (at p) ≢ Less
  later_tie p q less low e =
      let s = size in
      later_index pair_cmp pair_total (pairs_in by right) (0, pos 0) order is p q less (omega arith)
      ((λ i. pair_cmp (pair_is q low i) (pair_is p (omega arith) i)) ∙ e)

  pub rising : (p q : ℕ) → p ≤ q → q < length right.numbers → pair_cmp (pair_in by right (at p)) (pair_in by right (at q)) ≢ Greater
  rising p q less low =
      let s = size in
      let h = rises pair_cmp pair_total (pairs_in by right) (0, pos 0) order is p q less (omega arith) in
      λ e. h ((λ i. pair_cmp (pair_is p (omega arith) i) (pair_is q low i)) ∙ e)

  -- what the row at a place is above, the rows at later places are above
  pub above_from : (target : ℕ × ℤ) (next : ℕ) → (next < length right.numbers → pair_cmp (pair_in by right (at next)) target ≡ Greater)
      → (p : ℕ) → next ≤ p → p < length right.numbers → pair_cmp (pair_in by right (at p)) target ≡ Greater
  above_from target next stops p above low =
      above_trans pair_cmp pair_total (pair_in by right (at p)) (pair_in by right (at next)) target (rising next p above low) (stops (omega arith))

  module _ (row next : ℕ) (within : next ≤ length right.numbers)
      (passed : (p : ℕ) → p < next → pair_cmp (pair_in by right (at p)) (pair_in by left row) ≢ Greater)
      (stops : (p : ℕ) → next ≤ p → p < length right.numbers → pair_cmp (pair_in by right (at p)) (pair_in by left row) ≡ Greater) where
    -- a row that fits was seen
    is_seen : (p : ℕ) → p < length right.numbers → IsFit right left row (at p) → p < next
    is_seen p low fit = go (nat_lt p next) refl
      where
        go : (b : Bool) → nat_lt p next ≡ b → p < next
        go true e = grind arith
        go false e =
            let later : next ≤ p = grind arith in
            nothing (fit.number (sym (same_group by (code_in right (at p)) (code_in left row) (number_in right (at p)) (number_in left row) fit.group) ∙ stops p later low))

    fits : (p : ℕ) → p < next → code_in right (at p) ≡ code_in left row → IsFit right left row (at p)
    fits p low group = record {
      group = group;
      number = λ e. passed p low (same_group by (code_in right (at p)) (code_in left row) (number_in right (at p)) (number_in left row) group ∙ e);
    }

    -- what holds of a row that fits, compared with the one that was seen last of its group
    record Beside (found j : ℕ) : Type 0 where
      pub greatest : IsFit right left row j → int_cmp (number_in right j) (number_in right found) ≢ Greater
      pub last : found < j → IsFit right left row j → int_cmp (number_in right j) (number_in right found) ≡ Less

    module _ (q : ℕ) (q_low : q < next) (group : code_in right (at q) ≡ code_in left row)
        (later : (p : ℕ) → q < p → p < next → code_in right (at p) ≢ code_in left row) where
      beside_at : (p : ℕ) → p < length right.numbers → Beside (at q) (at p)
      beside_at p low = record { greatest = λ fit. greatest (nat_lt p q) refl fit; last = λ above fit. last (nat_lt p q) refl above fit }
        where
          same_number : IsFit right left row (at p) → pair_cmp (pair_in by right (at q)) (pair_in by right (at p)) ≡ int_cmp (number_in right (at q)) (number_in right (at p))
          same_number fit = same_group by (code_in right (at q)) (code_in right (at p)) (number_in right (at q)) (number_in right (at p)) (group ∙ sym fit.group)

          same_place : IsFit right left row (at p) → nat_lt p q ≡ false → p ≡ q
          same_place fit e = go (nat_lt q p) refl
            where
              go : (b : Bool) → nat_lt q p ≡ b → p ≡ q
              go true f = let above : q < p = grind arith in nothing (later p above (is_seen p low fit) fit.group)
              go false f = grind arith

          greatest : (b : Bool) → nat_lt p q ≡ b → IsFit right left row (at p) → int_cmp (number_in right (at p)) (number_in right (at q)) ≢ Greater
          greatest true e fit =
              let before : p < q = grind arith in
              not_above (number_in right (at q)) (number_in right (at p)) (λ f. later_pair p q before (omega arith) (same_number fit ∙ f))
          greatest false e fit =
              let same = same_place fit e in
              subst (λ k. int_cmp (number_in right (at k)) (number_in right (at q)) ≢ Greater) (sym same)
              (λ f. (let g : Equal ≡ Greater = sym (same_self int_cmp int_cmp_total (number_in right (at q))) ∙ f in absurd cc))

          last : (b : Bool) → nat_lt p q ≡ b → at q < at p → IsFit right left row (at p) → int_cmp (number_in right (at p)) (number_in right (at q)) ≡ Less
          last true e above fit =
              let before : p < q = grind arith in
              below_of (number_in right (at q)) (number_in right (at p))
              (λ f. later_pair p q before (omega arith) (same_number fit ∙ f))
              (λ f. not_below (at p) (at q) (later_tie p q before (omega arith) (same_number fit ∙ f)) above)
          last false e above fit =
              let same = ap at (same_place fit e) in
              absurd (omega (arith, same, above))

      held : IsHeld right left row (at q)
      held = record {
        low = row_in q (omega arith);
        fit = fits q q_low group;
        greatest = λ j low fit. (beside j low).greatest fit;
        last = λ j low above fit. (beside j low).last above fit;
      }
        where
          beside : (j : ℕ) → j < length right.numbers → Beside (at q) j
          beside j low =
              let s = size in
              each_row pair_cmp pair_total (pairs_in by right) (0, pos 0) order is (Beside (at q)) (λ p p_low. beside_at p (omega arith)) j (omega arith)

    found_by : (o : Option ℕ) → IsLast right.codes order next (code_in left row) o → IsFound right left row o
    found_by None h = λ j low fit.
        let s = size in
        each_row pair_cmp pair_total (pairs_in by right) (0, pos 0) order is (λ k. IsFit right left row k → ⊥)
        (λ p p_low fit. h p (is_seen p (omega arith) fit) fit.group) j (omega arith) fit
    found_by (Some found) h =
        let code : code_in right (at h.place) ≡ code_in left row = ap (λ k. code_in right k) h.row_is ∙ h.code in
        subst (λ k. IsHeld right left row k) h.row_is (held h.place h.low code h.later)

    pub found_at : IsFound right left row (last_seen right.codes order next (code_in left row))
    found_at = found_by (last_seen right.codes order next (code_in left row)) (last_is right.codes order next (code_in left row))

-- ---- rows that stand in order

then_not_lt : (a b : Ordering) → a ≢ Less → b ≢ Less → is_lt (ordering_then a b) ≡ false
then_not_lt Less b h g = nothing (h refl)
then_not_lt Equal Less h g = nothing (g refl)
then_not_lt Equal Equal h g = refl
then_not_lt Equal Greater h g = refl
then_not_lt Greater b h g = refl

after_one : (k : ℕ) → nat_cmp (k + 1) k ≢ Less
after_one k = λ e. (let g : nat_cmp (k + 1) k ≡ Greater = grind (arith, nat_tests) in (let f : Less ≡ Greater = sym e ∙ g in absurd cc))

pub standing_order : (by : Bool) (rows : Numbered) → length rows.codes ≡ length rows.numbers
    → ((k : ℕ) → k + 1 < length rows.numbers → pair_cmp (pair_in by rows k) (pair_in by rows (k + 1)) ≢ Greater)
    → IsOrder pair_cmp (pairs_in by rows) (range_with_len 0 (length rows.numbers))
standing_order by rows even ascends = record {
  permutation = subst (λ n. IsPermutation (range_with_len 0 (length (pairs_in by rows))) (range_with_len 0 n)) (length-pairs by rows even) (IsPermutation-refl (range_with_len 0 (length (pairs_in by rows))));
  within = λ i d low.
      let size = length-pairs by rows even in
      let n = length-range_with_len 0 (length rows.numbers) in
      let at = get_or-range_with_len 0 (length rows.numbers) i d (omega arith) in
      omega arith;
  sorted = λ d k e _ k_in.
      let n = length-range_with_len 0 (length rows.numbers) in
      let low : k + 1 < length rows.numbers = omega arith in
      let zero_next : 0 + (k + 1) ≡ k + 1 = omega arith in
      let zero_k : 0 + k ≡ k = omega arith in
      let next : get_or (range_with_len 0 (length rows.numbers)) (k + 1) e ≡ k + 1 = get_or-range_with_len 0 (length rows.numbers) (k + 1) e low ∙ zero_next in
      let here : get_or (range_with_len 0 (length rows.numbers)) k e ≡ k = get_or-range_with_len 0 (length rows.numbers) k e (omega arith) ∙ zero_k in
      let pair_next = pairs_at by rows (k + 1) d even low in
      let pair_here = pairs_at by rows k d even (omega arith) in
      let no_less : pair_cmp (pair_in by rows (k + 1)) (pair_in by rows k) ≢ Less = λ f. ascends k low (turned pair_cmp pair_total (pair_in by rows (k + 1)) (pair_in by rows k) Less f) in
      (λ i. is_lt (place_cmp pair_cmp (pairs_in by rows) d (next i) (here i)))
      ∙ (λ i. is_lt (ordering_then (pair_cmp (pair_next i) (pair_here i)) (nat_cmp (k + 1) k)))
      ∙ then_not_lt (pair_cmp (pair_in by rows (k + 1)) (pair_in by rows k)) (nat_cmp (k + 1) k) no_less (after_one k);
}
