-- Going through the rows of both sides in order.
use Rattle.std.proofs.Common.{◌≡◌, ◌≢◌, ℕ, ℤ, zero, suc, ◌+◌, ◌<◌, ◌≤◌, Bool, true, false, cond, List, [], ◌∷◌, length, get_or, set, refl, sym, ap, ◌∙◌, arith, subst, Option, Some, None, pos, Ordering, Less, Equal, Greater, get_or-set_same, get_or-set_other}
use Rattle.std.specs.Prelude.{nat_eq, nat_lt}
use Rattle.std.specs.Ordering.{is_le}
use Rattle.std.proofs.lemmas.Bool.Decides.{nat_tests}
use Rattle.q_values.specs.Order.{IsOrder}
use Rattle.asof_join.specs.declared.line.Line.{Line}
use Rattle.asof_join.specs.declared.order.Order.{Order}
use Rattle.asof_join.specs.Lines.{pair_cmp, pair_at, pairs, order_in, last_seen, numbered, code_in, IsFound}
use Rattle.asof_join.proofs.OrderLemmas.{up_trans, pair_total, each_row}
use Rattle.asof_join.proofs.FoundLemmas.{pair_in, length-pairs, row_in, size_of_order, rising, above_from, found_at}

-- one more row was seen
pub seen_step : (codes order : List ℕ) (seen : List (Option ℕ)) (place row code : ℕ) → row ≡ get_or order place 0 → code ≡ get_or codes row 0 → code < length seen
    → ((g : ℕ) → g < length seen → get_or seen g None ≡ last_seen codes order place g)
    → (g : ℕ) → g < length seen → get_or (set seen code (Some row)) g None ≡ last_seen codes order (place + 1) g
seen_step codes order seen place row code row_is code_is low h g g_low =
    subst (λ k. get_or (set seen code (Some row)) g None ≡ last_seen codes order k g) (sym next) (go (nat_eq code g) refl)
  where
    next : place + 1 ≡ suc place
    next = omega arith

    code_now : get_or codes (get_or order place 0) 0 ≡ code
    code_now = ap (λ r. get_or codes r 0) (sym row_is) ∙ sym code_is

    go : (b : Bool) → nat_eq code g ≡ b → get_or (set seen code (Some row)) g None ≡ last_seen codes order (suc place) g
    go true e =
        let same : code ≡ g = grind arith in
        ap (λ k. get_or (set seen code (Some row)) k None) (sym same) ∙ get_or-set_same seen code (Some row) None low
        ∙ ap (λ r. Some r) row_is
        ∙ sym (ap (λ (b : Bool). cond b (Some (get_or order place 0)) (last_seen codes order place g)) (ap (λ k. nat_eq k g) code_now ∙ e))
    go false e =
        let apart : g ≢ code = grind arith in
        get_or-set_other seen code g (Some row) None apart ∙ h g g_low
        ∙ sym (ap (λ (b : Bool). cond b (Some (get_or order place 0)) (last_seen codes order place g)) (ap (λ k. nat_eq k g) code_now ∙ e))

-- what holds at each place so far, and at one more
pub one_more_place : (Q : ℕ → Type 0) (from place : ℕ) → ((p : ℕ) → from ≤ p → p < place → Q p) → Q place → (p : ℕ) → from ≤ p → p < place + 1 → Q p
one_more_place Q from place each here p above low = go (nat_eq p place) refl
  where
    go : (b : Bool) → nat_eq p place ≡ b → Q p
    go true e = let same : p ≡ place = grind arith in subst Q (sym same) here
    go false e = let apart : p ≢ place = grind arith in each p above (omega arith)

module _ (left right : Line) (of_left of_right : Order) (same : left.by_group ≡ right.by_group)
    (left_is : IsOrder pair_cmp (pairs left) (order_in (length left.numbers.now) of_left))
    (right_is : IsOrder pair_cmp (pairs right) (order_in (length right.numbers.now) of_right)) where
  abbrev lo : ℕ → ℕ
  lo k = get_or (order_in (length left.numbers.now) of_left) k 0

  abbrev ro : ℕ → ℕ
  ro p = get_or (order_in (length right.numbers.now) of_right) p 0

  abbrev IsUpTo : ℕ → ℕ → Type 0
  IsUpTo p k = pair_cmp (pair_at right (ro p)) (pair_at left (lo k)) ≢ Greater

  module _ (place next next' : ℕ) (place_low : place < length left.numbers.now) (within : next' ≤ length right.numbers.now)
      (before : (p k : ℕ) → p < next → place ≤ k → k < length left.numbers.now → IsUpTo p k)
      (now : (p : ℕ) → next ≤ p → p < next' → IsUpTo p place)
      (stops : next' < length right.numbers.now → pair_cmp (pair_at right (ro next')) (pair_at left (lo place)) ≡ Greater) where
    passed : (p : ℕ) → p < next' → IsUpTo p place
    passed p low = go (nat_lt p next) refl
      where
        go : (b : Bool) → nat_lt p next ≡ b → IsUpTo p place
        go true e = let early : p < next = grind arith in before p place early (omega arith) place_low
        go false e = let late : next ≤ p = grind arith in now p late low

    left_rising : (k : ℕ) → place ≤ k → k < length left.numbers.now → pair_cmp (pair_at left (lo place)) (pair_at left (lo k)) ≢ Greater
    left_rising k above low = rising left.by_group (numbered left) (numbered left) (order_in (length left.numbers.now) of_left) left.even left_is place k above low

    pub passed_next : (p k : ℕ) → p < next' → place + 1 ≤ k → k < length left.numbers.now → IsUpTo p k
    passed_next p k low above k_low =
        up_trans pair_cmp pair_total (pair_at right (ro p)) (pair_at left (lo place)) (pair_at left (lo k)) (passed p low) (left_rising k (omega arith) k_low)

    pair_same : pair_at left (lo place) ≡ pair_in right.by_group (numbered left) (lo place)
    pair_same = ap (λ b. pair_in b (numbered left) (lo place)) same

    pub found_next : IsFound (numbered right) (numbered left) (lo place) (last_seen right.codes.now (order_in (length right.numbers.now) of_right) next' (code_in (numbered left) (lo place)))
    found_next =
        found_at right.by_group (numbered right) (numbered left) (order_in (length right.numbers.now) of_right) right.even right_is (lo place) next' within
        (λ p low. subst (λ x. pair_cmp (pair_at right (ro p)) x ≢ Greater) pair_same (passed p low))
        (above_from right.by_group (numbered right) (numbered left) (order_in (length right.numbers.now) of_right) right.even right_is
        (pair_in right.by_group (numbered left) (lo place)) next' (λ low. ap (pair_cmp (pair_at right (ro next'))) (sym pair_same) ∙ stops low))

  -- the row found for one more place; a row that comes again is found again
  pub found_more : (found : List (Option ℕ)) (place row : ℕ) (o : Option ℕ) → row ≡ lo place → row < length found → IsFound (numbered right) (numbered left) (lo place) o
      → ((k : ℕ) → k < place → IsFound (numbered right) (numbered left) (lo k) (get_or found (lo k) None))
      → (k : ℕ) → k < place + 1 → IsFound (numbered right) (numbered left) (lo k) (get_or (set found row o) (lo k) None)
  found_more found place row o row_is low here each k k_low = go (nat_eq (lo k) row) refl
    where
      earlier : lo k ≢ row → k < place
      earlier apart = by_place (nat_eq k place) refl
        where
          by_place : (b : Bool) → nat_eq k place ≡ b → k < place
          by_place true e = let same_place : k ≡ place = grind arith in absurd (apart (ap lo same_place ∙ sym row_is))
          by_place false e = let other : k ≢ place = grind arith in omega arith

      go : (b : Bool) → nat_eq (lo k) row ≡ b → IsFound (numbered right) (numbered left) (lo k) (get_or (set found row o) (lo k) None)
      go true e =
          let same_row : lo k ≡ row = grind arith in
          let value : get_or (set found row o) (lo k) None ≡ o = ap (λ r. get_or (set found row o) r None) same_row ∙ get_or-set_same found row o None low in
          subst (λ r. IsFound (numbered right) (numbered left) r (get_or (set found row o) (lo k) None)) (sym (same_row ∙ row_is))
          (subst (λ v. IsFound (numbered right) (numbered left) (lo place) v) (sym value) here)
      go false e =
          let apart : lo k ≢ row = grind arith in
          subst (λ v. IsFound (numbered right) (numbered left) (lo k) v) (sym (get_or-set_other found row (lo k) o None apart)) (each k (earlier apart))

  -- each row of the left side has a place
  pub all_found : (found : List (Option ℕ)) → ((k : ℕ) → k < length left.numbers.now → IsFound (numbered right) (numbered left) (lo k) (get_or found (lo k) None))
      → (row : ℕ) → row < length left.numbers.now → IsFound (numbered right) (numbered left) row (get_or found row None)
  all_found found each row low =
      let size = length-pairs left.by_group (numbered left) left.even in
      each_row pair_cmp pair_total (pairs left) (0, pos 0) (order_in (length left.numbers.now) of_left) left_is (λ r. IsFound (numbered right) (numbered left) r (get_or found r None))
      (λ p p_low. each p (omega arith)) row (omega arith)

pub not_greater : (o : Ordering) → is_le o ≡ true → o ≢ Greater
not_greater Less e = λ f. absurd cc
not_greater Equal e = λ f. absurd cc
not_greater Greater e = absurd cc
