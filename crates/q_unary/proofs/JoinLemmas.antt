-- What is picked of two lists joined, from what is picked of each.
use Rattle.std.proofs.Common.{◌≡◌, ℤ, Bool, true, false, if◌then◌else◌, List, [], ◌∷◌, ◌++◌, Option, Some, None, unwrap_or, refl, sym, ap, ap₂, ◌∙◌, arith, rules, subst}
use Rattle.std.specs.Prelude.{is_some, fold, IsSome}
use Rattle.std.specs.Ordering.{int_cmp, is_ge, is_le}
use Rattle.std.specs.declared.cmp.Ordering.{Ordering}
use Rattle.std.proofs.lemmas.Int.{ints}
use Rattle.std.proofs.lemmas.List.Sums.{fold-append}
use Rattle.q_lanes.proofs.OrderLemmas.{worth_cmp-some}
use Rattle.q_unary.specs.Extremes.{Picks, Ranks, extreme, picked}
use Rattle.q_verbs.specs.Numbers.{numeric, worth_cmp}
use Rattle.q_verbs.specs.Aggregates.{best_of, choose_present}

pub ranks_least : Ranks is_le
ranks_least m n p = ((λ d e. grind (arith, ints)), (λ d e. grind (arith, ints)))

pub ranks_greatest : Ranks is_ge
ranks_greatest m n p = ((λ d e. grind (arith, ints)), (λ d e. grind (arith, ints)))

by_two : {X : Type 0} (ab bc ac : Bool) (a b c : X) → (ab ≡ true → bc ≡ true → ac ≡ true) → (ab ≡ false → bc ≡ false → ac ≡ false)
    → (if ab then (if ac then a else c) else (if bc then b else c)) ≡ (if bc then (if ab then a else b) else (if ac then a else c))
by_two true true ac a b c up down = ap (λ t. if t then a else c) (up refl refl)
by_two true false ac a b c up down = refl
by_two false true ac a b c up down = refl
by_two false false ac a b c up down = sym (ap (λ t. if t then a else c) (down refl refl))

left_of : {X : Type 0} (f : X → X → X) (ab : Bool) (a b c : X) → f (if ab then a else b) c ≡ (if ab then f a c else f b c)
left_of f true a b c = refl
left_of f false a b c = refl

right_of : {X : Type 0} (f : X → X → X) (bc : Bool) (a b c : X) → f a (if bc then b else c) ≡ (if bc then f a b else f a c)
right_of f true a b c = refl
right_of f false a b c = refl

order_is : {X : Type 0} (picks : Ordering → Bool) (number : X → Option ℤ) (x y : X) (m n : ℤ) → number x ≡ Some m → number y ≡ Some n → picks (worth_cmp (numeric (number x)) (numeric (number y))) ≡ picks (int_cmp m n)
order_is picks number x y m n d e = ap₂ (λ s t. picks (worth_cmp (numeric s) (numeric t))) d e ∙ ap picks (sym (worth_cmp-some m n))

of_three : {X : Type 0} (picks : Ordering → Bool) (number : X → Option ℤ) → Ranks picks → (a b c : X) (m n p : ℤ) → number a ≡ Some m → number b ≡ Some n → number c ≡ Some p → picked picks number (picked picks number a b) c ≡ picked picks number a (picked picks number b c)
of_three picks number ranks a b c m n p da db dc =
    let ab = order_is picks number a b m n da db in
    let bc = order_is picks number b c n p db dc in
    let ac = order_is picks number a c m p da dc in
    let first = picks (worth_cmp (numeric (number a)) (numeric (number b))) in
    let second = picks (worth_cmp (numeric (number b)) (numeric (number c))) in
    let third = picks (worth_cmp (numeric (number a)) (numeric (number c))) in
    left_of (picked picks number) first a b c
    ∙ by_two first second third a b c
    (λ d e. ac ∙ (ranks m n p).0 (sym ab ∙ d) (sym bc ∙ e))
    (λ d e. ac ∙ (ranks m n p).1 (sym ab ∙ d) (sym bc ∙ e))
    ∙ sym (right_of (picked picks number) second a b c)

-- what is picked of one list and then of another one, from what is picked of this one alone
abbrev pub beside : {X : Type 0} → (X → X → X) → Option X → Option X → Option X
beside pick best None = best
beside pick best (Some x) = Some (best_of pick best x)

passed : {X : Type 0} (number : X → Option ℤ) (pick : X → X → X) (best : Option X) (x : X) → number x ≡ None → choose_present number pick best x ≡ best
passed number pick best x e = ap (λ o. if is_some o then Some (best_of pick best x) else best) e

taken : {X : Type 0} (number : X → Option ℤ) (pick : X → X → X) (best : Option X) (x : X) (n : ℤ) → number x ≡ Some n → choose_present number pick best x ≡ Some (best_of pick best x)
taken number pick best x n e = ap (λ o. if is_some o then Some (best_of pick best x) else best) e

pub record Numbered {X : Type 0} (number : X → Option ℤ) (x : X) : Type 0 where
  value : ℤ
  is : number x ≡ Some value

if_numbered : {X : Type 0} (number : X → Option ℤ) (b : Bool) (x y : X) → Numbered number x → Numbered number y → Numbered number (if b then x else y)
if_numbered number true x y d e = d
if_numbered number false x y d e = e

-- what is picked has a number
pub picked_number : {X : Type 0} (picks : Ordering → Bool) (number : X → Option ℤ) (xs : List X) (best : Option X) (x : X) → ((b : X) → best ≡ Some b → Numbered number b) → fold (choose_present number (picked picks number)) best xs ≡ Some x → Numbered number x
picked_number picks number [] best x has e = has x e
picked_number {X} picks number (y ∷ xs) best x has e = by_number (λ b h f. picked_number picks number xs b x h f) (number y) refl
  where
    pick : X → X → X
    pick = picked picks number

    by_best : (o : Option X) (n : ℤ) → best ≡ o → number y ≡ Some n → (b : X) → Some (best_of pick o y) ≡ Some b → Numbered number b
    by_best None n d f b g = let same : y ≡ b = cc in subst (Numbered number) same (record { value = n; is = f })
    by_best (Some c) n d f b g =
        let same : pick c y ≡ b = cc in
        subst (Numbered number) same (if_numbered number (picks (worth_cmp (numeric (number c)) (numeric (number y)))) c y (has c d) (record { value = n; is = f }))

    by_number : ((b : Option X) → ((c : X) → b ≡ Some c → Numbered number c) → fold (choose_present number pick) b xs ≡ Some x → Numbered number x) → (o : Option ℤ) → number y ≡ o → Numbered number x
    by_number rest None d = rest best has (ap (λ b. fold (choose_present number pick) b xs) (sym (passed number pick best y d)) ∙ e)
    by_number rest (Some n) d = rest (Some (best_of pick best y)) (by_best best n refl d) (ap (λ b. fold (choose_present number pick) b xs) (sym (taken number pick best y n d)) ∙ e)

none_has : {X : Type 0} (number : X → Option ℤ) (b : X) → None ≡ Some b → Numbered number b
none_has number b e = absurd (cc)

-- to pick of a list after one item is to pick of that item and of what is picked of the list alone
pub picked_after : {X : Type 0} (picks : Ordering → Bool) (number : X → Option ℤ) → Ranks picks → (ys : List X) (b : X) (m : ℤ) → number b ≡ Some m → fold (choose_present number (picked picks number)) (Some b) ys ≡ beside (picked picks number) (Some b) (fold (choose_present number (picked picks number)) None ys)
picked_after picks number ranks [] b m d = refl
picked_after {X} picks number ranks (y ∷ ys) b m d = by_number (λ c k e. picked_after picks number ranks ys c k e) (number y) refl
  where
    pick : X → X → X
    pick = picked picks number

    nested : (n : ℤ) → number y ≡ Some n → (o : Option X) → fold (choose_present number pick) None ys ≡ o → beside pick (Some (pick b y)) o ≡ beside pick (Some b) (beside pick (Some y) o)
    nested n e None g = refl
    nested n e (Some z) g =
        let has = picked_number picks number ys None z (none_has number) g in
        ap (λ t. Some t) (of_three picks number ranks b y z m n has.value d e has.is)

    by_number : ((c : X) (k : ℤ) → number c ≡ Some k → fold (choose_present number pick) (Some c) ys ≡ beside pick (Some c) (fold (choose_present number pick) None ys)) → (o : Option ℤ) → number y ≡ o → fold (choose_present number pick) (Some b) (y ∷ ys) ≡ beside pick (Some b) (fold (choose_present number pick) None (y ∷ ys))
    by_number rest None e =
        ap (λ s. fold (choose_present number pick) s ys) (passed number pick (Some b) y e)
        ∙ rest b m d
        ∙ ap (λ s. beside pick (Some b) (fold (choose_present number pick) s ys)) (sym (passed number pick None y e))
    by_number rest (Some n) e =
        let has = if_numbered number (picks (worth_cmp (numeric (number b)) (numeric (number y)))) b y (record { value = m; is = d }) (record { value = n; is = e }) in
        ap (λ s. fold (choose_present number pick) s ys) (taken number pick (Some b) y n e)
        ∙ rest (pick b y) has.value has.is
        ∙ nested n e (fold (choose_present number pick) None ys) refl
        ∙ ap (beside pick (Some b)) (sym (rest y n e))
        ∙ ap (λ s. beside pick (Some b) (fold (choose_present number pick) s ys)) (sym (taken number pick None y n e))

end_alone : {X : Type 0} (b : Bool) (end : X) → unwrap_or (if b then Some end else None) end ≡ end
end_alone true end = refl
end_alone false end = refl

-- the extreme of two lists joined, from those of each
pub extreme_joined : {X : Type 0} (picks : Ordering → Bool) (number : X → Option ℤ) → Ranks picks → (end best other both : X) (xs ys : List X)
    → best ≡ extreme picks number end xs → other ≡ extreme picks number end ys → Picks picks number end best other both
    → (other ≡ end → IsSome (number best) → both ≡ best) → both ≡ extreme picks number end (xs ++ ys)
extreme_joined {X} picks number ranks end best other both xs ys is_best is_other next stays =
    by_first (fold step None xs) refl ∙ ap (λ o. unwrap_or o end) (sym (fold-append step None xs ys))
  where
    pick : X → X → X
    pick = picked picks number

    step : Option X → X → Option X
    step = choose_present number pick

    from_none : best ≡ end → (o : Option X) → fold step None ys ≡ o → both ≡ unwrap_or o end
    from_none at None g =
        let last : other ≡ end = is_other ∙ ap (λ o. unwrap_or o end) g in
        next None at ∙ ap (λ x. unwrap_or (step None x) end) last ∙ end_alone (is_some (number end)) end
    from_none at (Some d) g =
        let last : other ≡ d = is_other ∙ ap (λ o. unwrap_or o end) g in
        let has = picked_number picks number ys None d (none_has number) g in
        next None at ∙ ap (λ x. unwrap_or (step None x) end) last ∙ ap (λ o. unwrap_or o end) (taken number pick None d has.value has.is)

    from_some : (c : X) (n : ℤ) → number c ≡ Some n → best ≡ c → (o : Option X) → fold step None ys ≡ o → both ≡ unwrap_or (beside pick (Some c) o) end
    from_some c n e at None g =
        let last : other ≡ end = is_other ∙ ap (λ o. unwrap_or o end) g in
        stays last (subst IsSome (sym (ap number at ∙ e)) (search rules)) ∙ at
    from_some c n e at (Some d) g =
        let last : other ≡ d = is_other ∙ ap (λ o. unwrap_or o end) g in
        let has = picked_number picks number ys None d (none_has number) g in
        next (Some c) at ∙ ap (λ x. unwrap_or (step (Some c) x) end) last ∙ ap (λ o. unwrap_or o end) (taken number pick (Some c) d has.value has.is)

    by_first : (o : Option X) → fold step None xs ≡ o → both ≡ unwrap_or (fold step (fold step None xs) ys) end
    by_first None g =
        from_none (is_best ∙ ap (λ o. unwrap_or o end) g) (fold step None ys) refl
        ∙ ap (λ o. unwrap_or (fold step o ys) end) (sym g)
    by_first (Some c) g =
        let has = picked_number picks number xs None c (none_has number) g in
        from_some c has.value has.is (is_best ∙ ap (λ o. unwrap_or o end) g) (fold step None ys) refl
        ∙ ap (λ o. unwrap_or o end) (sym (picked_after picks number ranks ys c has.value has.is))
        ∙ ap (λ o. unwrap_or (fold step o ys) end) (sym g)
