-- What one more item does to groups.
use Rattle.std.proofs.Common.{◌≡◌, ℕ, ◌+◌, ◌<◌, ◌≤◌, ◌≢◌, Bool, true, false, not, ◌||◌, if◌then◌else◌, List, [], ◌∷◌, ◌++◌, length, get_or, take, map, fold, Some, slice_get, zero, suc, cond, refl, sym, ap, ◌∙◌, subst, arith, true≢false}
use Rattle.std.specs.List.{list_any, position_or_len, IsDistinct}
use Rattle.std.specs.Cmp.{IsEquivalence}
use Rattle.std.proofs.lemmas.List.{take_more, map-append, length-map}
use Rattle.std.proofs.lemmas.List.Folds.{list_any-append}
use Rattle.std.proofs.lemmas.List.Sums.{fold-append, position_or_len_is}
use Rattle.std.proofs.lemmas.Map.Keys.{apart_from_distinct}
use Rattle.std.proofs.lemmas.Option.{get_or_from_slice_get, slice_get_within}
use Rattle.q_groups.specs.Groups.{with_item, distinct, first_of, codes_of, firsts_of, IsNumbered}

pub any_at : {X : Type 0} (p : X → Bool) (xs : List X) (n : ℕ) (d : X) → n < length xs → p (get_or xs n d) ≡ true → list_any p xs ≡ true
any_at p [] n d low e = absurd (omega arith)
any_at p (x ∷ xs) zero d low e = ap (λ b. b || list_any p xs) e
any_at p (x ∷ xs) (suc n) d low e = ap (λ b. p x || b) (any_at p xs n d (omega arith) e) ∙ or_true (p x)
  where
    or_true : (b : Bool) → (b || true) ≡ true
    or_true true = refl
    or_true false = refl

module _ {X : Type 0} (same : X → X → Bool) (laws : IsEquivalence same) where
  -- where a value that is equal to x stands among distinct ones is the index of x
  pub recalled_is : (values : List X) (n : ℕ) (x v : X) → IsDistinct same values → slice_get values n ≡ Some v → same x v ≡ true → n ≡ first_of same values x
  recalled_is values n x v apart at e =
      let low = slice_get_within values n v at in
      let here = get_or_from_slice_get values n v v at in
      sym (position_or_len_is (same x) values n v (omega arith)
      (λ k below. laws.congr x v (get_or values k v) e ∙ laws.symm v (get_or values k v) ∙ ap (same (get_or values k v)) (sym here) ∙ apart_from_distinct same values k n v apart below low)
      (λ _. ap (same x) here ∙ e))

  pub recalled_seen : (values : List X) (n : ℕ) (x v : X) → slice_get values n ≡ Some v → same x v ≡ true → list_any (same x) values ≡ true
  recalled_seen values n x v at e =
      any_at (same x) values n v (slice_get_within values n v at) (ap (same x) (get_or_from_slice_get values n v v at) ∙ e)

pub with_item-seen : {X : Type 0} (same : X → X → Bool) (values : List X) (x : X) → list_any (same x) values ≡ true → values ≡ with_item same values x
with_item-seen same values x e = sym (ap (λ b. if b then values else values ++ x ∷ []) e)

-- where an item passes, more items after it change nothing
pub pos_found : {X : Type 0} (p : X → Bool) (xs ys : List X) → list_any p xs ≡ true → position_or_len p (xs ++ ys) ≡ position_or_len p xs
pos_found p [] ys e = absurd (true≢false (sym e))
pos_found {X} p (x ∷ xs) ys e = go (p x) refl (λ h. pos_found p xs ys (sym (ap (λ b. b || list_any p xs) h) ∙ e))
  where
    go : (b : Bool) → p x ≡ b → (p x ≡ false → position_or_len p (xs ++ ys) ≡ position_or_len p xs) → position_or_len p (x ∷ xs ++ ys) ≡ position_or_len p (x ∷ xs)
    go true h rest = rw h refl
    go false h rest = rw h (ap (λ n. 1 + n) (rest h))

pub pos_below : {X : Type 0} (p : X → Bool) (xs : List X) → list_any p xs ≡ true → position_or_len p xs < length xs
pos_below p [] e = absurd (true≢false (sym e))
pos_below {X} p (x ∷ xs) e = go (p x) refl (λ h. pos_below p xs (sym (ap (λ b. b || list_any p xs) h) ∙ e))
  where
    go : (b : Bool) → p x ≡ b → (p x ≡ false → position_or_len p xs < length xs) → position_or_len p (x ∷ xs) < length (x ∷ xs)
    go true h rest = rw h (omega arith)
    go false h rest = rw h (let more = rest h in omega arith)

pub pos_absent : {X : Type 0} (p : X → Bool) (xs : List X) → list_any p xs ≡ false → position_or_len p xs ≡ length xs
pos_absent p [] e = refl
pos_absent {X} p (x ∷ xs) e = go (p x) refl (λ h. pos_absent p xs (sym (ap (λ b. b || list_any p xs) h) ∙ e))
  where
    go : (b : Bool) → p x ≡ b → (p x ≡ false → position_or_len p xs ≡ length xs) → position_or_len p (x ∷ xs) ≡ length (x ∷ xs)
    go true h rest = absurd (true≢false (sym (ap (λ b. b || list_any p xs) h) ∙ e))
    go false h rest = rw h (let r = rest h in omega (arith, r))

pub pos_new : {X : Type 0} (p : X → Bool) (xs : List X) (y : X) → list_any p xs ≡ false → p y ≡ true → position_or_len p (xs ++ y ∷ []) ≡ length xs
pos_new p [] y e new = rw new refl
pos_new {X} p (x ∷ xs) y e new = go (p x) refl (λ h. pos_new p xs y (sym (ap (λ b. b || list_any p xs) h) ∙ e) new)
  where
    go : (b : Bool) → p x ≡ b → (p x ≡ false → position_or_len p (xs ++ y ∷ []) ≡ length xs) → position_or_len p (x ∷ xs ++ y ∷ []) ≡ length (x ∷ xs)
    go true h rest = absurd (true≢false (sym (ap (λ b. b || list_any p xs) h) ∙ e))
    go false h rest = rw h (let r = rest h in omega (arith, r))

or_true : (b : Bool) → (b || true) ≡ true
or_true true = refl
or_true false = refl

or_false : (b : Bool) → (b || false) ≡ b
or_false true = refl
or_false false = refl

or_assoc : (a b c : Bool) → ((a || b) || c) ≡ (a || (b || c))
or_assoc true b c = refl
or_assoc false b c = refl

module _ {X : Type 0} (same : X → X → Bool) (laws : IsEquivalence same) where
  any_alike : (x y : X) → same x y ≡ true → (zs : List X) → list_any (same x) zs ≡ list_any (same y) zs
  any_alike x y e [] = refl
  any_alike x y e (z ∷ zs) = λ i. laws.congr x y z e i || any_alike x y e zs i

  any_with : (x y : X) (zs : List X) → list_any (same x) (with_item same zs y) ≡ (list_any (same x) zs || same x y)
  any_with x y zs = go (list_any (same y) zs) refl (same x y) refl
    where
      go : (b : Bool) → list_any (same y) zs ≡ b → (a : Bool) → same x y ≡ a → list_any (same x) (if b then zs else zs ++ y ∷ []) ≡ (list_any (same x) zs || a)
      go true e true h = any_alike x y h zs ∙ e ∙ sym (or_true (list_any (same x) zs))
      go true e false h = sym (or_false (list_any (same x) zs))
      go false e a h = list_any-append (same x) zs (y ∷ []) ∙ ap (λ b. list_any (same x) zs || b) (or_false (same x y) ∙ h)

  any_fold : (x : X) (zs ys : List X) → list_any (same x) (fold (with_item same) zs ys) ≡ (list_any (same x) zs || list_any (same x) ys)
  any_fold x zs [] = sym (or_false (list_any (same x) zs))
  any_fold x zs (y ∷ ys) = any_fold x (with_item same zs y) ys ∙ ap (λ b. b || list_any (same x) ys) (any_with x y zs) ∙ or_assoc (list_any (same x) zs) (same x y) (list_any (same x) ys)

  -- an item is among the distinct items where it is among the items
  pub any_distinct : (x : X) (xs : List X) → list_any (same x) (distinct same xs) ≡ list_any (same x) xs
  any_distinct x xs = any_fold x [] xs

  pub distinct-push : (xs : List X) (x : X) → distinct same (xs ++ x ∷ []) ≡ with_item same (distinct same xs) x
  distinct-push xs x = fold-append (with_item same) [] xs (x ∷ [])

  -- first places in items that all these are among stay where an item is added
  map-grown : (zs : List X) (n : X) (ys : List X) → ((y : X) → list_any (same y) ys ≡ true → list_any (same y) zs ≡ true) → map (first_of same (zs ++ n ∷ [])) ys ≡ map (first_of same zs) ys
  map-grown zs n [] h = refl
  map-grown zs n (y ∷ ys) h =
      let head = pos_found (same y) zs (n ∷ []) (h y (ap (λ b. b || list_any (same y) ys) (laws.refl y))) in
      let rest = map-grown zs n ys (λ z e. h z (ap (λ b. same z y || b) e ∙ or_true (same z y))) in
      λ i. head i ∷ rest i

  firsts_seen : (xs : List X) (x : X) → list_any (same x) (distinct same xs) ≡ true → firsts_of same (xs ++ x ∷ []) ≡ firsts_of same xs
  firsts_seen xs x seen =
      ap (map (first_of same (xs ++ x ∷ []))) (distinct-push xs x ∙ sym (with_item-seen same (distinct same xs) x seen))
      ∙ map-grown xs x (distinct same xs) (λ y e. sym (any_distinct y xs) ∙ e)

  codes_seen : (xs : List X) (x : X) → list_any (same x) (distinct same xs) ≡ true → codes_of same (xs ++ x ∷ []) ≡ codes_of same xs ++ first_of same (distinct same xs) x ∷ []
  codes_seen xs x seen =
      ap (λ values. map (first_of same values) (xs ++ x ∷ [])) (distinct-push xs x ∙ sym (with_item-seen same (distinct same xs) x seen))
      ∙ map-append (first_of same (distinct same xs)) xs (x ∷ [])

  with_item-new : (values : List X) (x : X) → list_any (same x) values ≡ false → with_item same values x ≡ values ++ x ∷ []
  with_item-new values x e = ap (λ b. if b then values else values ++ x ∷ []) e

  firsts_new : (xs : List X) (x : X) → list_any (same x) (distinct same xs) ≡ false → firsts_of same (xs ++ x ∷ []) ≡ firsts_of same xs ++ length xs ∷ []
  firsts_new xs x new =
      ap (map (first_of same (xs ++ x ∷ []))) (distinct-push xs x ∙ with_item-new (distinct same xs) x new)
      ∙ map-append (first_of same (xs ++ x ∷ [])) (distinct same xs) (x ∷ [])
      ∙ (λ i. map-grown xs x (distinct same xs) (λ y e. sym (any_distinct y xs) ∙ e) i ++ pos_new (same x) xs x (sym (any_distinct x xs) ∙ new) (laws.refl x) i ∷ [])

  codes_new : (xs : List X) (x : X) → list_any (same x) (distinct same xs) ≡ false → codes_of same (xs ++ x ∷ []) ≡ codes_of same xs ++ first_of same (distinct same xs) x ∷ []
  codes_new xs x new =
      ap (λ values. map (first_of same values) (xs ++ x ∷ [])) (distinct-push xs x ∙ with_item-new (distinct same xs) x new)
      ∙ map-append (first_of same (distinct same xs ++ x ∷ [])) xs (x ∷ [])
      ∙ (λ i. map-grown (distinct same xs) x xs (λ y e. any_distinct y xs ∙ e) i ++ (pos_new (same x) (distinct same xs) x new (laws.refl x) ∙ sym (pos_absent (same x) (distinct same xs) new)) i ∷ [])

  pub numbered_seen : (xs values : List X) (codes firsts : List ℕ) (x : X) (n : ℕ) → IsNumbered same xs values codes firsts → n ≡ first_of same values x → n ≢ length values
      → IsNumbered same (xs ++ x ∷ []) (with_item same values x) (codes ++ n ∷ []) firsts
  numbered_seen xs values codes firsts x n h is known = go (list_any (same x) (distinct same xs)) refl
    where
      is' : n ≡ first_of same (distinct same xs) x
      is' = is ∙ ap (λ v. first_of same v x) h.values_are

      go : (b : Bool) → list_any (same x) (distinct same xs) ≡ b → IsNumbered same (xs ++ x ∷ []) (with_item same values x) (codes ++ n ∷ []) firsts
      go true e = record {
        values_are = ap (λ v. with_item same v x) h.values_are ∙ sym (distinct-push xs x);
        codes_are = (λ i. h.codes_are i ++ is' i ∷ []) ∙ sym (codes_seen xs x e);
        firsts_are = h.firsts_are ∙ sym (firsts_seen xs x e);
      }
      go false e = absurd (known (is' ∙ pos_absent (same x) (distinct same xs) e ∙ ap length (sym h.values_are)))

  pub numbered_new : (xs values : List X) (codes firsts : List ℕ) (x : X) (n at : ℕ) → IsNumbered same xs values codes firsts → n ≡ first_of same values x → n ≡ length values → at ≡ length codes
      → IsNumbered same (xs ++ x ∷ []) (with_item same values x) (codes ++ n ∷ []) (firsts ++ at ∷ [])
  numbered_new xs values codes firsts x n at h is known place = go (list_any (same x) (distinct same xs)) refl
    where
      is' : n ≡ first_of same (distinct same xs) x
      is' = is ∙ ap (λ v. first_of same v x) h.values_are

      at' : at ≡ length xs
      at' = place ∙ ap length h.codes_are ∙ length-map xs (first_of same (distinct same xs))

      go : (b : Bool) → list_any (same x) (distinct same xs) ≡ b → IsNumbered same (xs ++ x ∷ []) (with_item same values x) (codes ++ n ∷ []) (firsts ++ at ∷ [])
      go true e = absurd (let low = pos_below (same x) (distinct same xs) e in let len = ap length h.values_are in omega (arith, low, len, is', known))
      go false e = record {
        values_are = ap (λ v. with_item same v x) h.values_are ∙ sym (distinct-push xs x);
        codes_are = (λ i. h.codes_are i ++ is' i ∷ []) ∙ sym (codes_new xs x e);
        firsts_are = (λ i. h.firsts_are i ++ at' i ∷ []) ∙ sym (firsts_new xs x e);
      }

pub numbered_by : {X : Type 0} (same : X → X → Bool) (xs values values' : List X) (codes codes' firsts firsts' : List ℕ) → values' ≡ values → codes' ≡ codes → firsts' ≡ firsts → IsNumbered same xs values codes firsts → IsNumbered same xs values' codes' firsts'
numbered_by same xs values values' codes codes' firsts firsts' v k f h = record { values_are = v ∙ h.values_are; codes_are = k ∙ h.codes_are; firsts_are = f ∙ h.firsts_are }
