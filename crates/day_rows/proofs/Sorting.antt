-- A list without ties has one sorted order.
use Rattle.std.proofs.Common.{◌≡◌, ℕ, suc, Bool, true, false, not, cond, List, [], ◌∷◌, ◌++◌, filter, flat_map, length, get_or, swap, set, refl, sym, ap, ap₂, ◌∙◌, subst, arith, append_assoc, Ordering, Less, Equal, Greater, is_lt, is_gt, is_eq, true≢false, IsPermutation, IsSorted, ◌<◌, zero}
use Rattle.std.specs.List.{AllByRecursion}
use Rattle.std.specs.Cmp.{IsTotalOrder}
use Rattle.std.specs.Ordering.{ordering_reverse}
use Rattle.std.proofs.lemmas.Cmp.{tied_itself, upto}
use Rattle.std.proofs.lemmas.List.Elements.{recursion_from_All, All-from_recursion}
use Rattle.std.proofs.lemmas.List.Sorted.{length_permutation, All-permutation, IsPermutation-refl, IsPermutation-keeps, IsPermutation-cons, IsPermutation-trans, IsPermutation-middle, IsPermutation-append_left, IsPermutation-append_right, IsPermutation-append_comm}
use Rattle.day_rows.specs.Sorted.{inserted, in_order, IsAscending}

pub filter_as_flat_map : {A : Type 0} (p : A → Bool) (xs : List A) → filter p xs ≡ flat_map (λ x. cond (p x) (x ∷ []) []) xs
filter_as_flat_map p [] = refl
filter_as_flat_map p (x ∷ xs) =
    elim (p x) as (λ b. cond b (x ∷ filter p xs) (filter p xs) ≡ cond b (x ∷ []) [] ++ flat_map (λ y. cond (p y) (y ∷ []) []) xs)
    [ true ↦ ap (λ l. x ∷ l) (filter_as_flat_map p xs) | false ↦ filter_as_flat_map p xs ]

pub all_weaker : {A : Type 0} (P Q : A → Type 0) → ((x : A) → P x → Q x) → (xs : List A) → AllByRecursion P xs → AllByRecursion Q xs
all_weaker P Q f [] h = tt
all_weaker P Q f (x ∷ xs) h = (f x h.0, all_weaker P Q f xs h.1)

all-filter : {A : Type 0} (P : A → Type 0) (p : A → Bool) (xs : List A) → AllByRecursion P xs → AllByRecursion P (filter p xs)
all-filter P p [] h = tt
all-filter P p (x ∷ xs) h =
    elim (p x) as (λ b. AllByRecursion P (cond b (x ∷ filter p xs) (filter p xs))) [ true ↦ (h.0, all-filter P p xs h.1) | false ↦ all-filter P p xs h.1 ]

module _ {A : Type 0} (p : A → Bool) where
  pub filter_all : (xs : List A) → AllByRecursion (λ x. p x ≡ true) xs → filter p xs ≡ xs
  filter_all [] h = refl
  filter_all (x ∷ xs) h = rw (h.0, filter_all xs h.1)

  pub filter_none : (xs : List A) → AllByRecursion (λ x. p x ≡ false) xs → filter p xs ≡ []
  filter_none [] h = refl
  filter_none (x ∷ xs) h = rw (h.0, filter_none xs h.1)

-- A relation holds along each permutation if it is reflexive and transitive, and is kept under a common head and under
-- an exchange of the first two elements.
module _ {X : Type 0} (R : List X → List X → Type 0) (same : (xs : List X) → R xs xs)
    (skip : (x : X) (xs ys : List X) → R xs ys → R (x ∷ xs) (x ∷ ys))
    (turn : (x y : X) (xs : List X) → R (x ∷ y ∷ xs) (y ∷ x ∷ xs))
    (chain : (xs ys zs : List X) → R xs ys → R ys zs → R xs zs) where
  to_head : (l : List X) (j : ℕ) (x d : X) → j < length l → R (x ∷ l) (get_or l j d ∷ set l j x)
  to_head [] j x d h = absurd (omega arith)
  to_head (y ∷ l) zero x d h = turn x y l
  to_head (y ∷ l) (suc j) x d h =
      chain _ _ _ (turn x y l) (chain _ _ _ (skip y _ _ (to_head l j x d (omega arith))) (turn y (get_or l j d) (set l j x)))

  exchanged : (l : List X) (i j : ℕ) (d : X) → i < length l → j < length l → R l (set (set l i (get_or l j d)) j (get_or l i d))
  exchanged [] i j d p q = absurd (omega arith)
  exchanged (x ∷ l) zero zero d p q = same (x ∷ l)
  exchanged (x ∷ l) zero (suc j) d p q = to_head l j x d (omega arith)
  exchanged (x ∷ l) (suc i) zero d p q = to_head l i x d (omega arith)
  exchanged (x ∷ l) (suc i) (suc j) d p q = skip x _ _ (exchanged l i j d (omega arith) (omega arith))

  swapped : (l : List X) (i j : ℕ) → i < length l → j < length l → R l (swap l i j)
  swapped [] i j p q = same []
  swapped (x ∷ l) i j p q = exchanged (x ∷ l) i j x p q

  pub along_permutation : (xs ys : List X) → IsPermutation xs ys → R xs ys
  along_permutation xs = IsPermutation-keeps xs (R xs) (same xs) (λ l i j p q h. chain xs l _ h (swapped l i j p q))

pub IsPermutation-flat_map : {A B : Type 0} (f : A → List B) (xs ys : List A) → IsPermutation xs ys → IsPermutation (flat_map f xs) (flat_map f ys)
IsPermutation-flat_map f = along_permutation (λ xs ys. IsPermutation (flat_map f xs) (flat_map f ys))
    (λ xs. IsPermutation-refl _)
    (λ x xs ys h. IsPermutation-append_right (f x) _ _ h)
    (λ x y xs. rw (← append_assoc (f x), ← append_assoc (f y)) (IsPermutation-append_left (flat_map f xs) _ _ (IsPermutation-append_comm (f x) (f y))))
    (λ xs ys zs. IsPermutation-trans _ _ _)

pub IsPermutation-filter : {A : Type 0} (p : A → Bool) (xs ys : List A) → IsPermutation xs ys → IsPermutation (filter p xs) (filter p ys)
IsPermutation-filter p xs ys h = rw (filter_as_flat_map p xs, filter_as_flat_map p ys) (IsPermutation-flat_map _ xs ys h)

pub ascending-filter : {X : Type 0} (R : X → X → Type 0) (p : X → Bool) (xs : List X) → IsAscending R xs → IsAscending R (filter p xs)
ascending-filter R p [] up = tt
ascending-filter R p (x ∷ xs) up =
    elim (p x) as (λ b. IsAscending R (cond b (x ∷ filter p xs) (filter p xs)))
    [ true ↦ (all-filter (R x) p xs up.0, ascending-filter R p xs up.1) | false ↦ ascending-filter R p xs up.1 ]

module _ {X : Type 0} (cmp : X → X → Ordering) (total : IsTotalOrder cmp) where
  abbrev AtMost : X → X → Type 0
  AtMost a b = is_gt (cmp a b) ≡ false

  turned : (o : Ordering) → is_lt o ≡ false → is_gt (ordering_reverse o) ≡ false
  turned Less h = h
  turned Equal h = refl
  turned Greater h = refl

  below_all : (x : X) (ys : List X) → IsSorted cmp (x ∷ ys) → IsAscending AtMost ys → AllByRecursion (AtMost x) ys
  below_all x [] sorted up = tt
  below_all x (y ∷ ys) sorted up =
      let first : AtMost x y = ap is_gt (total.antisymm x y) ∙ turned _ (sorted 0 x (omega arith) (omega arith)) in
      (first, all_weaker _ (AtMost x) (λ z. upto total x y z first) ys up.0)

  ascending_from_sorted : (xs : List X) → IsSorted cmp xs → IsAscending AtMost xs
  ascending_from_sorted [] sorted = tt
  ascending_from_sorted (x ∷ xs) sorted =
      let tail : IsSorted cmp xs = λ k d p q. rw Rattle.std.proofs.Common.add-one (rw Rattle.std.proofs.Common.add-one at (sorted (suc k) d (omega arith) (omega arith))) in
      let up = ascending_from_sorted xs tail in
      (below_all x xs sorted up, up)

  abbrev is_above : X → X → Bool
  is_above x z = is_lt (cmp x z)

  still_above : (x y z : X) → is_above x y ≡ true → AtMost y z → is_above x z ≡ true
  still_above x y z h up = go (cmp x y) (cmp y z) refl refl h up
    where
      go : (a b : Ordering) → cmp x y ≡ a → cmp y z ≡ b → is_lt a ≡ true → is_gt b ≡ false → is_above x z ≡ true
      go Less Less p q s t = ap is_lt (total.trans x y z p q)
      go Less Equal p q s t = ap is_lt (sym (Rattle.std.proofs.lemmas.Cmp.alike_right total y z x q) ∙ p)
      go Less Greater p q s t = absurd (true≢false t)
      go Equal b p q s t = absurd (true≢false (sym s))
      go Greater b p q s t = absurd (true≢false (sym s))

  -- a sorted list is what is not above x, and then what is
  split : (x : X) (ys : List X) → IsAscending AtMost ys → ys ≡ filter (λ z. not (is_above x z)) ys ++ filter (is_above x) ys
  split x [] up = refl
  split x (y ∷ ys) up = go (is_above x y) refl (split x ys up.1)
    where
      go : (b : Bool) → is_above x y ≡ b → ys ≡ filter (λ z. not (is_above x z)) ys ++ filter (is_above x) ys
          → y ∷ ys ≡ filter (λ z. not (is_above x z)) (y ∷ ys) ++ filter (is_above x) (y ∷ ys)
      go false e more = rw e (ap (λ l. y ∷ l) more)
      go true e more =
          let above = all_weaker _ (λ z. is_above x z ≡ true) (λ z. still_above x y z e) ys up.0 in
          rw (e, filter_none _ ys (all_weaker _ (λ z. not (is_above x z) ≡ false) (λ z h. ap not h) ys above), filter_all _ ys above)

  one : (x : X) (ys : List X) → IsPermutation (x ∷ []) ys → ys ≡ x ∷ []
  one x [] same = absurd (omega (arith, length_permutation _ _ same))
  one x (y ∷ []) same = ap (λ z. z ∷ []) (recursion_from_All (λ z. z ≡ x) (y ∷ []) (All-permutation (λ z. z ≡ x) (x ∷ []) (y ∷ []) same (All-from_recursion (λ z. z ≡ x) (x ∷ []) (refl, tt)))).0
  one x (y ∷ z ∷ ys) same = absurd (omega (arith, length_permutation _ _ same))

  -- Of the orders of a list with no ties, one is sorted. Its head is all that is not above the head, and the rest follows by induction.
  same_order : (xs ys : List X) → IsAscending (λ a b. cmp a b ≡ Less) xs → IsPermutation xs ys → IsAscending AtMost ys → ys ≡ xs
  same_order [] [] strict same up = refl
  same_order [] (y ∷ ys) strict same up = absurd (omega (arith, length_permutation _ _ same))
  same_order (x ∷ xs) ys strict same up =
      let here : is_above x x ≡ false = ap is_lt (tied_itself total x) in
      let above = all_weaker _ (λ z. is_above x z ≡ true) (λ z h. ap is_lt h) xs strict.0 in
      let first : filter (λ z. not (is_above x z)) (x ∷ xs) ≡ x ∷ [] =
      rw (here, filter_none _ xs (all_weaker _ (λ z. not (is_above x z) ≡ false) (λ z h. ap not h) xs above)) in
      let later : filter (is_above x) (x ∷ xs) ≡ xs = rw (here, filter_all _ xs above) in
      let head = one x _ (subst (λ l. IsPermutation l (filter (λ z. not (is_above x z)) ys)) first (IsPermutation-filter (λ z. not (is_above x z)) _ _ same)) in
      let tail = same_order xs _ strict.1 (subst (λ l. IsPermutation l (filter (is_above x) ys)) later (IsPermutation-filter (is_above x) _ _ same)) (ascending-filter AtMost _ ys up) in
      split x ys up ∙ ap₂ ◌++◌ head tail

  pub sorted_unique : (xs ys : List X) → IsAscending (λ a b. cmp a b ≡ Less) xs → IsPermutation xs ys → IsSorted cmp ys → ys ≡ xs
  sorted_unique xs ys strict same sorted = same_order xs ys strict same (ascending_from_sorted ys sorted)

  abbrev pub HasNoTies : List X → Type 0
  HasNoTies = IsAscending (λ a b. is_eq (cmp a b) ≡ false)

  pub all-inserted : (P : X → Type 0) (new : X) (xs : List X) → P new → AllByRecursion P xs → AllByRecursion P (inserted cmp new xs)
  all-inserted P new [] h all = (h, tt)
  all-inserted P new (x ∷ xs) h all =
      elim (is_gt (cmp new x)) as (λ b. AllByRecursion P (cond b (x ∷ inserted cmp new xs) (new ∷ x ∷ xs))) [ true ↦ (all.0, all-inserted P new xs h all.1) | false ↦ (h, all) ]

  all-in_order : (P : X → Type 0) (xs : List X) → AllByRecursion P xs → AllByRecursion P (in_order cmp xs)
  all-in_order P [] all = tt
  all-in_order P (x ∷ xs) all = all-inserted P x _ all.0 (all-in_order P xs all.1)

  pub rises-inserted : (new : X) (xs : List X) → AllByRecursion (λ y. is_eq (cmp new y) ≡ false) xs → IsAscending (λ a b. cmp a b ≡ Less) xs → IsAscending (λ a b. cmp a b ≡ Less) (inserted cmp new xs)
  rises-inserted new [] apart up = (tt, tt)
  rises-inserted new (x ∷ xs) apart up = go (cmp new x) refl (rises-inserted new xs apart.1 up.1)
    where
      go : (o : Ordering) → cmp new x ≡ o → IsAscending (λ a b. cmp a b ≡ Less) (inserted cmp new xs)
          → IsAscending (λ a b. cmp a b ≡ Less) (cond (is_gt o) (x ∷ inserted cmp new xs) (new ∷ x ∷ xs))
      go Less e more = ((e, all_weaker _ (λ y. cmp new y ≡ Less) (λ y. total.trans new x y e) xs up.0), up)
      go Equal e more = absurd (true≢false (sym (ap is_eq e) ∙ apart.0))
      go Greater e more = (all-inserted _ new xs (total.antisymm x new ∙ ap ordering_reverse e) up.0, more)

  pub rises-in_order : (xs : List X) → HasNoTies xs → IsAscending (λ a b. cmp a b ≡ Less) (in_order cmp xs)
  rises-in_order [] apart = tt
  rises-in_order (x ∷ xs) apart = rises-inserted x _ (all-in_order _ xs apart.0) (rises-in_order xs apart.1)

  pub IsPermutation-inserted : (new : X) (xs : List X) → IsPermutation (inserted cmp new xs) (new ∷ xs)
  IsPermutation-inserted new [] = IsPermutation-refl _
  IsPermutation-inserted new (x ∷ xs) =
      elim (is_gt (cmp new x)) as (λ b. IsPermutation (cond b (x ∷ inserted cmp new xs) (new ∷ x ∷ xs)) (new ∷ x ∷ xs)) [
        | true ↦ IsPermutation-trans _ _ _ (IsPermutation-cons x _ _ (IsPermutation-inserted new xs)) (IsPermutation-middle (x ∷ []) new xs)
        | false ↦ IsPermutation-refl _
      ]

  pub IsPermutation-in_order : (xs : List X) → IsPermutation (in_order cmp xs) xs
  IsPermutation-in_order [] = IsPermutation-refl []
  IsPermutation-in_order (x ∷ xs) = IsPermutation-trans _ _ _ (IsPermutation-inserted x _) (IsPermutation-cons x _ _ (IsPermutation-in_order xs))

  pub sorted_is-in_order : (xs ys : List X) → HasNoTies xs → IsPermutation xs ys → IsSorted cmp ys → ys ≡ in_order cmp xs
  sorted_is-in_order xs ys apart same sorted = sorted_unique _ ys (rises-in_order xs apart) (IsPermutation-trans _ _ _ (IsPermutation-in_order xs) same) sorted
