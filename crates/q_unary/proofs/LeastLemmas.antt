-- What min finds.
use Rattle.std.proofs.Common.{◌≡◌, ◌≤ℤ◌, ◌<ℤ◌, ◌⊎◌, inl, inr, ⊎_elim, ℤ, cond, List, [], ◌∷◌, Option, Some, None, refl, sym, ap, ◌∙◌, subst, arith}
use Rattle.std.specs.Prelude.{fold, is_some, unwrap_or}
use Rattle.std.specs.declared.cmp.Ordering.{Ordering}
use Rattle.std.specs.declared.cmp.Ordering.TheVariants.{Less, Equal, Greater}
use Rattle.std.specs.Ordering.{MatchOrdering, int_cmp, nat_cmp, is_le, ordering_then}
use Rattle.std.specs.Cmp.{int_ranks}
use Rattle.std.specs.Cmp.Lexicographic.{slice_cmp}
use Rattle.std.proofs.lemmas.Int.{ints}
use Rattle.q_values.specs.declared.atom.Atom.{Atom}
use Rattle.q_verbs.specs.declared.verb.Verb.TheVariants as v
use Rattle.q_verbs.specs.Numbers.{worth, number_cmp}
use Rattle.q_verbs.specs.Places.{chosen}
use Rattle.q_values.specs.declared.kind.Kind.{Kind}
use Rattle.q_verbs.specs.Aggregates.{number_of, best_of, choose_present, greatest}
use Rattle.q_unary.specs.Laws.{IsItem, NoneIsLess, LeastIsItem}

abbrev Picked : Atom → Atom → Atom → ℤ → ℤ → Type 0
Picked r b x n z = ((r ≡ b) × (n ≤ℤ z)) ⊎ ((r ≡ x) × (z ≤ℤ n))

picked_by : (o s : Ordering) (b x : Atom) (n z : ℤ) → MatchOrdering o (n <ℤ z) (n ≡ z) (z <ℤ n) → Picked (cond (is_le (ordering_then o s)) b x) b x n z
picked_by Less s b x n z m = inl (refl, omega (arith, ints, m))
picked_by Equal Less b x n z m = inl (refl, omega (arith, ints, m))
picked_by Equal Equal b x n z m = inl (refl, omega (arith, ints, m))
picked_by Equal Greater b x n z m = inr (refl, omega (arith, ints, m))
picked_by Greater s b x n z m = inr (refl, omega (arith, ints, m))

picked : (b x : Atom) (n z : ℤ) → number_of b ≡ Some n → number_of x ≡ Some z → Picked (chosen v.Lesser b x) b x n z
picked b x n z d e =
    let texts = slice_cmp nat_cmp (worth b).text (worth x).text in
    subst (λ o. Picked (cond (is_le (ordering_then o texts)) b x) b x n z) (λ i. number_cmp (sym d i) (sym e i)) (picked_by (int_cmp n z) texts b x n z (int_ranks n z))

abbrev step : Option Atom → Atom → Option Atom
step = choose_present number_of (chosen v.Lesser)

record Below (best : Atom) (n : ℤ) (xs : List Atom) : Type 0 where
  least : ℤ
  is : number_of best ≡ Some least
  under : least ≤ℤ n
  none : NoneIsLess least xs

passed : (b : Option Atom) (x : Atom) → number_of x ≡ None → step b x ≡ b
passed b x e = ap (λ o. cond (is_some o) (Some (best_of (chosen v.Lesser) b x)) b) e

taken : (b : Option Atom) (x : Atom) (z : ℤ) → number_of x ≡ Some z → step b x ≡ Some (best_of (chosen v.Lesser) b x)
taken b x z e = ap (λ o. cond (is_some o) (Some (best_of (chosen v.Lesser) b x)) b) e

abbrev Finds : List Atom → Type 0
Finds xs = (b : Atom) (n : ℤ) (best : Atom) → number_of b ≡ Some n → fold step (Some b) xs ≡ Some best → Below best n xs × ((best ≡ b) ⊎ IsItem best xs)

not_null : (x : Atom) (z : ℤ) → number_of x ≡ None → number_of x ≡ Some z → ⊥
not_null x z p q = let never : None ≡ Some z = sym p ∙ q in cc

one_number : (x : Atom) (z y : ℤ) → number_of x ≡ Some z → number_of x ≡ Some y → z ≡ y
one_number x z y p q = let both : Some z ≡ Some y = sym p ∙ q in cc

over_null : (x : Atom) (xs : List Atom) → Finds xs → number_of x ≡ None → Finds (x ∷ xs)
over_null x xs rest p b n best d e =
    let r = rest b n best d (ap (λ s. fold step s xs) (sym (passed (Some b) x p)) ∙ e) in (
      record { least = r.0.least; is = r.0.is; under = r.0.under; none = ((λ z q. absurd (not_null x z p q)), r.0.none) },
      ⊎_elim (λ s. inl s) (λ i. inr (inr i)) r.1,
    )

over_number : (x : Atom) (xs : List Atom) (z : ℤ) → Finds xs → number_of x ≡ Some z → Finds (x ∷ xs)
over_number x xs z rest p b n best d e =
    let before : fold step (Some (chosen v.Lesser b x)) xs ≡ Some best = ap (λ s. fold step s xs) (sym (taken (Some b) x z p)) ∙ e in
    ⊎_elim (kept before) (changed before) (picked b x n z d p)
  where
    kept : fold step (Some (chosen v.Lesser b x)) xs ≡ Some best → (chosen v.Lesser b x ≡ b) × (n ≤ℤ z) → Below best n (x ∷ xs) × ((best ≡ b) ⊎ IsItem best (x ∷ xs))
    kept before k =
        let r = rest b n best d (ap (λ a. fold step (Some a) xs) (sym k.0) ∙ before) in
        let low : r.0.least ≤ℤ z = omega (arith, ints, r.0.under, k.1) in (
          record { least = r.0.least; is = r.0.is; under = r.0.under; none = ((λ y q. subst (λ t. r.0.least ≤ℤ t) (one_number x z y p q) low), r.0.none) },
          ⊎_elim (λ s. inl s) (λ i. inr (inr i)) r.1,
        )

    changed : fold step (Some (chosen v.Lesser b x)) xs ≡ Some best → (chosen v.Lesser b x ≡ x) × (z ≤ℤ n) → Below best n (x ∷ xs) × ((best ≡ b) ⊎ IsItem best (x ∷ xs))
    changed before k =
        let r = rest x z best p (ap (λ a. fold step (Some a) xs) (sym k.0) ∙ before) in
        let low : r.0.least ≤ℤ n = omega (arith, ints, r.0.under, k.1) in (
          record { least = r.0.least; is = r.0.is; under = low; none = ((λ y q. subst (λ t. r.0.least ≤ℤ t) (one_number x z y p q) r.0.under), r.0.none) },
          ⊎_elim (λ s. inr (inl s)) (λ i. inr (inr i)) r.1,
        )

by_number : (x : Atom) (xs : List Atom) (o : Option ℤ) → number_of x ≡ o → Finds xs → Finds (x ∷ xs)
by_number x xs None p rest = over_null x xs rest p
by_number x xs (Some z) p rest = over_number x xs z rest p

finds : (xs : List Atom) → Finds xs
finds [] = λ b n best d e.
    let same : b ≡ best = cc in
    (record { least = n; is = subst (λ t. number_of t ≡ Some n) same d; under = omega (arith, ints); none = tt }, inl (sym same))
finds (x ∷ xs) = by_number x xs (number_of x) refl (finds xs)

record Least (best : Atom) (xs : List Atom) : Type 0 where
  least : ℤ
  is : number_of best ≡ Some least
  none : NoneIsLess least xs
  item : IsItem best xs

first_number : (x : Atom) (xs : List Atom) (best : Atom) (o : Option ℤ) → number_of x ≡ o → (fold step None xs ≡ Some best → Least best xs) → fold step None (x ∷ xs) ≡ Some best → Least best (x ∷ xs)
first_number x xs best None p rest e =
    let r = rest (ap (λ s. fold step s xs) (sym (passed None x p)) ∙ e) in
    record { least = r.least; is = r.is; none = ((λ z q. absurd (not_null x z p q)), r.none); item = inr r.item }
first_number x xs best (Some z) p rest e =
    let r = finds xs x z best p (ap (λ s. fold step s xs) (sym (taken None x z p)) ∙ e) in
    record { least = r.0.least; is = r.0.is; none = ((λ y q. subst (λ t. r.0.least ≤ℤ t) (one_number x z y p q) r.0.under), r.0.none); item = r.1 }

least_of : (xs : List Atom) (best : Atom) → fold step None xs ≡ Some best → Least best xs
least_of [] best e = cc
least_of (x ∷ xs) best e = first_number x xs best (number_of x) refl (least_of xs best) e

abbrev Stays : List Atom → Type 0
Stays xs = (b : Atom) → fold step (Some b) xs ≡ None → ⊥

stays_over : (x : Atom) (xs : List Atom) (o : Option ℤ) → number_of x ≡ o → Stays xs → Stays (x ∷ xs)
stays_over x xs None p rest b e = rest b (ap (λ s. fold step s xs) (sym (passed (Some b) x p)) ∙ e)
stays_over x xs (Some z) p rest b e = rest (chosen v.Lesser b x) (ap (λ s. fold step s xs) (sym (taken (Some b) x z p)) ∙ e)

-- where something was chosen, something stays chosen
stays : (xs : List Atom) → Stays xs
stays [] b e = cc
stays (x ∷ xs) b e = stays_over x xs (number_of x) refl (stays xs) b e

null_over : (m : ℤ) (x : Atom) (xs : List Atom) (o : Option ℤ) → number_of x ≡ o → (fold step None xs ≡ None → NoneIsLess m xs) → fold step None (x ∷ xs) ≡ None → NoneIsLess m (x ∷ xs)
null_over m x xs None p rest e = ((λ z q. absurd (not_null x z p q)), rest (ap (λ s. fold step s xs) (sym (passed None x p)) ∙ e))
null_over m x xs (Some z) p rest e = absurd (stays xs x (ap (λ s. fold step s xs) (sym (taken None x z p)) ∙ e))

-- where nothing is chosen, no item has a number
all_null : (m : ℤ) (xs : List Atom) → fold step None xs ≡ None → NoneIsLess m xs
all_null m [] e = tt
all_null m (x ∷ xs) e = null_over m x xs (number_of x) refl (all_null m xs) e

abbrev Given : Kind → List Atom → Option Atom → Type 0
Given kind xs o =
    (IsItem (unwrap_or o (greatest kind)) xs ⊎ (unwrap_or o (greatest kind) ≡ greatest kind))
    × ((m : ℤ) → number_of (unwrap_or o (greatest kind)) ≡ Some m → NoneIsLess m xs)

given_by : (kind : Kind) (xs : List Atom) (o : Option Atom) → fold step None xs ≡ o → Given kind xs o
given_by kind xs None e = (inr refl, λ m q. all_null m xs e)
given_by kind xs (Some best) e =
    let r = least_of xs best e in
    (inl r.item, λ m q. subst (λ t. NoneIsLess t xs) (one_number best r.least m r.is q) r.none)

pub least_is_item : LeastIsItem
least_is_item kind xs = given_by kind xs (fold step None xs) refl
