-- The first table in which two lists of tables differ that ascend by name.
use Rattle.std.proofs.Common.{◌≡◌, ◌≢◌, ◌≤◌, inl, inr, ℕ, zero, suc, Bool, true, false, if◌then◌else◌, List, [], ◌∷◌, length, take}
use Rattle.std.proofs.Common.{slice_get, Option, Some, None, refl, sym, ap, ap₂, ◌∙◌, subst, arith}
use Rattle.std.specs.List.{AllByRecursion}
use Rattle.std.specs.Str.{bytes_eq}
use Rattle.std.specs.Ordering.{nat_cmp, is_eq, ordering_reverse}
use Rattle.std.specs.Cmp.Lexicographic.{slice_cmp}
use Rattle.std.specs.declared.cmp.Ordering.{Ordering}
use Rattle.std.specs.declared.cmp.Ordering.TheVariants.{Less, Equal, Greater}
use Rattle.std.proofs.lemmas.Cmp.{nat_list_cmp_total, tied_itself, alike_right}
use Rattle.std.proofs.lemmas.Map.Text.{is_eq-slice_cmp}
use Rattle.std.proofs.lemmas.Slice.Eq.{bytes_eq-Decides}
use Rattle.day_rows.specs.Schema.{IsShape, by_name, AscendByName}
use Rattle.day_rows.specs.declared.schema.Shape.{Shape}
use Rattle.date_loading.specs.Differences.{missing, table_named, DifferFirst, sole, IsLowerName}
use Rattle.date_loading.proofs.RecordLemmas.{get-all}

abbrev Name : Type 0
Name = List ℕ

abbrev cmp : Name → Name → Ordering
cmp = slice_cmp nat_cmp

-- the first name isn't below the second
abbrev IsUpTo : Name → Name → Type 0
IsUpTo name other = cmp other name ≢ Less

itself : (name : Name) → IsUpTo name name
itself name = λ less. let e : cmp name name ≡ Equal = tied_itself nat_list_cmp_total name in absurd cc

up-to-below : (name x y : Name) → IsUpTo name x → cmp x y ≡ Less → cmp name y ≡ Less
up-to-below name x y up less = by-order (cmp name x) refl where
  by-order : (o : Ordering) → cmp name x ≡ o → cmp name y ≡ Less
  by-order Less is = nat_list_cmp_total.trans name x y is less
  by-order Equal is = nat_list_cmp_total.congr name x y is ∙ less
  by-order Greater is = absurd (up (nat_list_cmp_total.antisymm x name ∙ ap ordering_reverse is))

below-up-to : (lower name x : Name) → cmp lower name ≡ Less → IsUpTo name x → cmp lower x ≡ Less
below-up-to lower name x less up = by-order (cmp name x) refl where
  by-order : (o : Ordering) → cmp name x ≡ o → cmp lower x ≡ Less
  by-order Less is = nat_list_cmp_total.trans lower name x less is
  by-order Equal is = sym (alike_right nat_list_cmp_total name x lower is) ∙ less
  by-order Greater is = absurd (up (nat_list_cmp_total.antisymm x name ∙ ap ordering_reverse is))

-- names of which one is below the other aren't the same
apart-below : (x name : Name) → cmp x name ≡ Less → bytes_eq x name ≡ false
apart-below x name less = sym (is_eq-slice_cmp x name) ∙ ap is_eq less

apart-above : (x name : Name) → cmp name x ≡ Less → bytes_eq x name ≡ false
apart-above x name less = sym (is_eq-slice_cmp x name) ∙ ap is_eq (nat_list_cmp_total.antisymm x name ∙ ap ordering_reverse less)

same-name : (name : Name) → bytes_eq name name ≡ true
same-name name = (bytes_eq-Decides name name).1 refl

pick : Name → Shape → Shape → Shape
pick name x rest = if bytes_eq x.table name then x else rest

-- no table of a name that is below all
none-below : (name : Name) (xs : List Shape) → AllByRecursion (λ x. cmp name x.table ≡ Less) xs → table_named name xs ≡ missing name
none-below name [] h = refl
none-below name (x ∷ xs) h = ap (λ (b : Bool). if b then x else table_named name xs) (apart-above x.table name h.0) ∙ none-below name xs h.1

all-below : (name : Name) (x : Shape) (xs : List Shape) → AllByRecursion (λ y. by_name x y ≡ Less) xs → IsUpTo name x.table
    → AllByRecursion (λ y. cmp name y.table ≡ Less) xs
all-below name x [] h up = tt
all-below name x (y ∷ ys) h up = (up-to-below name x.table y.table up h.0, all-below name x ys h.1 up)

abbrev HeadIsFrom : Name → List Shape → Type 0
HeadIsFrom name [] = Unit {0}
HeadIsFrom name (x ∷ xs) = IsUpTo name x.table

abbrev head : List Shape → Option Shape
head xs = slice_get xs 0

-- the table of a name that isn't above the first is the first or none
head-named : (name : Name) (xs : List Shape) → AscendByName xs → HeadIsFrom name xs → table_named name xs ≡ table_named name (sole (head xs))
head-named name [] up from = refl
head-named name (x ∷ xs) up from = ap (λ (rest : Shape). if bytes_eq x.table name then x else rest) (none-below name xs (all-below name x xs up.0 from))

none-lower : (lower name : Name) (xs : List Shape) → AscendByName xs → HeadIsFrom name xs → cmp lower name ≡ Less → table_named lower xs ≡ missing lower
none-lower lower name [] up from less = refl
none-lower lower name (x ∷ xs) up from less =
    let first : cmp lower x.table ≡ Less = below-up-to lower name x.table less from in
    let not : IsUpTo lower x.table =
    λ back. (let e : cmp lower lower ≡ Equal = tied_itself nat_list_cmp_total lower in let f : cmp lower lower ≡ Less = nat_list_cmp_total.trans
    lower x.table lower first back in absurd cc) in
    none-below lower (x ∷ xs) (first, all-below lower x xs up.0 not)

named-so : (x : Shape) (name : Name) → name ≡ x.table → table_named name (x ∷ []) ≡ x
named-so x name is = ap (λ (b : Bool). if b then x else missing name) (ap (bytes_eq x.table) is ∙ same-name x.table)

-- a table has columns
not-missing : (x : Shape) (name : Name) → IsShape x → x ≢ missing name
not-missing x name own same =
    let none : x.names ≡ [] = ap (λ (s : Shape). s.names) same in
    let first = sym (ap (take 2) none) ∙ own.first_names in
    absurd cc

-- x isn't what the other side has of this name
not-other : (x y : Shape) (name : Name) → IsShape x → x ≢ y → x ≢ table_named name (y ∷ [])
not-other x y name own apart = by-test (bytes_eq y.table name) where
  by-test : (b : Bool) → x ≢ (if b then y else missing name)
  by-test true = apart
  by-test false = not-missing x name own

back : {X : Type 0} {x y : X} → x ≢ y → y ≢ x
back apart = λ same. apart (sym same)

heads-differ : (name : Name) (a b : Option Shape) → ((x : Shape) → a ≡ Some x → IsShape x) → ((y : Shape) → b ≡ Some y → IsShape y)
    → (a ≡ b → b ≡ None) → IsLowerName a b name
    → table_named name (sole a) ≢ table_named name (sole b)
heads-differ name None None own own' apart lower = absurd lower
heads-differ name (Some x) None own own' apart lower = λ same. not-missing x name (own x refl) (sym (named-so x name lower) ∙ same)
heads-differ name None (Some y) own own' apart lower = λ same. not-missing y name (own' y refl) (sym (named-so y name lower) ∙ sym same)
heads-differ name (Some x) (Some y) own own' apart (inl low) = λ same.
    not-other x y name (own x refl) (λ e. (let f : Some y ≡ None = apart (ap (λ (s : Shape). Some s) e) in absurd cc)) (sym (named-so x name low.0) ∙ same)
heads-differ name (Some x) (Some y) own own' apart (inr low) = λ same.
    not-other y x name (own' y refl) (λ e. (let f : Some y ≡ None = apart (ap (λ (s : Shape). Some s) (sym e)) in absurd cc))
    (sym (named-so y name low.0) ∙ sym same)

heads-from : (name : Name) (xs ys : List Shape) → IsLowerName (head xs) (head ys) name → HeadIsFrom name xs × HeadIsFrom name ys
heads-from name [] [] lower = absurd lower
heads-from name (x ∷ xs) [] lower = (subst (λ (n : Name). IsUpTo n x.table) (sym lower) (itself x.table), tt)
heads-from name [] (y ∷ ys) lower = (tt, subst (λ (n : Name). IsUpTo n y.table) (sym lower) (itself y.table))
heads-from name (x ∷ xs) (y ∷ ys) (inl low) =
    (subst (λ (n : Name). IsUpTo n x.table) (sym low.0) (itself x.table), subst (λ (n : Name). IsUpTo n y.table) (sym low.0) low.1)
heads-from name (x ∷ xs) (y ∷ ys) (inr low) = (
  subst (λ (n : Name). IsUpTo n x.table) (sym low.0) (λ back. (let e : cmp y.table y.table ≡ Equal = tied_itself nat_list_cmp_total y.table in
      let f : cmp y.table y.table ≡ Less = nat_list_cmp_total.trans y.table x.table y.table low.1 back in absurd cc)),
  subst (λ (n : Name). IsUpTo n y.table) (sym low.0) (itself y.table),
)

own-at : (xs : List Shape) (n : ℕ) → AllByRecursion IsShape xs → (x : Shape) → slice_get xs n ≡ Some x → IsShape x
own-at xs n own x at = get-all IsShape xs n x own at

-- the lower name is that of a table
one-has : (name : Name) (a b : Option Shape) (P : Name → Type 0) → ((x : Shape) → a ≡ Some x → P x.table) → ((y : Shape) → b ≡ Some y → P y.table)
    → IsLowerName a b name → P name
one-has name None None P f g lower = absurd lower
one-has name (Some x) None P f g lower = subst P (sym lower) (f x refl)
one-has name None (Some y) P f g lower = subst P (sym lower) (g y refl)
one-has name (Some x) (Some y) P f g (inl low) = subst P (sym low.0) (f x refl)
one-has name (Some x) (Some y) P f g (inr low) = subst P (sym low.0) (g y refl)

one-more : (x y : Shape) (xs ys : List Shape) (name : Name) (one other : Shape) → x ≡ y → cmp x.table name ≡ Less → DifferFirst xs ys name one other
    → DifferFirst (x ∷ xs) (y ∷ ys) name one other
one-more x y xs ys name one other same less h = record {
  kept_is = h.kept_is ∙ sym (ap (λ (b : Bool). if b then x else table_named name xs) (apart-below x.table name less));
  given_is =
      h.given_is ∙ sym (ap (λ (b : Bool). if b then y else table_named name ys)
      (ap (λ (s : Shape). bytes_eq s.table name) (sym same) ∙ apart-below x.table name less));
  differ = h.differ;
  first = λ lower low. ap₂ (λ (s rest : Shape). if bytes_eq s.table lower then s else rest) same (h.first lower low);
}

pub differ-first : (xs ys : List Shape) (n : ℕ) (name : Name) → AllByRecursion IsShape xs → AllByRecursion IsShape ys → AscendByName xs
    → AscendByName ys → take n xs ≡ take n ys
    → (slice_get xs n ≡ slice_get ys n → slice_get ys n ≡ None) → IsLowerName (slice_get xs n) (slice_get ys n) name
    → DifferFirst xs ys name (table_named name (sole (slice_get xs n))) (table_named name (sole (slice_get ys n)))
differ-first xs ys zero name own own' up up' same apart lower =
    let from = heads-from name xs ys lower in
    record {
      kept_is = sym (head-named name xs up from.0);
      given_is = sym (head-named name ys up' from.1);
      differ = heads-differ name (head xs) (head ys) (own-at xs 0 own) (own-at ys 0 own') apart lower;
      first = λ low less. none-lower low name xs up from.0 less ∙ sym (none-lower low name ys up' from.1 less);
    }
differ-first [] [] (suc n) name own own' up up' same apart lower = absurd lower
differ-first (x ∷ xs) [] (suc n) name own own' up up' same apart lower = absurd cc
differ-first [] (y ∷ ys) (suc n) name own own' up up' same apart lower = absurd cc
differ-first (x ∷ xs) (y ∷ ys) (suc n) name own own' up up' same apart lower =
    let heads : x ≡ y = cc in
    let tails : take n xs ≡ take n ys = cc in
    let after : AllByRecursion (λ z. by_name x z ≡ Less) ys = subst (λ (s : Shape). AllByRecursion (λ z. by_name s z ≡ Less) ys) (sym heads) up'.0 in
    let less : cmp x.table name ≡ Less = one-has name (slice_get xs n) (slice_get ys n) (λ t. cmp x.table t ≡ Less)
    (λ z at. get-all (λ s. by_name x s ≡ Less) xs n z up.0 at) (λ z at. get-all (λ s. by_name x s ≡ Less) ys n z after at) lower in
    one-more x y xs ys name _ _ heads less (differ-first xs ys n name own.1 own'.1 up.1 up'.1 tails apart lower)

-- ---- lists that are compared one element after another

pub same-further : {X : Type 0} (xs ys : List X) (n : ℕ) → take n xs ≡ take n ys → slice_get xs n ≡ slice_get ys n → take (suc n) xs ≡ take (suc n) ys
same-further [] [] n same at = refl
same-further (x ∷ xs) [] zero same at = absurd cc
same-further (x ∷ xs) [] (suc n) same at = absurd cc
same-further [] (y ∷ ys) zero same at = absurd cc
same-further [] (y ∷ ys) (suc n) same at = absurd cc
same-further (x ∷ xs) (y ∷ ys) zero same at = let heads : x ≡ y = cc in ap (λ z. z ∷ []) heads
same-further (x ∷ xs) (y ∷ ys) (suc n) same at =
    let heads : x ≡ y = cc in
    let tails : take n xs ≡ take n ys = cc in
    ap₂ (λ z zs. z ∷ zs) heads (same-further xs ys n tails at)

pub same-all : {X : Type 0} (xs ys : List X) (n : ℕ) → take n xs ≡ take n ys → slice_get xs n ≡ None → slice_get ys n ≡ None → xs ≡ ys
same-all [] [] n same at at' = refl
same-all (x ∷ xs) [] zero same at at' = absurd cc
same-all (x ∷ xs) [] (suc n) same at at' = absurd cc
same-all [] (y ∷ ys) zero same at at' = absurd cc
same-all [] (y ∷ ys) (suc n) same at at' = absurd cc
same-all (x ∷ xs) (y ∷ ys) zero same at at' = absurd cc
same-all (x ∷ xs) (y ∷ ys) (suc n) same at at' =
    let heads : x ≡ y = cc in
    let tails : take n xs ≡ take n ys = cc in
    ap₂ (λ z zs. z ∷ zs) heads (same-all xs ys n tails at at')

pub none-past : {X : Type 0} (xs : List X) (n : ℕ) → length xs ≤ n → slice_get xs n ≡ None
none-past [] n more = refl
none-past (x ∷ xs) zero more = absurd (omega (arith, more))
none-past (x ∷ xs) (suc n) more = none-past xs n (omega (arith, more))
