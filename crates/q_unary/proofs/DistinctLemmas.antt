-- Items where they stand first.
use Rattle.std.proofs.Common.{◌≡◌, ℕ, ℤ, pos, ◌+◌, ◌<◌, Bool, true, false, cond, not, ◌||◌, if◌then◌else◌, List, [], ◌∷◌, ◌++◌, length, take, drop, get_or, map, refl, sym, ap, ◌∙◌, arith, subst}
use Rattle.std.specs.Prelude.{filter, nat_eq}
use Rattle.std.specs.List.{list_any}
use Rattle.std.specs.Ordering.{int_eq, int_cmp, is_eq}
use Rattle.std.proofs.lemmas.Int.{ints}
use Rattle.std.proofs.lemmas.List.{take_more, drop_more}
use Rattle.std.proofs.lemmas.List.Elements.{filter-append}
use Rattle.q_values.specs.Lists.{gathered}
use Rattle.q_values.proofs.ListLemmas.{gathered-append, map-gathered}
use Rattle.q_values.specs.Column.{byte_atom, integer_atom, long_atom}
use Rattle.q_values.specs.declared.atom.Atom.TheVariants as a
use Rattle.q_values.specs.declared.kind.ByteKind.{ByteKind}
use Rattle.q_values.specs.declared.kind.ByteKind.TheVariants as b
use Rattle.q_values.specs.declared.kind.IntegerKind.{IntegerKind}
use Rattle.q_values.specs.declared.kind.IntegerKind.TheVariants as i
use Rattle.q_values.specs.declared.kind.LongKind.{LongKind}
use Rattle.q_values.specs.declared.kind.LongKind.TheVariants as l
use mathlib.Core.Bool.{beq}
use lib.Dec.{eqb}
use lib.Pointwise.{pointwise}
use Rattle.q_lanes.proofs.TextLemmas.{text_ties}
use Rattle.q_verbs.specs.Lists.{distinct, same_atom}

++-nil : {X : Type 0} (xs : List X) → xs ++ [] ≡ xs
++-nil [] = refl
++-nil (x ∷ xs) = ap (λ l. x ∷ l) (++-nil xs)

not_true : (b : Bool) → not b ≡ true → b ≡ false
not_true true e = cc
not_true false e = refl

pushed : {X : Type 0} (p : X → Bool) (x n : X) (l : List X) (s b : Bool) → p n ≡ not s → x ∷ filter p (if b then l else l ++ n ∷ []) ≡ (if s || b then x ∷ filter p l else (x ∷ filter p l) ++ n ∷ [])
pushed p x n l true true e = refl
pushed p x n l false true e = refl
pushed p x n l true false e = ap (λ t. x ∷ t) (filter-append p l (n ∷ []) ∙ ap (λ t. filter p l ++ (if t then n ∷ [] else [])) e ∙ ++-nil (filter p l))
pushed p x n l false false e = ap (λ t. x ∷ t) (filter-append p l (n ∷ []) ∙ ap (λ t. filter p l ++ (if t then n ∷ [] else [])) e)

-- one more item
pub distinct_push : {X : Type 0} (same : X → X → Bool) (xs : List X) (n : X) → distinct same (xs ++ n ∷ []) ≡ (if list_any (λ e. same e n) xs then distinct same xs else distinct same xs ++ n ∷ [])
distinct_push same [] n = refl
distinct_push same (x ∷ xs) n =
    ap (λ l. x ∷ filter (λ y. not (same x y)) l) (distinct_push same xs n)
    ∙ pushed (λ y. not (same x y)) x n (distinct same xs) (same x n) (list_any (λ e. same e n) xs) refl

distinct_more : {X : Type 0} (same : X → X → Bool) (xs : List X) (i : ℕ) (x : X) → i < length xs → x ≡ get_or xs i x → distinct same (take (i + 1) xs) ≡ (if list_any (λ y. same y x) (take i xs) then distinct same (take i xs) else distinct same (take i xs) ++ x ∷ [])
distinct_more same xs i x h e =
    ap (distinct same) (take_more xs i x h ∙ ap (λ y. take i xs ++ y ∷ []) (sym e)) ∙ distinct_push same (take i xs) x

one_gathered : {X : Type 0} (xs : List X) (places : List ℕ) (i : ℕ) (x : X) → i < length xs → x ≡ get_or xs i x → gathered xs (places ++ i ∷ []) ≡ gathered xs places ++ x ∷ []
one_gathered xs places i x h e =
    let here : take 1 (drop i xs) ≡ get_or xs i x ∷ [] = rw (drop_more xs i x h) refl in
    gathered-append xs places (i ∷ []) ∙ ap (λ l. gathered xs places ++ l) (++-nil (take 1 (drop i xs)) ∙ here ∙ ap (λ y. y ∷ []) (sym e))

-- an index that is new
pub place_pushed : {X : Type 0} (same : X → X → Bool) (xs : List X) (places : List ℕ) (i : ℕ) (x : X) (b t : Bool) → i < length xs → x ≡ get_or xs i x → gathered xs places ≡ distinct same (take i xs) → t ≡ list_any (λ y. same y x) (take i xs) → b ≡ not t → b ≡ true → gathered xs (places ++ i ∷ []) ≡ distinct same (take (i + 1) xs)
place_pushed same xs places i x b t h e before any is_not added =
    let none : list_any (λ y. same y x) (take i xs) ≡ false = sym any ∙ not_true t (sym is_not ∙ added) in
    one_gathered xs places i x h e ∙ ap (λ l. l ++ x ∷ []) before
    ∙ sym (distinct_more same xs i x h e ∙ ap (λ c. if c then distinct same (take i xs) else distinct same (take i xs) ++ x ∷ []) none)

not_false : (b : Bool) → not b ≡ false → b ≡ true
not_false true e = refl
not_false false e = cc

-- an index that is not new
pub place_passed : {X : Type 0} (same : X → X → Bool) (xs : List X) (places : List ℕ) (i : ℕ) (x : X) (b t : Bool) → i < length xs → x ≡ get_or xs i x → gathered xs places ≡ distinct same (take i xs) → t ≡ list_any (λ y. same y x) (take i xs) → b ≡ not t → b ≡ false → gathered xs places ≡ distinct same (take (i + 1) xs)
place_passed same xs places i x b t h e before any is_not passed =
    let some : list_any (λ y. same y x) (take i xs) ≡ true = sym any ∙ not_false t (sym is_not ∙ passed) in
    before ∙ sym (distinct_more same xs i x h e ∙ ap (λ c. if c then distinct same (take i xs) else distinct same (take i xs) ++ x ∷ []) some)

distinct_through : {X W : Type 0} (alike : W → W → Bool) (same : X → X → Bool) (read : X → W) → ((x y : X) → alike (read x) (read y) ≡ same x y) → (xs : List X) → map read (distinct same xs) ≡ distinct alike (map read xs)
distinct_through alike same read e [] = refl
distinct_through alike same read e (x ∷ xs) =
    ap (λ l. read x ∷ l) (filtered read (λ y. not (same x y)) (λ u. not (alike (read x) u)) (λ y. ap not (e x y)) (distinct same xs))
    ∙ ap (λ l. read x ∷ filter (λ u. not (alike (read x) u)) l) (distinct_through alike same read e xs)
  where
    kept : {A B : Type 0} (f : A → B) (a : A) (b : Bool) (l : List A) → map f (if b then a ∷ l else l) ≡ (if b then f a ∷ map f l else map f l)
    kept f a true l = refl
    kept f a false l = refl

    filtered : {A B : Type 0} (f : A → B) (p : A → Bool) (q : B → Bool) → ((a : A) → q (f a) ≡ p a) → (l : List A) → map f (filter p l) ≡ filter q (map f l)
    filtered f p q d [] = refl
    filtered f p q d (a ∷ l) =
        kept f a (p a) (filter p l) ∙ (λ i. if sym (d a) i then f a ∷ filtered f p q d l i else filtered f p q d l i)

-- the atoms at the indices of the first of equal items
pub read_distinct : {X W : Type 0} (alike : W → W → Bool) (same : X → X → Bool) (read : X → W) (xs ys : List X) (places : List ℕ) → ((x y : X) → alike (read x) (read y) ≡ same x y) → ys ≡ xs → gathered ys places ≡ distinct same ys → gathered (map read xs) places ≡ distinct alike (map read xs)
read_distinct alike same read xs ys places e same_list d =
    let on_xs : gathered xs places ≡ distinct same xs = subst (λ l. gathered l places ≡ distinct same l) same_list d in
    sym (map-gathered read xs places) ∙ ap (map read) on_xs ∙ distinct_through alike same read e xs

-- a set of the items so far, with one more
pub seen_more : {X : Type 0} (same : X → X → Bool) (xs : List X) (i : ℕ) (x q : X) (old new : Bool) → i < length xs → x ≡ get_or xs i x → old ≡ list_any (λ y. same y q) (take i xs) → new ≡ cond (same x q) true old → new ≡ list_any (λ y. same y q) (take (i + 1) xs)
seen_more same xs i x q old new h e before updated =
    updated ∙ ap (λ o. cond (same x q) true o) before ∙ any_push (λ y. same y q) (take i xs) x
    ∙ ap (list_any (λ y. same y q)) (sym (take_more xs i x h ∙ ap (λ y. take i xs ++ y ∷ []) (sym e)))
  where
    any_push : {A : Type 0} (p : A → Bool) (as' : List A) (a : A) → cond (p a) true (list_any p as') ≡ list_any p (as' ++ a ∷ [])
    any_push p [] a = pick (p a)
      where
        pick : (b : Bool) → cond b true false ≡ (b || false)
        pick true = refl
        pick false = refl
    any_push p (c ∷ cs) a = later (p a) (p c) (list_any p cs) ∙ ap (λ b. p c || b) (any_push p cs a)
      where
        later : (b c d : Bool) → cond b true (c || d) ≡ (c || cond b true d)
        later true true d = refl
        later true false d = refl
        later false true d = refl
        later false false d = refl

-- the items of a column are equal where the atoms are
pub same-boolean : (x y : Bool) → same_atom (a.Boolean x) (a.Boolean y) ≡ beq x y
same-boolean true true = refl
same-boolean true false = refl
same-boolean false true = refl
same-boolean false false = refl

same-natural : (x y : ℕ) → is_eq (int_cmp (pos x) (pos y)) ≡ eqb x y
same-natural x y = grind (arith, ints)

same-whole : (x y : ℤ) → is_eq (int_cmp x y) ≡ int_eq x y
same-whole x y = grind (arith, ints)

pub same-byte : (kind : ByteKind) (x y : ℕ) → same_atom (byte_atom kind x) (byte_atom kind y) ≡ eqb x y
same-byte b.Byte x y = same-natural x y
same-byte b.Character x y = same-natural x y

pub same-short : (x y : ℤ) → same_atom (a.Short x) (a.Short y) ≡ int_eq x y
same-short x y = same-whole x y

pub same-integer : (kind : IntegerKind) (x y : ℤ) → same_atom (integer_atom kind x) (integer_atom kind y) ≡ int_eq x y
same-integer i.Integer x y = same-whole x y
same-integer i.Month x y = same-whole x y
same-integer i.Date x y = same-whole x y
same-integer i.Minute x y = same-whole x y
same-integer i.Second x y = same-whole x y
same-integer i.Time x y = same-whole x y

pub same-long : (kind : LongKind) (x y : ℤ) → same_atom (long_atom kind x) (long_atom kind y) ≡ int_eq x y
same-long l.Long x y = same-whole x y
same-long l.Timestamp x y = same-whole x y
same-long l.Timespan x y = same-whole x y

pub same-text : (s t : List ℕ) → same_atom (a.Symbol s) (a.Symbol t) ≡ pointwise nat_eq s t
same-text s t = sym (text_ties s t)
