-- Atoms beside lists, patterns, and the kinds of aggregates.
use Rattle.std.proofs.Common.{◌≡◌, ℕ, ℤ, Bool, true, false, cond, List, [], ◌∷◌, length, map, replicate, refl, sym, ap, ◌∙◌, zero, suc, Some, None, Option, All}
use Rattle.std.specs.Prelude.{is_some, unwrap_or, fold}
use Rattle.std.specs.Simd.Lanes.{zip2}
use Rattle.std.specs.Ordering.{is_le, is_ge}
use Rattle.std.proofs.lemmas.List.Elements.{All-head, All-tail}
use Rattle.q_values.specs.Atom.{kind_of}
use Rattle.q_values.specs.Column.{byte_atom}
use Rattle.q_values.specs.Contents.{Contents}
use Rattle.q_values.specs.Lists.{gathered}
use Rattle.q_values.specs.declared.atom.Atom.{Atom}
use Rattle.q_values.specs.declared.atom.Atom.TheVariants as a
use Rattle.q_values.specs.declared.kind.ByteKind.TheVariants as b
use Rattle.q_values.specs.declared.kind.Kind.{Kind}
use Rattle.q_values.specs.declared.kind.Kind.TheVariants as k
use Rattle.q_verbs.specs.Aggregates.{aggregate_of, is_aggregate, best_of, choose_present, number_of, first_of, last_of, null_of, greatest, lowest}
use Rattle.q_verbs.specs.Kinds.{result_kind1_of, total_kind, is_number}
use Rattle.q_verbs.specs.Like.{matches}
use Rattle.q_verbs.specs.Numbers.{worth, worth_cmp, written}
use Rattle.q_verbs.specs.Places.{chosen}
use Rattle.q_verbs.specs.declared.verb.Verb.TheVariants as v
use Rattle.q_verbs.specs.declared.verb.Verb1.{Verb1}
use Rattle.q_verbs.specs.declared.verb.Verb1.TheVariants as u
use Rattle.qsql_values.specs.Values.{byte_in}

pub gathered_zeros : {X : Type 0} (n : ℕ) (x : X) → gathered (x ∷ []) (replicate n 0) ≡ replicate n x
gathered_zeros zero x = refl
gathered_zeros (suc n) x = ap (λ l. x ∷ l) (gathered_zeros n x)

pub beside_left : {X Y Z : Type 0} (f : X → Y → Z) (x : X) (ys : List Y) → zip2 f (replicate (length ys) x) ys ≡ map (λ y. f x y) ys
beside_left f x [] = refl
beside_left f x (y ∷ ys) = ap (λ l. f x y ∷ l) (beside_left f x ys)

pub beside_right : {X Y Z : Type 0} (f : X → Y → Z) (xs : List X) (y : Y) → zip2 f xs (replicate (length xs) y) ≡ map (λ x. f x y) xs
beside_right f [] y = refl
beside_right f (x ∷ xs) y = ap (λ l. f x y ∷ l) (beside_right f xs y)

-- a verb by item, of an atom beside a list
pub left_value : (made many right : Contents) (x : Atom) (kind : Kind) (n : ℕ) (g : Kind → Atom → Atom → Atom) (result : Kind → Kind) → many ≡ record { kind = kind; atoms = replicate n x } → n ≡ length right.atoms
    → made ≡ record { kind = result many.kind; atoms = zip2 (g many.kind) many.atoms right.atoms } → made ≡ record { kind = result kind; atoms = map (λ (y : Atom). g kind x y) right.atoms }
left_value made many right x kind n g result p q r =
    r
    ∙ ap (λ (c : Contents). record { kind = result c.kind; atoms = zip2 (g c.kind) c.atoms right.atoms }) p
    ∙ ap (λ (m : ℕ). record { kind = result kind; atoms = zip2 (g kind) (replicate m x) right.atoms }) q
    ∙ ap (λ (l : List Atom). record { kind = result kind; atoms = l }) (beside_left (g kind) x right.atoms)

pub right_value : (made many left : Contents) (y : Atom) (kind : Kind) (n : ℕ) (g : Kind → Atom → Atom → Atom) (result : Kind → Kind) → many ≡ record { kind = kind; atoms = replicate n y } → n ≡ length left.atoms
    → made ≡ record { kind = result many.kind; atoms = zip2 (g many.kind) left.atoms many.atoms } → made ≡ record { kind = result kind; atoms = map (λ (x : Atom). g kind x y) left.atoms }
right_value made many left y kind n g result p q r =
    r
    ∙ ap (λ (c : Contents). record { kind = result c.kind; atoms = zip2 (g c.kind) left.atoms c.atoms }) p
    ∙ ap (λ (m : ℕ). record { kind = result kind; atoms = zip2 (g kind) left.atoms (replicate m y) }) q
    ∙ ap (λ (l : List Atom). record { kind = result kind; atoms = l }) (beside_right (g kind) left.atoms y)

pub bytes_of_characters : (bytes : List ℕ) → map byte_in (map (byte_atom b.Character) bytes) ≡ bytes
bytes_of_characters [] = refl
bytes_of_characters (x ∷ bytes) = ap (λ (l : List ℕ). x ∷ l) (bytes_of_characters bytes)

-- the matches of one value's items with another's pattern
pub matched : (made pattern right : Contents) (xs ys : List Atom) (text : List ℕ) → text ≡ map byte_in pattern.atoms → pattern ≡ right → xs ≡ ys → made ≡ record { kind = k.Boolean; atoms = map (λ (x : Atom). a.Boolean (matches text (worth x).text)) xs }
    → made ≡ record { kind = k.Boolean; atoms = map (λ (x : Atom). a.Boolean (matches (map byte_in right.atoms) (worth x).text)) ys }
matched made pattern right xs ys text p q r e =
    e
    ∙ ap (λ (t : List ℕ). record { kind = k.Boolean; atoms = map (λ (x : Atom). a.Boolean (matches t (worth x).text)) xs }) (p ∙ ap (λ (c : Contents). map byte_in c.atoms) q)
    ∙ ap (λ (zs : List Atom). record { kind = k.Boolean; atoms = map (λ (x : Atom). a.Boolean (matches (map byte_in right.atoms) (worth x).text)) zs }) r

-- ---- the kinds of aggregates

OfKind : Kind → Option Atom → Type 0
OfKind kind None = Unit {0}
OfKind kind (Some x) = kind_of x ≡ kind

chosen_kind : (test : Bool) (kind : Kind) (x y : Atom) → kind_of x ≡ kind → kind_of y ≡ kind → kind_of (cond test x y) ≡ kind
chosen_kind true kind x y p q = p
chosen_kind false kind x y p q = q

abbrev Keeps : (Atom → Atom → Atom) → Kind → Type 0
Keeps pick kind = (x y : Atom) → kind_of x ≡ kind → kind_of y ≡ kind → kind_of (pick x y) ≡ kind

step_kind : (pick : Atom → Atom → Atom) (kind : Kind) (best : Option Atom) (x : Atom) → Keeps pick kind → OfKind kind best → kind_of x ≡ kind → OfKind kind (choose_present number_of pick best x)
unfolding OfKind
step_kind pick kind best x keeps p q = by_test (is_some (number_of x)) (taken best p)
  where
    taken : (b : Option Atom) → OfKind kind b → kind_of (best_of pick b x) ≡ kind
    taken None h = q
    taken (Some y) h = keeps y x h q

    by_test : (test : Bool) → kind_of (best_of pick best x) ≡ kind → OfKind kind (cond test (Some (best_of pick best x)) best)
    by_test true h = h
    by_test false h = p

fold_kind : (pick : Atom → Atom → Atom) (kind : Kind) (best : Option Atom) (xs : List Atom) → Keeps pick kind → OfKind kind best → All (λ (x : Atom). kind_of x ≡ kind) xs → OfKind kind (fold (choose_present number_of pick) best xs)
fold_kind pick kind best [] keeps p all = p
fold_kind pick kind best (x ∷ xs) keeps p all =
    fold_kind pick kind (choose_present number_of pick best x) xs keeps (step_kind pick kind best x keeps p (All-head (λ (y : Atom). kind_of y ≡ kind) x xs all)) (All-tail (λ (y : Atom). kind_of y ≡ kind) x xs all)

or_kind : (kind : Kind) (o : Option Atom) (d : Atom) → OfKind kind o → kind_of d ≡ kind → kind_of (unwrap_or o d) ≡ kind
unfolding OfKind
or_kind kind None d h e = e
or_kind kind (Some x) d h e = h

greatest_kind : (kind : Kind) → kind_of (greatest kind) ≡ kind
greatest_kind k.Boolean = refl
greatest_kind k.Byte = refl
greatest_kind k.Short = refl
greatest_kind k.Integer = refl
greatest_kind k.Long = refl
greatest_kind k.Character = refl
greatest_kind k.Symbol = refl
greatest_kind k.Timestamp = refl
greatest_kind k.Month = refl
greatest_kind k.Date = refl
greatest_kind k.Timespan = refl
greatest_kind k.Minute = refl
greatest_kind k.Second = refl
greatest_kind k.Time = refl

lowest_kind : (kind : Kind) → kind_of (lowest kind) ≡ kind
lowest_kind k.Boolean = refl
lowest_kind k.Byte = refl
lowest_kind k.Short = refl
lowest_kind k.Integer = refl
lowest_kind k.Long = refl
lowest_kind k.Character = refl
lowest_kind k.Symbol = refl
lowest_kind k.Timestamp = refl
lowest_kind k.Month = refl
lowest_kind k.Date = refl
lowest_kind k.Timespan = refl
lowest_kind k.Minute = refl
lowest_kind k.Second = refl
lowest_kind k.Time = refl

null_kind : (kind : Kind) → kind_of (null_of kind) ≡ kind
null_kind k.Boolean = refl
null_kind k.Byte = refl
null_kind k.Short = refl
null_kind k.Integer = refl
null_kind k.Long = refl
null_kind k.Character = refl
null_kind k.Symbol = refl
null_kind k.Timestamp = refl
null_kind k.Month = refl
null_kind k.Date = refl
null_kind k.Timespan = refl
null_kind k.Minute = refl
null_kind k.Second = refl
null_kind k.Time = refl

first_kind : (kind : Kind) (xs : List Atom) → All (λ (x : Atom). kind_of x ≡ kind) xs → OfKind kind (first_of xs)
unfolding OfKind
first_kind kind [] all = tt
first_kind kind (x ∷ xs) all = All-head (λ (y : Atom). kind_of y ≡ kind) x xs all

last_kind : (kind : Kind) (xs : List Atom) → All (λ (x : Atom). kind_of x ≡ kind) xs → OfKind kind (last_of xs)
unfolding OfKind
last_kind kind [] all = tt
last_kind kind (x ∷ []) all = All-head (λ (y : Atom). kind_of y ≡ kind) x [] all
last_kind kind (x ∷ y ∷ xs) all = last_kind kind (y ∷ xs) (All-tail (λ (z : Atom). kind_of z ≡ kind) x (y ∷ xs) all)

nothing : {P : Type 0} → false ≡ true → P
nothing e = absurd cc

sum_kind : (kind : Kind) (n : Option ℤ) → is_some (total_kind kind) ≡ true → total_kind kind ≡ Some (kind_of (written (unwrap_or (total_kind kind) kind) n))
sum_kind k.Boolean n h = refl
sum_kind k.Byte n h = nothing h
sum_kind k.Short n h = refl
sum_kind k.Integer n h = refl
sum_kind k.Long n h = refl
sum_kind k.Character n h = nothing h
sum_kind k.Symbol n h = nothing h
sum_kind k.Timestamp n h = nothing h
sum_kind k.Month n h = nothing h
sum_kind k.Date n h = nothing h
sum_kind k.Timespan n h = refl
sum_kind k.Minute n h = nothing h
sum_kind k.Second n h = nothing h
sum_kind k.Time n h = nothing h

same_kind : (test : Bool) (kind : Kind) (x : Atom) → kind_of x ≡ kind → is_some (cond test (Some kind) None) ≡ true → cond test (Some kind) None ≡ Some (kind_of x)
same_kind true kind x e h = ap (λ (o : Kind). Some o) (sym e)
same_kind false kind x e h = nothing h

pub aggregate_kind : (verb : Verb1) (kind : Kind) (xs : List Atom) → All (λ (x : Atom). kind_of x ≡ kind) xs → is_some (result_kind1_of verb kind) ≡ true → is_aggregate verb ≡ true → result_kind1_of verb kind ≡ Some (kind_of (aggregate_of verb kind xs))
unfolding OfKind
aggregate_kind u.Not kind xs all row is = nothing is
aggregate_kind u.Neg kind xs all row is = nothing is
aggregate_kind u.Distinct kind xs all row is = nothing is
aggregate_kind u.Count kind xs all row is = refl
aggregate_kind u.Sum kind xs all row is = sum_kind kind _ row
aggregate_kind u.Min kind xs all row is =
    same_kind (is_number kind) kind (aggregate_of u.Min kind xs) (or_kind kind (fold (choose_present number_of (chosen v.Lesser)) None xs) (greatest kind) (fold_kind (chosen v.Lesser) kind None xs (λ x y p q. chosen_kind (is_le (worth_cmp (worth x) (worth y))) kind x y p q) tt all) (greatest_kind kind)) row
aggregate_kind u.Max kind xs all row is =
    same_kind (is_number kind) kind (aggregate_of u.Max kind xs) (or_kind kind (fold (choose_present number_of (chosen v.Greater)) None xs) (lowest kind) (fold_kind (chosen v.Greater) kind None xs (λ x y p q. chosen_kind (is_ge (worth_cmp (worth x) (worth y))) kind x y p q) tt all) (lowest_kind kind)) row
aggregate_kind u.First kind xs all row is = ap (λ (o : Kind). Some o) (sym (or_kind kind (first_of xs) (null_of kind) (first_kind kind xs all) (null_kind kind)))
aggregate_kind u.Last kind xs all row is = ap (λ (o : Kind). Some o) (sym (or_kind kind (last_of xs) (null_of kind) (last_kind kind xs all) (null_kind kind)))
