-- What the kinds of a row are, for every verb and every two kinds.
use Rattle.std.proofs.Common.{◌≡◌, ◌≢◌, ℕ, zero, suc, ◌<◌, Bool, true, false, not, ◌&&◌, if◌then◌else◌, List, [], ◌∷◌, length, get_or, Option, Some, None, refl, sym, ap, ◌∙◌, subst, arith, lit<}
use Rattle.q_values.specs.declared.kind.Kind.{Kind}
use Rattle.q_values.specs.declared.kind.Kind.TheVariants as k
use Rattle.q_verbs.specs.declared.verb.Verb.{Verb}
use Rattle.q_verbs.specs.declared.verb.Verb.TheVariants as v
use Rattle.q_values.specs.Kind.{type_number, kinds, kind_at, is}
use Rattle.q_verbs.specs.Kinds.{is_number, is_computed, result_kind_of}
use Rattle.q_verbs.specs.Places.{is_comparison, is_choice, is_by_place, computes}

-- a kind's number decides the kind
kind_at-type_number : (x : Kind) → kind_at (type_number x) ≡ Some x
kind_at-type_number k.Boolean = refl
kind_at-type_number k.Byte = refl
kind_at-type_number k.Short = refl
kind_at-type_number k.Integer = refl
kind_at-type_number k.Long = refl
kind_at-type_number k.Character = refl
kind_at-type_number k.Symbol = refl
kind_at-type_number k.Timestamp = refl
kind_at-type_number k.Month = refl
kind_at-type_number k.Date = refl
kind_at-type_number k.Timespan = refl
kind_at-type_number k.Minute = refl
kind_at-type_number k.Second = refl
kind_at-type_number k.Time = refl

abbrev some : Kind → Option Kind
some x = Some x

some_is : (x y : Kind) → some x ≡ some y → x ≡ y
some_is x y e = cc

pub is-same : (x y : Kind) → is x y ≡ true → x ≡ y
is-same x y e = let n : type_number x ≡ type_number y = grind arith in some_is x y (sym (kind_at-type_number x) ∙ ap kind_at n ∙ kind_at-type_number y)

-- a test of every kind
abbrev each : (Kind → Bool) → List Kind → Bool
each p [] = true
each p (x ∷ xs) = p x && each p xs

and_first : (a b : Bool) → (a && b) ≡ true → a ≡ true
and_first true b e = refl
and_first false b e = e

and_second : (a b : Bool) → (a && b) ≡ true → b ≡ true
and_second true b e = e
and_second false b e = cc

each-at : (p : Kind → Bool) (xs : List Kind) (i : ℕ) (d : Kind) → i < length xs → each p xs ≡ true → p (get_or xs i d) ≡ true
each-at p [] i d h e = absurd (omega arith)
each-at p (x ∷ xs) zero d h e = and_first (p x) (each p xs) e
each-at p (x ∷ xs) (suc i) d h e = each-at p xs i d (omega arith) (and_second (p x) (each p xs) e)

each-kind : (p : Kind → Bool) → each p kinds ≡ true → (x : Kind) → p x ≡ true
each-kind p e k.Boolean = each-at p kinds 0 k.Boolean (lit< tt) e
each-kind p e k.Byte = each-at p kinds 1 k.Boolean (lit< tt) e
each-kind p e k.Short = each-at p kinds 2 k.Boolean (lit< tt) e
each-kind p e k.Integer = each-at p kinds 3 k.Boolean (lit< tt) e
each-kind p e k.Long = each-at p kinds 4 k.Boolean (lit< tt) e
each-kind p e k.Character = each-at p kinds 5 k.Boolean (lit< tt) e
each-kind p e k.Symbol = each-at p kinds 6 k.Boolean (lit< tt) e
each-kind p e k.Timestamp = each-at p kinds 7 k.Boolean (lit< tt) e
each-kind p e k.Month = each-at p kinds 8 k.Boolean (lit< tt) e
each-kind p e k.Date = each-at p kinds 9 k.Boolean (lit< tt) e
each-kind p e k.Timespan = each-at p kinds 10 k.Boolean (lit< tt) e
each-kind p e k.Minute = each-at p kinds 11 k.Boolean (lit< tt) e
each-kind p e k.Second = each-at p kinds 12 k.Boolean (lit< tt) e
each-kind p e k.Time = each-at p kinds 13 k.Boolean (lit< tt) e

abbrev alike : Bool → Bool → Bool
alike a b = if a then b else not b

alike-same : (a b : Bool) → alike a b ≡ true → a ≡ b
alike-same true true e = refl
alike-same true false e = sym e
alike-same false true e = e
alike-same false false e = refl

-- what holds of the kinds of a row
abbrev row_test : Verb → Kind → Kind → Kind → Bool
row_test verb left right kind =
    if is_comparison verb then alike (is left k.Symbol) (is right k.Symbol) && is kind k.Boolean
    else (if is_choice verb && is left right then is_number left && is kind left
    else (if is_by_place verb then computes verb && is_computed kind && not (is left k.Symbol) && not (is right k.Symbol)
    else true))

abbrev if_row : (Kind → Bool) → Option Kind → Bool
if_row p None = true
if_row p (Some kind) = p kind

rows : (verb : Verb) → each (λ l. each (λ r. if_row (row_test verb l r) (result_kind_of verb l r)) kinds) kinds ≡ true
rows v.Add = refl
rows v.Sub = refl
rows v.Mul = refl
rows v.Div = refl
rows v.Mod = refl
rows v.Xbar = refl
rows v.Eq = refl
rows v.Ne = refl
rows v.Lt = refl
rows v.Gt = refl
rows v.Le = refl
rows v.Ge = refl
rows v.Lesser = refl
rows v.Greater = refl
rows v.In = refl
rows v.Within = refl
rows v.Like = refl

row : (verb : Verb) (left right kind : Kind) → result_kind_of verb left right ≡ Some kind → row_test verb left right kind ≡ true
row verb left right kind e =
    let at_left = each-kind (λ l. each (λ r. if_row (row_test verb l r) (result_kind_of verb l r)) kinds) (rows verb) left in
    let at_right = each-kind (λ r. if_row (row_test verb left r) (result_kind_of verb left r)) at_left right in
    subst (λ o. if_row (row_test verb left right) o ≡ true) e at_right

pub comparison_row : (verb : Verb) (left right kind : Kind) → result_kind_of verb left right ≡ Some kind → is_comparison verb ≡ true → (is left k.Symbol ≡ is right k.Symbol) × (kind ≡ k.Boolean)
comparison_row verb left right kind e c =
    let test : (alike (is left k.Symbol) (is right k.Symbol) && is kind k.Boolean) ≡ true = rw c at (row verb left right kind e) in
    (alike-same (is left k.Symbol) (is right k.Symbol) (and_first _ _ test), is-same kind k.Boolean (and_second (alike (is left k.Symbol) (is right k.Symbol)) (is kind k.Boolean) test))

pub choice_row : (verb : Verb) (left right kind : Kind) → result_kind_of verb left right ≡ Some kind → is_comparison verb ≡ false → (is_choice verb && is left right) ≡ true → (left ≡ right) × (is_number left ≡ true) × (kind ≡ left)
choice_row verb left right kind e c d =
    let test : (is_number left && is kind left) ≡ true = rw (c, d) at (row verb left right kind e) in
    (is-same left right (and_second (is_choice verb) (is left right) d), and_first (is_number left) (is kind left) test, is-same kind left (and_second (is_number left) (is kind left) test))

pub computed_row : (verb : Verb) (left right kind : Kind) → result_kind_of verb left right ≡ Some kind → is_by_place verb ≡ true → is_comparison verb ≡ false → (is_choice verb && is left right) ≡ false → (computes verb ≡ true) × (is_computed kind ≡ true) × (left ≢ k.Symbol) × (right ≢ k.Symbol)
computed_row verb left right kind e b c d =
    let test : (computes verb && is_computed kind && not (is left k.Symbol) && not (is right k.Symbol)) ≡ true = rw (c, d, b) at (row verb left right kind e) in
    let right_is = and_second (computes verb && is_computed kind && not (is left k.Symbol)) (not (is right k.Symbol)) test in
    let rest = and_first (computes verb && is_computed kind && not (is left k.Symbol)) (not (is right k.Symbol)) test in
    let left_is = and_second (computes verb && is_computed kind) (not (is left k.Symbol)) rest in
    let both = and_first (computes verb && is_computed kind) (not (is left k.Symbol)) rest in (
      and_first (computes verb) (is_computed kind) both,
      and_second (computes verb) (is_computed kind) both,
      λ s. let t : not (is k.Symbol k.Symbol) ≡ true = subst (λ x. not (is x k.Symbol) ≡ true) s left_is in cc,
      λ s. let t : not (is k.Symbol k.Symbol) ≡ true = subst (λ x. not (is x k.Symbol) ≡ true) s right_is in cc,
    )
