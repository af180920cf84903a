-- Verbs with two sides, at one index.
use Rattle.std.specs.Prelude.{ℤ, pos, neg_ℤ, ◌+ℤ◌, ◌-ℤ◌, ◌*ℤ◌, Bool, true, false, ◌&&◌, if◌then◌else◌, Option, Some, None}
use Rattle.std.specs.Int.{int_div_euclid, int_min, int_max}
use Rattle.std.specs.Int.RustNames.{int_lt}
use Rattle.std.specs.declared.cmp.Ordering.{Ordering}
use Rattle.std.specs.Ordering.{is_eq, is_ne, is_lt, is_gt, is_le, is_ge, int_eq}
use Rattle.q_values.specs.declared.atom.Atom.{Atom}
use Rattle.q_values.specs.declared.atom.Atom.TheVariants as a
use Rattle.q_values.specs.declared.kind.Kind.{Kind}
use Rattle.q_values.specs.declared.kind.Kind.TheVariants as k
use Rattle.q_verbs.specs.declared.verb.Verb.{Verb}
use Rattle.q_verbs.specs.declared.verb.Verb.TheVariants as v
use Rattle.q_values.specs.Kind.{is}
use Rattle.q_values.specs.Time.{day_nanoseconds}
use Rattle.q_verbs.specs.Kinds.{are}
use Rattle.q_verbs.specs.Numbers.{worth, worth_cmp, written}

-- the result for two numbers: a number, or the null
abbrev pub Operation : Type 0
Operation = ℤ → ℤ → Option ℤ

abbrev pub sum_of : Operation
sum_of x y = Some (x +ℤ y)

abbrev pub difference_of : Operation
difference_of x y = Some (x -ℤ y)

abbrev pub product_of : Operation
product_of x y = Some (x *ℤ y)

-- the nanoseconds of days
abbrev pub nanoseconds : ℤ → ℤ
nanoseconds days = day_nanoseconds *ℤ days

-- a date and a timespan
abbrev pub days_and_span : Operation
days_and_span x y = Some (nanoseconds x +ℤ y)

-- a timespan and a date
abbrev pub span_and_days : Operation
span_and_days x y = Some (nanoseconds y +ℤ x)

-- the quotient rounded down; the divisor isn't 0. Euclid's division rounds down where the divisor is above 0
abbrev pub floor_div : ℤ → ℤ → ℤ
floor_div x y = if int_lt (pos 0) y then int_div_euclid x y else int_div_euclid (neg_ℤ x) (neg_ℤ y)

-- x div y
abbrev pub quotient_of : Operation
quotient_of x y = if int_eq y (pos 0) then None else Some (floor_div x y)

-- x mod y
abbrev pub remainder_of : Operation
remainder_of x y = if int_eq y (pos 0) then None else Some (x -ℤ (y *ℤ floor_div x y))

-- x xbar y
abbrev pub multiple_of : Operation
multiple_of x y = if int_eq x (pos 0) then None else Some (x *ℤ floor_div y x)

abbrev pub lesser_of : Operation
lesser_of x y = Some (int_min x y)

abbrev pub greater_of : Operation
greater_of x y = Some (int_max x y)

-- the operation of a verb that computes, for these kinds
abbrev pub operation : Verb → Kind → Kind → Operation
operation v.Add left right =
    if are k.Date k.Timespan left right then days_and_span
    else (if are k.Timespan k.Date left right then span_and_days
    else sum_of)
operation v.Sub left right = difference_of
operation v.Mul left right = product_of
operation v.Div left right = quotient_of
operation v.Mod left right = remainder_of
operation v.Xbar left right = multiple_of
operation v.Lesser left right = lesser_of
operation v.Greater left right = greater_of
operation _ left right = λ x y. None

-- the verbs that compute a number
abbrev pub computes : Verb → Bool
computes v.Add = true
computes v.Sub = true
computes v.Mul = true
computes v.Div = true
computes v.Mod = true
computes v.Xbar = true
computes v.Lesser = true
computes v.Greater = true
computes _ = false

-- a null on either side gives the null
abbrev pub of_both : Operation → Option ℤ → Option ℤ → Option ℤ
of_both f None y = None
of_both f (Some x) None = None
of_both f (Some x) (Some y) = f x y

-- the verbs that compare
abbrev pub is_comparison : Verb → Bool
is_comparison v.Eq = true
is_comparison v.Ne = true
is_comparison v.Lt = true
is_comparison v.Gt = true
is_comparison v.Le = true
is_comparison v.Ge = true
is_comparison _ = false

-- whether two values in this order are in the relation that the verb names
abbrev pub holds : Verb → Ordering → Bool
holds v.Eq o = is_eq o
holds v.Ne o = is_ne o
holds v.Lt o = is_lt o
holds v.Gt o = is_gt o
holds v.Le o = is_le o
holds v.Ge o = is_ge o
holds _ o = false

-- the verbs that choose one of two values
abbrev pub is_choice : Verb → Bool
is_choice v.Lesser = true
is_choice v.Greater = true
is_choice _ = false

-- the lesser or the greater of two values of one kind
abbrev pub chosen : Verb → Atom → Atom → Atom
chosen v.Lesser x y = if is_le (worth_cmp (worth x) (worth y)) then x else y
chosen v.Greater x y = if is_ge (worth_cmp (worth x) (worth y)) then x else y
chosen _ x y = x

-- the verbs that work item by item
abbrev pub is_by_place : Verb → Bool
is_by_place v.In = false
is_by_place v.Within = false
is_by_place v.Like = false
is_by_place _ = true

-- the verb's result for two values of these kinds, in the kind of the result
abbrev pub value_of : Verb → Kind → Kind → Kind → Atom → Atom → Atom
value_of verb left right kind x y =
    if is_comparison verb then a.Boolean (holds verb (worth_cmp (worth x) (worth y)))
    else (if is_choice verb && is left right then chosen verb x y
    else written kind (of_both (operation verb left right) (worth x).number (worth y).number))
