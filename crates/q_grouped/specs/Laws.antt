-- What two lists joined have, from what each of them has.
use Rattle.std.specs.Prelude.{◌≡◌, ℕ, ℤ, pos, ◌+ℤ◌, List, ◌++◌, length, Option, Some, None, unwrap_or}
use Rattle.std.specs.Option.{IsSome, option_or}
use Rattle.q_values.specs.declared.atom.Atom.{Atom}
use Rattle.q_values.specs.declared.atom.Atom.TheVariants as a
use Rattle.q_values.specs.declared.kind.Kind.{Kind}
use Rattle.q_values.specs.declared.kind.Kind.TheVariants as k
use Rattle.q_verbs.specs.Kinds.{total_kind}
use Rattle.q_verbs.specs.Numbers.{written}
use Rattle.q_verbs.specs.Aggregates.{aggregate_of, first_of, last_of, chosen_of, number_of}
use Rattle.q_verbs.specs.Places.{chosen}
use Rattle.q_verbs.specs.declared.verb.Verb.TheVariants as v
use Rattle.q_verbs.specs.declared.verb.Verb1.TheVariants as u
use Rattle.q_grouped.specs.Grouped.{group_of}

-- the number of an int, a long or a timespan, also where it is read as the null
abbrev pub stored : Atom → ℤ
stored (a.Integer x) = x
stored (a.Long x) = x
stored (a.Timespan x) = x
stored _ = pos 0

-- two counts or sums of this kind together, wrapped
abbrev pub together : Kind → Atom → Atom → Atom
together kind x y = written kind (Some (stored x +ℤ stored y))

-- a group's items of rows joined are those of both parts, in order
abbrev pub GroupOfJoined : Type 0
GroupOfJoined =
    (g : ℕ) (codes others : List ℕ) (xs ys : List Atom) → length codes ≡ length xs
    → group_of g (codes ++ others) (xs ++ ys) ≡ group_of g codes xs ++ group_of g others ys

-- the count is both counts together
abbrev pub CountOfJoined : Type 0
CountOfJoined =
    (kind : Kind) (xs ys : List Atom)
    → aggregate_of u.Count kind (xs ++ ys) ≡ together k.Long (aggregate_of u.Count kind xs) (aggregate_of u.Count kind ys)

-- the sum is both sums together, each as the number that it is stored as
abbrev pub SumOfJoined : Type 0
SumOfJoined =
    (kind : Kind) (xs ys : List Atom)
    → IsSome (total_kind kind)
    → aggregate_of u.Sum kind (xs ++ ys) ≡ together (unwrap_or (total_kind kind) kind) (aggregate_of u.Sum kind xs) (aggregate_of u.Sum kind ys)

-- the one that is chosen of two, where there are two
abbrev pub of_either : (Atom → Atom → Atom) → Option Atom → Option Atom → Option Atom
of_either pick None y = y
of_either pick (Some x) None = Some x
of_either pick (Some x) (Some y) = Some (pick x y)

-- the least item that is no null is the lesser of both, where each list has one
abbrev pub LeastOfJoined : Type 0
LeastOfJoined =
    (xs ys : List Atom)
    → chosen_of number_of (chosen v.Lesser) (xs ++ ys)
    ≡ of_either (chosen v.Lesser) (chosen_of number_of (chosen v.Lesser) xs) (chosen_of number_of (chosen v.Lesser) ys)

-- the greatest item that is no null is the greater of both, where each list has one
abbrev pub GreatestOfJoined : Type 0
GreatestOfJoined =
    (xs ys : List Atom)
    → chosen_of number_of (chosen v.Greater) (xs ++ ys)
    ≡ of_either (chosen v.Greater) (chosen_of number_of (chosen v.Greater) xs) (chosen_of number_of (chosen v.Greater) ys)

-- the first item is that of the first list, where it has one, also a null, and else that of the second
abbrev pub FirstOfJoined : Type 0
FirstOfJoined = (xs ys : List Atom) → first_of (xs ++ ys) ≡ option_or (first_of xs) (first_of ys)

-- the last item is that of the second list, where it has one, also a null, and else that of the first
abbrev pub LastOfJoined : Type 0
LastOfJoined = (xs ys : List Atom) → last_of (xs ++ ys) ≡ option_or (last_of ys) (last_of xs)
