-- What holds of the verbs, in other words than their definitions.
use Rattle.std.specs.Prelude.{◌≡◌, ℤ, ◌+ℤ◌, ◌≤ℤ◌, List, [], ◌∷◌, ◌++◌, map, Some, ◌⊎◌}
use Rattle.std.specs.Int.{Width, int_wrap}
use Rattle.q_values.specs.declared.atom.Atom.{Atom}
use Rattle.q_values.specs.declared.kind.Kind.{Kind}
use Rattle.q_verbs.specs.Numbers.{reduced}
use Rattle.q_verbs.specs.declared.verb.Verb1.TheVariants as u
use Rattle.q_verbs.specs.Aggregates.{total, number_of, greatest, aggregate_of}

-- the sum of two lists joined is the sum of their sums, wrapped
abbrev pub SumOfJoined : Type 0
SumOfJoined =
    (w : Width) (xs ys : List Atom)
    → reduced w (Some (total (map number_of (xs ++ ys))))
    ≡ int_wrap w (reduced w (Some (total (map number_of xs))) +ℤ reduced w (Some (total (map number_of ys))))

-- the atom is in the list
abbrev pub IsItem : Atom → List Atom → Type 0
IsItem x [] = ⊥
IsItem x (y ∷ ys) = (x ≡ y) ⊎ IsItem x ys

-- no number of the list is less
abbrev pub NoneIsLess : ℤ → List Atom → Type 0
NoneIsLess m [] = Unit {0}
NoneIsLess m (x ∷ xs) = ((z : ℤ) → number_of x ≡ Some z → m ≤ℤ z) × NoneIsLess m xs

-- the result of `min` is an item, or the greatest value of the kind, and no number of the list is less
abbrev pub LeastIsItem : Type 0
LeastIsItem = (kind : Kind) (xs : List Atom) →
    (IsItem (aggregate_of u.Min kind xs) xs ⊎ (aggregate_of u.Min kind xs ≡ greatest kind))
    × ((m : ℤ) → number_of (aggregate_of u.Min kind xs) ≡ Some m → NoneIsLess m xs)
