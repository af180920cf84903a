-- Verbs with one side that make a list.
use Rattle.std.specs.Prelude.{ℤ, pos, neg_ℤ, Bool, true, false, not, List, [], ◌∷◌, map, filter, Option, Some, None, option_map}
use Rattle.std.specs.Ordering.{int_eq, is_eq}
use Rattle.q_values.specs.Order.{atom_cmp}
use Rattle.q_values.specs.declared.atom.Atom.{Atom}
use Rattle.q_values.specs.declared.atom.Atom.TheVariants as a
use Rattle.q_values.specs.declared.kind.Kind.{Kind}
use Rattle.q_verbs.specs.declared.verb.Verb1.{Verb1}
use Rattle.q_verbs.specs.declared.verb.Verb1.TheVariants as u
use Rattle.q_verbs.specs.Numbers.{worth, written}

-- the number is 0, and no null
abbrev pub is_zero : Option ℤ → Bool
is_zero None = false
is_zero (Some z) = int_eq z (pos 0)

-- two atoms of one kind are equal
abbrev pub same_atom : Atom → Atom → Bool
same_atom x y = is_eq (atom_cmp x y)

-- the items, of equal ones the first
abbrev pub distinct : {X : Type 0} → (X → X → Bool) → List X → List X
distinct same [] = []
distinct same (x ∷ xs) = x ∷ filter (λ y. not (same x y)) (distinct same xs)

-- the verbs that make a list
abbrev pub is_unary : Verb1 → Bool
is_unary u.Not = true
is_unary u.Neg = true
is_unary u.Distinct = true
is_unary _ = false

-- a verb's result for a list, in the kind of the result
abbrev pub unary_of : Verb1 → Kind → List Atom → List Atom
unary_of u.Not kind xs = map (λ x. a.Boolean (is_zero (worth x).number)) xs
unary_of u.Neg kind xs = map (λ x. written kind (option_map neg_ℤ (worth x).number)) xs
unary_of _ kind xs = distinct same_atom xs
