-- Groups: the equal items of a list, numbered in the order of first sight.
use Rattle.std.specs.Prelude.{◌≡◌, ℕ, ◌<◌, ◌≤◌, Bool, List, [], ◌∷◌, ◌++◌, if◌then◌else◌, length, map, fold, All, IsPermutation}
use Rattle.std.specs.List.{list_any, position_or_len, range_with_len}
use Rattle.std.specs.declared.cmp.Ordering.{Ordering}
use Rattle.std.specs.Ordering.{is_eq}
use Rattle.q_values.specs.Order.{atom_cmp, IsOrder}
use Rattle.q_values.specs.declared.atom.Atom.{Atom}

-- two atoms of one kind are equal
abbrev pub same_atom : Atom → Atom → Bool
same_atom x y = is_eq (atom_cmp x y)

-- the items, and then x unless one of them is equal to it
abbrev pub with_item : {X : Type 0} → (X → X → Bool) → List X → X → List X
with_item same items x = if list_any (same x) items then items else items ++ x ∷ []

-- the items, of equal ones the first, in order
abbrev pub distinct : {X : Type 0} → (X → X → Bool) → List X → List X
distinct same xs = fold (with_item same) [] xs

-- the index of the first item that is equal to x
abbrev pub first_of : {X : Type 0} → (X → X → Bool) → List X → X → ℕ
first_of same xs x = position_or_len (same x) xs

-- each item's code is its index among the distinct items
abbrev pub codes_of : {X : Type 0} → (X → X → Bool) → List X → List ℕ
codes_of same xs = map (first_of same (distinct same xs)) xs

-- for each of the distinct items the index where it is seen first
abbrev pub firsts_of : {X : Type 0} → (X → X → Bool) → List X → List ℕ
firsts_of same xs = map (first_of same xs) (distinct same xs)

-- the items are numbered: the distinct ones, each item's code, and where each of the distinct ones is seen first
pub record IsNumbered {X : Type 0} (same : X → X → Bool) (xs values : List X) (codes firsts : List ℕ) : Type 0 where
  pub values_are : values ≡ distinct same xs
  pub codes_are : codes ≡ codes_of same xs
  pub firsts_are : firsts ≡ firsts_of same xs

-- each item's code, where each group is seen first, and the groups in the order of their items
pub record Grouping : Type 0 where
  pub codes : List ℕ
  pub firsts : List ℕ
  pub sorted : List ℕ

-- the groups of these items
pub record AreGroups {X : Type 0} (same : X → X → Bool) (cmp : X → X → Ordering) (xs : List X) (groups : Grouping) : Type 0 where
  pub codes : groups.codes ≡ codes_of same xs
  pub firsts : groups.firsts ≡ firsts_of same xs
  pub sorted : IsOrder cmp (distinct same xs) groups.sorted

-- what holds of all groups: each code is one of them, and they are in some order
pub record IsGrouping (groups : Grouping) : Type 0 where
  pub few : length groups.codes ≤ 4294967295
  pub few_groups : length groups.sorted ≤ 4294967295
  pub codes : All (λ c. c < length groups.sorted) groups.codes
  pub sorted : IsPermutation (range_with_len 0 (length groups.sorted)) groups.sorted
