-- Lists in order.
use Rattle.std.specs.Prelude.{if◌then◌else◌, List, [], ◌∷◌}
use Rattle.std.specs.List.{AllByRecursion}
use Rattle.std.specs.declared.cmp.Ordering.{Ordering}
use Rattle.std.specs.Ordering.{is_gt}

-- x inserted before the first element that is not below it
abbrev pub inserted : {X : Type 0} → (X → X → Ordering) → X → List X → List X
inserted cmp x [] = x ∷ []
inserted cmp x (y ∷ ys) = if is_gt (cmp x y) then y ∷ inserted cmp x ys else x ∷ y ∷ ys

-- the elements in stable ascending order
abbrev pub in_order : {X : Type 0} → (X → X → Ordering) → List X → List X
in_order cmp [] = []
in_order cmp (x ∷ xs) = inserted cmp x (in_order cmp xs)

-- each element is below each later one
abbrev pub IsAscending : {X : Type 0} → (X → X → Type 0) → List X → Type 0
IsAscending R [] = Unit {0}
IsAscending R (x ∷ xs) = AllByRecursion (R x) xs × IsAscending R xs
