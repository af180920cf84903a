-- Items that have names, from an index on.
use Rattle.std.proofs.Common.{◌≡◌, ℕ, ◌+◌, ◌<◌, Bool, true, false, cond, List, [], ◌∷◌, length, get_or, drop, refl, sym, ap, ◌∙◌, add-one, arith, zero, suc, Some, None, slice_get}
use Rattle.std.specs.Str.{bytes_eq}
use Rattle.qsql_values.specs.Beside.{beside}

pub beside_nothing : {X : Type 0} (name : List ℕ) (names : List (List ℕ)) → beside {X = X} name names [] ≡ None
beside_nothing name [] = refl
beside_nothing name (other ∷ names) = refl

-- the name stands at this index
pub beside_here : {X : Type 0} (name : List ℕ) (names : List (List ℕ)) (xs : List X) (i : ℕ) → i < length names → bytes_eq name (get_or names i []) ≡ true → beside name (drop i names) (drop i xs) ≡ slice_get xs i
beside_here name [] xs i within same = absurd (omega arith)
beside_here name (other ∷ names) [] zero within same = refl
beside_here name (other ∷ names) [] (suc i) within same = beside_nothing name (drop i names)
beside_here name (other ∷ names) (x ∷ xs) zero within same = ap (λ (b : Bool). cond b (Some x) (beside name names xs)) same
beside_here name (other ∷ names) (x ∷ xs) (suc i) within same = beside_here name names xs i (omega (arith, within)) same

next : {X : Type 0} (name : List ℕ) (names : List (List ℕ)) (xs : List X) (i : ℕ) → i < length names → bytes_eq name (get_or names i []) ≡ false → beside name (drop i names) (drop i xs) ≡ beside name (drop (suc i) names) (drop (suc i) xs)
next name [] xs i within differs = absurd (omega arith)
next name (other ∷ names) [] zero within differs = sym (beside_nothing name names)
next name (other ∷ names) [] (suc i) within differs = beside_nothing name (drop i names) ∙ sym (beside_nothing name (drop (suc i) names))
next name (other ∷ names) (x ∷ xs) zero within differs = ap (λ (b : Bool). cond b (Some x) (beside name names xs)) differs
next name (other ∷ names) (x ∷ xs) (suc i) within differs = next name names xs i (omega (arith, within)) differs

-- another name stands at this index
pub beside_next : {X : Type 0} (name : List ℕ) (names : List (List ℕ)) (xs : List X) (i : ℕ) → i < length names → bytes_eq name (get_or names i []) ≡ false → beside name (drop i names) (drop i xs) ≡ beside name (drop (i + 1) names) (drop (i + 1) xs)
beside_next name names xs i within differs = rw add-one (next name names xs i within differs)
