-- Lists that are gone through by an index.
use Rattle.std.proofs.Common.{◌≡◌, ℕ, ◌+◌, ◌++◌, List, [], ◌∷◌, map, take, refl, sym, ap, ◌∙◌, subst, arith, All, Some, slice_get, inl, inr}
use Rattle.std.specs.List.{flat_map, Any, AllByRecursion}
use Rattle.std.proofs.lemmas.List.{get_or-map, length-map}
use Rattle.std.proofs.lemmas.List.Elements.{All-more}
use Rattle.std.proofs.lemmas.Option.{get_or_from_slice_get, slice_get_within, slice_get_cases}
use Rattle.day_rows.proofs.Lists.{flat_map_more}
use Rattle.day_rows.proofs.DayLemmas.{all-append}

-- one more element, which a call read
pub all_more : {X : Type 0} (P : X → Type 0) (xs : List X) (i : ℕ) (x : X) → slice_get xs i ≡ Some x → All P (take i xs) → P x → All P (take (i + 1) xs)
all_more P xs i x is all p = All-more P xs i x (slice_get_within xs i x is) all (subst P (sym (get_or_from_slice_get xs i x x is)) p)

pub joined_more : {X Y : Type 0} (f : X → List Y) (xs : List X) (i : ℕ) (x : X) → slice_get xs i ≡ Some x → flat_map f (take (i + 1) xs) ≡ flat_map f (take i xs) ++ f x
joined_more f xs i x is = flat_map_more f xs i x (slice_get_within xs i x is) (sym (get_or_from_slice_get xs i x x is))

pub flat_map-map : {X Y Z : Type 0} (f : Y → List Z) (g : X → Y) (xs : List X) → flat_map f (map g xs) ≡ flat_map (λ x. f (g x)) xs
flat_map-map f g [] = refl
flat_map-map f g (x ∷ xs) = ap (λ l. f (g x) ++ l) (flat_map-map f g xs)

-- an element of a mapped list is that of one before
pub any-map : {X Y : Type 0} (P : Y → Type 0) (f : X → Y) (xs : List X) → Any P (map f xs) → Any (λ x. P (f x)) xs
any-map P f xs any =
    elim (slice_get_cases xs any.0).1 [
      | inl w ↦ (any.0, w.0, w.1, w.3, subst P (sym any.3 ∙ get_or-map f xs any.0 w.0 any.1 w.1 ∙ ap f w.3) any.4)
      | inr w ↦ absurd (omega (arith, any.2, w.0, length-map xs f))
    ]

pub all-flat_map : {X Y : Type 0} (P : Y → Type 0) (f : X → List Y) → ((x : X) → AllByRecursion P (f x)) → (xs : List X) → AllByRecursion P (flat_map f xs)
all-flat_map P f each [] = tt
all-flat_map P f each (x ∷ xs) = all-append P (f x) (flat_map f xs) (each x) (all-flat_map P f each xs)
