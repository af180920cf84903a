-- Loops that map, and maps through one another.
use Rattle.std.proofs.Common.{◌≡◌, ℕ, ◌+◌, ◌<◌, ◌++◌, List, [], ◌∷◌, length, get_or, take, map, refl, sym, ap, ◌∙◌, Some, slice_get}
use Rattle.std.proofs.lemmas.List.{take_more, map_push}
use Rattle.std.proofs.lemmas.Option.{get_or_from_slice_get}

-- one more item, where a call read it
pub map_more_at : {X Y : Type 0} (f : X → Y) (xs : List X) (i : ℕ) (x : X) → i < length xs → x ≡ get_or xs i x → map f (take (i + 1) xs) ≡ map f (take i xs) ++ f x ∷ []
map_more_at f xs i x h e =
    ap (map f) (take_more xs i x h) ∙ map_push f (take i xs) (get_or xs i x) ∙ ap (λ y. map f (take i xs) ++ f y ∷ []) (sym e)

pub map_more_read : {X Y : Type 0} (f : X → Y) (xs : List X) (i : ℕ) (x : X) → i < length xs → slice_get xs i ≡ Some x → map f (take (i + 1) xs) ≡ map f (take i xs) ++ f x ∷ []
map_more_read f xs i x h e =
    ap (map f) (take_more xs i x h)
    ∙ map_push f (take i xs) (get_or xs i x)
    ∙ ap (λ y. map f (take i xs) ++ f y ∷ []) (get_or_from_slice_get xs i x x e)

-- lists whose items are worth the same have the same results
pub map_through : {X Y W V : Type 0} (f : W → V) (g : X → W) (h : Y → W) (xs : List X) (us : List Y) → map g xs ≡ map h us → map (λ x. f (g x)) xs ≡ map (λ u. f (h u)) us
map_through {W = W} f g h xs us d = mapped g xs ∙ ap (map f) d ∙ sym (mapped h us)
  where
    mapped : {A : Type 0} (k : A → W) (ps : List A) → map (λ p. f (k p)) ps ≡ map f (map k ps)
    mapped k [] = refl
    mapped k (p ∷ ps) = ap (λ l. f (k p) ∷ l) (mapped k ps)

pub map-mapped : {X Y Z : Type 0} (f : Y → Z) (g : X → Y) (xs : List X) → map f (map g xs) ≡ map (λ x. f (g x)) xs
map-mapped f g [] = refl
map-mapped f g (x ∷ xs) = ap (λ l. f (g x) ∷ l) (map-mapped f g xs)
