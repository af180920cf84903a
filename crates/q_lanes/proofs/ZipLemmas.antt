-- Two lists side by side.
use Rattle.std.proofs.Common.{min, ◌≡◌, ℕ, ◌+◌, ◌<◌, ◌++◌, List, [], ◌∷◌, length, get_or, take, map, refl, sym, ap, ◌∙◌, arith, zero, suc, add-one, Some, slice_get}
use Rattle.std.proofs.lemmas.Option.{get_or_from_slice_get}
use Rattle.std.specs.Simd.Lanes.{zip2}

-- one more index
zip2_suc : {X Y Z : Type 0} (f : X → Y → Z) (xs : List X) (ys : List Y) (i : ℕ) (d : X) (e : Y) → i < length xs → i < length ys → zip2 f (take (suc i) xs) (take (suc i) ys) ≡ zip2 f (take i xs) (take i ys) ++ f (get_or xs i d) (get_or ys i e) ∷ []
zip2_suc f [] ys i d e p q = absurd (omega arith)
zip2_suc f (a ∷ xs) [] i d e p q = absurd (omega arith)
zip2_suc f (a ∷ xs) (b ∷ ys) zero d e p q = refl
zip2_suc f (a ∷ xs) (b ∷ ys) (suc i) d e p q = ap (λ l. f a b ∷ l) (zip2_suc f xs ys i d e (omega arith) (omega arith))

pub zip2_more : {X Y Z : Type 0} (f : X → Y → Z) (xs : List X) (ys : List Y) (i : ℕ) (d : X) (e : Y) → i < length xs → i < length ys → zip2 f (take (i + 1) xs) (take (i + 1) ys) ≡ zip2 f (take i xs) (take i ys) ++ f (get_or xs i d) (get_or ys i e) ∷ []
zip2_more f xs ys i d e p q = rw add-one (zip2_suc f xs ys i d e p q)

-- lists whose items are worth the same have the same results
pub zip2_through : {X Y W V : Type 0} (f : W → W → V) (g : X → W) (h : Y → W) (xs ys : List X) (us vs : List Y) → map g xs ≡ map h us → map g ys ≡ map h vs → zip2 (λ x y. f (g x) (g y)) xs ys ≡ zip2 (λ u v. f (h u) (h v)) us vs
zip2_through {W = W} f g h xs ys us vs d e = zip2_of_mapped g xs ys ∙ ap (λ l. zip2 f l (map g ys)) d ∙ ap (zip2 f (map h us)) e ∙ sym (zip2_of_mapped h us vs)
  where
    zip2_of_mapped : {A : Type 0} (k : A → W) (ps qs : List A) → zip2 (λ a b. f (k a) (k b)) ps qs ≡ zip2 f (map k ps) (map k qs)
    zip2_of_mapped k [] qs = refl
    zip2_of_mapped k (p ∷ ps) [] = refl
    zip2_of_mapped k (p ∷ ps) (q ∷ qs) = ap (λ l. f (k p) (k q) ∷ l) (zip2_of_mapped k ps qs)

pub map-zip2 : {X Y Z V : Type 0} (m : Z → V) (f : X → Y → Z) (xs : List X) (ys : List Y) → map m (zip2 f xs ys) ≡ zip2 (λ x y. m (f x y)) xs ys
map-zip2 m f [] ys = refl
map-zip2 m f (x ∷ xs) [] = refl
map-zip2 m f (x ∷ xs) (y ∷ ys) = ap (λ l. m (f x y) ∷ l) (map-zip2 m f xs ys)

pub zip2_same : {X Y Z : Type 0} (f g : X → Y → Z) (xs : List X) (ys : List Y) → ((x : X) (y : Y) → f x y ≡ g x y) → zip2 f xs ys ≡ zip2 g xs ys
zip2_same f g [] ys e = refl
zip2_same f g (x ∷ xs) [] e = refl
zip2_same f g (x ∷ xs) (y ∷ ys) e = ap (λ h. h ∷ zip2 f xs ys) (e x y) ∙ ap (λ l. g x y ∷ l) (zip2_same f g xs ys e)

-- one more index, where calls read the items
pub zip2_more_read : {X Y Z : Type 0} (f : X → Y → Z) (xs : List X) (ys : List Y) (i : ℕ) (x : X) (y : Y) → i < length xs → i < length ys → slice_get xs i ≡ Some x → slice_get ys i ≡ Some y → zip2 f (take (i + 1) xs) (take (i + 1) ys) ≡ zip2 f (take i xs) (take i ys) ++ f x y ∷ []
zip2_more_read f xs ys i x y p q d e =
    zip2_more f xs ys i x y p q
    ∙ ap (λ a. zip2 f (take i xs) (take i ys) ++ f a (get_or ys i y) ∷ []) (get_or_from_slice_get xs i x x d)
    ∙ ap (λ b. zip2 f (take i xs) (take i ys) ++ f x b ∷ []) (get_or_from_slice_get ys i y y e)

-- mapped lists
pub zip2-mapped : {X Y Z : Type 0} (f : Y → Y → Z) (g : X → Y) (xs ys : List X) → zip2 f (map g xs) (map g ys) ≡ zip2 (λ x y. f (g x) (g y)) xs ys
zip2-mapped f g [] ys = refl
zip2-mapped f g (x ∷ xs) [] = refl
zip2-mapped f g (x ∷ xs) (y ∷ ys) = ap (λ l. f (g x) (g y) ∷ l) (zip2-mapped f g xs ys)

-- one more index, where the items were read by their indices
pub zip2_more_at : {X Y Z : Type 0} (f : X → Y → Z) (xs : List X) (ys : List Y) (i : ℕ) (x : X) (y : Y) → i < length xs → i < length ys → x ≡ get_or xs i x → y ≡ get_or ys i y → zip2 f (take (i + 1) xs) (take (i + 1) ys) ≡ zip2 f (take i xs) (take i ys) ++ f x y ∷ []
zip2_more_at f xs ys i x y p q d e =
    zip2_more f xs ys i x y p q
    ∙ ap (λ a. zip2 f (take i xs) (take i ys) ++ f a (get_or ys i y) ∷ []) (sym d)
    ∙ ap (λ b. zip2 f (take i xs) (take i ys) ++ f x b ∷ []) (sym e)

-- an index of two lists together is one of each
pub zip_left : {X Y Z : Type 0} (f : X → Y → Z) (xs : List X) (ys : List Y) (i : ℕ) → i < length (zip2 f xs ys) → i < length xs
zip_left f [] ys i h = h
zip_left f (x ∷ xs) [] i h = absurd (omega (arith, h))
zip_left f (x ∷ xs) (y ∷ ys) zero h = omega arith
zip_left f (x ∷ xs) (y ∷ ys) (suc i) h = let rest = zip_left f xs ys i (omega (arith, h)) in omega arith

pub zip_right : {X Y Z : Type 0} (f : X → Y → Z) (xs : List X) (ys : List Y) (i : ℕ) → i < length (zip2 f xs ys) → i < length ys
zip_right f [] ys i h = absurd (omega (arith, h))
zip_right f (x ∷ xs) [] i h = h
zip_right f (x ∷ xs) (y ∷ ys) zero h = omega arith
zip_right f (x ∷ xs) (y ∷ ys) (suc i) h = let rest = zip_right f xs ys i (omega (arith, h)) in omega arith

-- the result at an index, from the items there
pub zip_at : {X Y Z : Type 0} (f : X → Y → Z) (xs : List X) (ys : List Y) (i : ℕ) (x : X) (y : Y) → slice_get xs i ≡ Some x → slice_get ys i ≡ Some y → slice_get (zip2 f xs ys) i ≡ Some (f x y)
zip_at f [] ys i x y d e = absurd (cc)
zip_at f (a ∷ xs) [] i x y d e = absurd (cc)
zip_at f (a ∷ xs) (b ∷ ys) zero x y d e = let one : a ≡ x = cc in let other : b ≡ y = cc in cc
zip_at f (a ∷ xs) (b ∷ ys) (suc i) x y d e = zip_at f xs ys i x y d e

-- there are as many as the shorter list has
pub zip_count : {X Y Z : Type 0} (f : X → Y → Z) (xs : List X) (ys : List Y) → length (zip2 f xs ys) ≡ min (length xs) (length ys)
zip_count f [] ys = omega arith
zip_count f (x ∷ xs) [] = omega arith
zip_count f (x ∷ xs) (y ∷ ys) = let rest = zip_count f xs ys in omega arith
