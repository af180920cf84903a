-- Lists in pieces.
use Rattle.std.proofs.Common.{◌≡◌, ℕ, ◌+◌, ◌-◌, ◌<◌, ◌≤◌, List, [], ◌∷◌, ◌++◌, length, get_or, take, zero, suc, refl, sym, ap, ◌∙◌, arith, flat_map, min}
use Rattle.std.proofs.lemmas.List.{take_more, take_min, length-append}
use Rattle.std.proofs.lemmas.List.Concat.{flat_map-append}

++-nil : {X : Type 0} (xs : List X) → xs ++ [] ≡ xs
++-nil [] = refl
++-nil (x ∷ xs) = ap (λ l. x ∷ l) (++-nil xs)

pub flat_map-push : {P X : Type 0} (f : P → List X) (ps : List P) (p : P) → flat_map f (ps ++ p ∷ []) ≡ flat_map f ps ++ f p
flat_map-push f ps p = flat_map-append f ps (p ∷ []) ∙ ap (λ l. flat_map f ps ++ l) (++-nil (f p))

pub flat_map-more : {P X : Type 0} (f : P → List X) (ps : List P) (i : ℕ) (p : P) → i < length ps → p ≡ get_or ps i p → flat_map f (take (i + 1) ps) ≡ flat_map f (take i ps) ++ f p
flat_map-more f ps i p h e = ap (flat_map f) (take_more ps i p h) ∙ flat_map-push f (take i ps) (get_or ps i p) ∙ ap (λ q. flat_map f (take i ps) ++ f q) (sym e)

-- the first n items, where the first m of them are in the first list
pub take-parts : {X : Type 0} (n : ℕ) (xs ys : List X) → take n (xs ++ ys) ≡ take n xs ++ take (n - length xs) ys
take-parts zero [] ys = let e : 0 - 0 ≡ 0 = omega arith in ap (λ k. take k ys) (sym e)
take-parts (suc n) [] ys = let e : suc n - 0 ≡ suc n = omega arith in ap (λ k. take k ys) (sym e)
take-parts zero (x ∷ xs) ys = let e : 0 - suc (length xs) ≡ 0 = omega arith in ap (λ k. take k ys) (sym e)
take-parts (suc n) (x ∷ xs) ys = let e : n - length xs ≡ suc n - suc (length xs) = omega arith in ap (λ l. x ∷ l) (take-parts n xs ys ∙ ap (λ k. take n xs ++ take k ys) e)

-- one more piece: of the next part as many items as are left of n
pub piece_more : {P Q X : Type 0} (f : P → List X) (g : Q → List X) (ps : List P) (qs : List Q) (p : P) (q : Q) (i n left count : ℕ) → i < length qs → q ≡ get_or qs i q → f p ≡ take count (g q) → count ≡ min left (length (g q))
    → flat_map f ps ≡ take n (flat_map g (take i qs)) → left ≡ n - length (flat_map g (take i qs)) → flat_map f (ps ++ p ∷ []) ≡ take n (flat_map g (take (i + 1) qs))
piece_more f g ps qs p q i n left count i_in q_is piece count_is so_far left_is =
    flat_map-push f ps p
    ∙ (λ k. so_far k ++ (piece ∙ ap (λ m. take m (g q)) count_is ∙ take_min left (g q) ∙ ap (λ m. take m (g q)) left_is) k)
    ∙ sym (ap (take n) (flat_map-more g qs i q i_in q_is) ∙ take-parts n (flat_map g (take i qs)) (g q))

pub left_more : {Q X : Type 0} (g : Q → List X) (qs : List Q) (q : Q) (i n left count : ℕ) → i < length qs → q ≡ get_or qs i q → count ≡ min left (length (g q)) → left ≡ n - length (flat_map g (take i qs)) → left - count ≡ n - length (flat_map g (take (i + 1) qs))
left_more g qs q i n left count i_in q_is count_is left_is =
    let size = ap length (flat_map-more g qs i q i_in q_is) ∙ length-append (flat_map g (take i qs)) (g q) in
    omega (arith, size, count_is, left_is)
