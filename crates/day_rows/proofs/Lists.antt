-- Lists: parts, sums and joins.
use Rattle.std.proofs.Common.{map, ◌≡◌, ℕ, ◌+◌, ◌-◌, ◌<◌, ◌++◌, List, [], ◌∷◌, length, get_or, take, drop, refl, sym, ap, ◌∙◌, arith, ◌≤◌, append-nil, append_assoc, zero, suc}
use Rattle.std.proofs.lemmas.List.{length-map, get_or-map, take_more, length-take, length-append, take_all}
use Rattle.std.proofs.lemmas.Grind.{flat_map-append}
use Rattle.std.specs.List.{flat_map}
use Rattle.q_values.specs.Contents.{Contents}
use Rattle.q_values.specs.declared.atom.Atom.{Atom}
use Rattle.q_values.specs.declared.kind.Kind.{Kind}

take-append : {X : Type 0} (n : ℕ) (xs ys : List X) → take n (xs ++ ys) ≡ take n xs ++ take (n - length xs) ys
take-append zero [] ys = refl
take-append (suc n) [] ys = let same : suc n - 0 ≡ suc n = omega arith in rw same refl
take-append zero (x ∷ xs) ys = let e : 0 - length (x ∷ xs) ≡ 0 = omega arith in rw e refl
take-append (suc n) (x ∷ xs) ys = let e : suc n - suc (length xs) ≡ n - length xs = omega arith in rw e (ap (λ l. x ∷ l) (take-append n xs ys))

pub drop-append : {X : Type 0} (n : ℕ) (xs ys : List X) → drop n (xs ++ ys) ≡ drop n xs ++ drop (n - length xs) ys
drop-append zero [] ys = refl
drop-append (suc n) [] ys = let same : suc n - 0 ≡ suc n = omega arith in rw same refl
drop-append zero (x ∷ xs) ys = let e : 0 - length (x ∷ xs) ≡ 0 = omega arith in rw e refl
drop-append (suc n) (x ∷ xs) ys = let e : suc n - suc (length xs) ≡ n - length xs = omega arith in rw e (drop-append n xs ys)

-- a part of two lists that are joined
pub part-append : {X : Type 0} (n from : ℕ) (xs ys : List X) → take n (drop from (xs ++ ys)) ≡ take n (drop from xs) ++ take (n - length (take n (drop from xs))) (drop (from - length xs) ys)
part-append n from xs ys =
    let size : n - length (drop from xs) ≡ n - length (take n (drop from xs)) = omega (arith, length-take n (drop from xs)) in
    ap (take n) (drop-append from xs ys) ∙ take-append n (drop from xs) (drop (from - length xs) ys) ∙ ap (λ k. take n (drop from xs) ++ take k (drop (from - length xs) ys)) size

-- a join with one more list
pub flat_map_more : {X Y : Type 0} (f : X → List Y) (xs : List X) (n : ℕ) (x : X) → n < length xs → x ≡ get_or xs n x → flat_map f (take (n + 1) xs) ≡ flat_map f (take n xs) ++ f x
flat_map_more f xs n x n_in x_is =
    ap (flat_map f) (take_more xs n x n_in) ∙ ap (λ y. flat_map f (take n xs ++ y ∷ [])) (sym x_is) ∙ flat_map-append f (take n xs) (x ∷ []) ∙ ap (λ l. flat_map f (take n xs) ++ l) (append-nil (f x))

-- a part that is the whole list
pub part-all : {X : Type 0} (n : ℕ) (xs : List X) → n ≡ length xs → take n (drop 0 xs) ≡ xs
part-all n xs is = take_all n xs (omega (arith, is))

-- what a loop over entries has of a part, after one more entry
pub part_more : (kind : Kind) (n from skip : ℕ) (J A : List Atom) (F G : Contents) → F ≡ record { kind = kind; atoms = take n (drop from J) } → skip ≡ from - length J
    → G ≡ record F { atoms = F.atoms ++ take (n - length F.atoms) (drop skip A) } → G ≡ record { kind = kind; atoms = take n (drop from (J ++ A)) }
part_more kind n from skip J A F G f s g = g ∙ rw (f, s) (ap (λ a. record { kind = kind; atoms = a }) (sym (part-append n from J A)))

-- two lists that agree so far, and at the next index
pub take_more_same : {X Y : Type 0} (f : X → Y) (xs : List X) (ys : List Y) (i : ℕ) (x : X) (d : Y) → i < length xs → i < length ys → x ≡ get_or xs i x → f x ≡ get_or ys i d → take i (map f xs) ≡ take i ys
    → take (i + 1) (map f xs) ≡ take (i + 1) ys
take_more_same f xs ys i x d i_in i_in' x_is same before =
    let size : i < length (map f xs) = omega (arith, i_in, length-map xs f) in
    let here = get_or-map f xs i x (f x) i_in ∙ ap f (sym x_is) ∙ same in
    take_more (map f xs) i (f x) size ∙ ap (λ y. take i (map f xs) ++ y ∷ []) here ∙ ap (λ l. l ++ get_or ys i d ∷ []) before ∙ sym (take_more ys i d i_in')

-- the same, where something stands before the part
pub part_more_after : (n skip left : ℕ) (J A : List Atom) (I F G : Contents) → F ≡ record I { atoms = I.atoms ++ take (n - length I.atoms) (drop skip J) } → left ≡ skip - length J
    → G ≡ record F { atoms = F.atoms ++ take (n - length F.atoms) (drop left A) } → G ≡ record I { atoms = I.atoms ++ take (n - length I.atoms) (drop skip (J ++ A)) }
part_more_after n skip left J A I F G f s g =
    let T : List Atom = take (n - length I.atoms) (drop skip J) in
    let size : n - length (I.atoms ++ T) ≡ (n - length I.atoms) - length T = omega (arith, length-append I.atoms T) in
    g ∙ rw (f, s, size) (ap (λ a. record { kind = I.kind; atoms = a }) (append_assoc I.atoms T (take ((n - length I.atoms) - length T) (drop (skip - length J) A)) ∙ ap (λ a. I.atoms ++ a) (sym (part-append (n - length I.atoms) skip J A))))

pub part_short : (n : ℕ) (F G : Contents) (X : List Atom) → length F.atoms ≤ n → G ≡ record F { atoms = F.atoms ++ take (n - length F.atoms) X } → length G.atoms ≤ n
part_short n F G X short is =
    omega (arith, short, ap (λ (v : Contents). length v.atoms) is, length-append F.atoms (take (n - length F.atoms) X), length-take (n - length F.atoms) X)
