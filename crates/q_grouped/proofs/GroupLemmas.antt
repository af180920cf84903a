-- Groups, one more row at a time, and what is made of them.
use Rattle.std.proofs.Common.{◌≡◌, ◌≢◌, ℕ, suc, ◌+◌, ◌<◌, Bool, true, false, if◌then◌else◌, List, [], ◌∷◌, ◌++◌, length, get_or, set, take, map, All, Some, slice_get, refl, sym, ap, ◌∙◌, subst, arith}
use Rattle.std.specs.Prelude.{nat_eq, fold}
use Rattle.std.specs.List.{range_with_len}
use Rattle.std.proofs.lemmas.List.{take_more, length-take-le, length-set, get_or-set_same, get_or-set_other}
use Rattle.std.proofs.lemmas.List.Elements.{All-nil, All-cons, All-append, All-head, All-tail}
use Rattle.std.proofs.lemmas.List.FromFn.{get_or-map-range_with_len, length-map-range_with_len}
use Rattle.std.proofs.lemmas.List.Sums.{fold-append}
use Rattle.std.proofs.lemmas.Option.{get_or_from_slice_get}
use Rattle.q_grouped.specs.Grouped.{group_of, by_group}

cons_if : {X : Type 0} (b : Bool) (x : X) (l m : List X) → (if b then x ∷ (l ++ m) else (l ++ m)) ≡ (if b then x ∷ l else l) ++ m
cons_if true x l m = refl
cons_if false x l m = refl

pub group-append : {X : Type 0} (g : ℕ) (cs ds : List ℕ) (xs ys : List X) → length cs ≡ length xs → group_of g (cs ++ ds) (xs ++ ys) ≡ group_of g cs xs ++ group_of g ds ys
group-append g [] ds [] ys e = refl
group-append g [] ds (x ∷ xs) ys e = absurd (omega arith)
group-append g (c ∷ cs) ds [] ys e = absurd (omega arith)
group-append g (c ∷ cs) ds (x ∷ xs) ys e =
    ap (λ l. if nat_eq c g then x ∷ l else l) (group-append g cs ds xs ys (omega arith)) ∙ cons_if (nat_eq c g) x (group_of g cs xs) (group_of g ds ys)

mapped_if : {X Y : Type 0} (f : X → Y) (x : X) (b : Bool) (l : List X) → (if b then f x ∷ map f l else map f l) ≡ map f (if b then x ∷ l else l)
mapped_if f x true l = refl
mapped_if f x false l = refl

pub group-map : {X Y : Type 0} (f : X → Y) (g : ℕ) (codes : List ℕ) (xs : List X) → group_of g codes (map f xs) ≡ map f (group_of g codes xs)
group-map f g [] xs = refl
group-map f g (c ∷ codes) [] = refl
group-map f g (c ∷ codes) (x ∷ xs) = ap (λ l. if nat_eq c g then f x ∷ l else l) (group-map f g codes xs) ∙ mapped_if f x (nat_eq c g) (group_of g codes xs)

All-cons_if : {X : Type 0} (P : X → Type 0) (x : X) (b : Bool) (l : List X) → P x → All P l → All P (if b then x ∷ l else l)
All-cons_if P x true l here rest = All-cons P x l here rest
All-cons_if P x false l here rest = rest

-- what holds of each item holds of those of a group
pub group-All : {X : Type 0} (P : X → Type 0) (g : ℕ) (codes : List ℕ) (xs : List X) → All P xs → All P (group_of g codes xs)
group-All P g [] xs all = All-nil P
group-All P g (c ∷ codes) [] all = All-nil P
group-All P g (c ∷ codes) (x ∷ xs) all = All-cons_if P x (nat_eq c g) (group_of g codes xs) (All-head P x xs all) (group-All P g codes xs (All-tail P x xs all))

append_none : {X : Type 0} (xs : List X) → xs ++ [] ≡ xs
append_none [] = refl
append_none (x ∷ xs) = ap (λ l. x ∷ l) (append_none xs)

-- one more row
group_more : {X : Type 0} (g : ℕ) (codes : List ℕ) (xs : List X) (i : ℕ) (x : X) → i < length codes → length codes ≡ length xs → slice_get xs i ≡ Some x → group_of g (take (i + 1) codes) (take (i + 1) xs) ≡ group_of g (take i codes) (take i xs) ++ (if nat_eq (get_or codes i 0) g then x ∷ [] else [])
group_more g codes xs i x h size at =
    let part : length (take i codes) ≡ length (take i xs) = length-take-le i codes (omega arith) ∙ sym (length-take-le i xs (omega arith)) in
    (λ j. group_of g (take_more codes i 0 h j) (take_more xs i x (omega arith) j))
    ∙ group-append g (take i codes) (get_or codes i 0 ∷ []) (take i xs) (get_or xs i x ∷ []) part
    ∙ ap (λ y. group_of g (take i codes) (take i xs) ++ (if nat_eq (get_or codes i 0) g then y ∷ [] else [])) (get_or_from_slice_get xs i x x at)

same_lists : {Y : Type 0} (xs ys : List Y) → length xs ≡ length ys → ((i : ℕ) (d : Y) → i < length xs → get_or xs i d ≡ get_or ys i d) → xs ≡ ys
same_lists [] [] e at = refl
same_lists [] (y ∷ ys) e at = absurd (omega arith)
same_lists (x ∷ xs) [] e at = absurd (omega arith)
same_lists (x ∷ xs) (y ∷ ys) e at = λ i. at 0 x (omega arith) i ∷ same_lists xs ys (omega arith) (λ k d h. at (suc k) d (omega arith)) i

plain : (k : ℕ) → 0 + k ≡ k
plain k = omega arith

-- before the first row
pub groups_start : {X S : Type 0} (next : S → X → S) (start : S) (groups : ℕ) (states : List S) (codes : List ℕ) (xs : List X) → length states ≡ groups → ((k : ℕ) (d : S) → k < groups → get_or states k d ≡ start) → states ≡ by_group (fold next start) groups (take 0 codes) (take 0 xs)
groups_start next start groups states codes xs size each =
    same_lists states (by_group (fold next start) groups [] (take 0 xs)) (size ∙ sym (length-map-range_with_len (λ g. start) 0 groups)) (λ k d low. each k d (omega arith) ∙ sym (get_or-map-range_with_len (λ g. start) 0 groups k k d (omega arith) (plain k)))

-- one more row changes the state of its group
pub groups_step : {X S : Type 0} (next : S → X → S) (start : S) (groups : ℕ) (codes : List ℕ) (xs : List X) (states : List S) (i c : ℕ) (x : X) (s : S) → i < length codes → length codes ≡ length xs → c ≡ get_or codes i 0 → c < groups → slice_get xs i ≡ Some x → states ≡ by_group (fold next start) groups (take i codes) (take i xs) → get_or states c s ≡ s → set states c (next s x) ≡ by_group (fold next start) groups (take (i + 1) codes) (take (i + 1) xs)
groups_step {X = X} {S = S} next start groups codes xs states i c x s h size c_is c_in at before s_is = same_lists (set states c (next s x)) (map after (range_with_len 0 groups)) sizes (λ k d low. go k d (omega (arith, low, length-set states c (next s x), length_before)) (nat_eq c k) refl)
  where
    after : ℕ → S
    after g = fold next start (group_of g (take (i + 1) codes) (take (i + 1) xs))

    length_before : length states ≡ groups
    length_before = ap length before ∙ length-map-range_with_len (λ g. fold next start (group_of g (take i codes) (take i xs))) 0 groups

    sizes : length (set states c (next s x)) ≡ length (map after (range_with_len 0 groups))
    sizes = length-set states c (next s x) ∙ length_before ∙ sym (length-map-range_with_len after 0 groups)

    more : (g : ℕ) → after g ≡ fold next start (group_of g (take i codes) (take i xs) ++ (if nat_eq c g then x ∷ [] else []))
    more g = ap (fold next start) (group_more g codes xs i x h size at) ∙ ap (λ n. fold next start (group_of g (take i codes) (take i xs) ++ (if nat_eq n g then x ∷ [] else []))) (sym c_is)

    old : (k : ℕ) (d : S) → k < groups → get_or states k d ≡ fold next start (group_of k (take i codes) (take i xs))
    old k d low = ap (λ l. get_or l k d) before ∙ get_or-map-range_with_len (λ g. fold next start (group_of g (take i codes) (take i xs))) 0 groups k k d low (plain k)

    go : (k : ℕ) (d : S) → k < groups → (b : Bool) → nat_eq c k ≡ b → get_or (set states c (next s x)) k d ≡ get_or (map after (range_with_len 0 groups)) k d
    go k d low true e =
        let same : c ≡ k = grind arith in
        ap (λ n. get_or (set states c (next s x)) n d) (sym same)
        ∙ get_or-set_same states c (next s x) d (omega (arith, c_in, length_before))
        ∙ ap (λ t. next t x) (sym s_is ∙ old c s c_in ∙ ap (λ n. fold next start (group_of n (take i codes) (take i xs))) same)
        ∙ sym (fold-append next start (group_of k (take i codes) (take i xs)) (x ∷ []))
        ∙ ap (λ b. fold next start (group_of k (take i codes) (take i xs) ++ (if b then x ∷ [] else []))) (sym e)
        ∙ sym (more k)
        ∙ sym (get_or-map-range_with_len after 0 groups k k d low (plain k))
    go k d low false e =
        let other : k ≢ c = grind arith in
        get_or-set_other states c k (next s x) d other
        ∙ old k d low
        ∙ ap (fold next start) (sym (append_none (group_of k (take i codes) (take i xs))))
        ∙ ap (λ b. fold next start (group_of k (take i codes) (take i xs) ++ (if b then x ∷ [] else []))) (sym e)
        ∙ sym (more k)
        ∙ sym (get_or-map-range_with_len after 0 groups k k d low (plain k))

pub All_more : {X : Type 0} (P : X → Type 0) (xs : List X) (i : ℕ) (x : X) → i < length xs → slice_get xs i ≡ Some x → P x → All P (take i xs) → All P (take (i + 1) xs)
All_more P xs i x h at here rest =
    subst (All P) (sym (take_more xs i x h ∙ ap (λ y. take i xs ++ y ∷ []) (get_or_from_slice_get xs i x x at))) (All-append P (take i xs) (x ∷ []) rest (All-cons P x [] here (All-nil P)))

map_alike : {Y Z : Type 0} (f g : Y → Z) (ys : List Y) → ((y : Y) → f y ≡ g y) → map f ys ≡ map g ys
map_alike f g [] e = refl
map_alike f g (y ∷ ys) e = λ i. e y i ∷ map_alike f g ys e i

map_twice : {X Y Z : Type 0} (f : Y → Z) (g : X → Y) (xs : List X) → map f (map g xs) ≡ map (λ x. f (g x)) xs
map_twice f g [] = refl
map_twice f g (x ∷ xs) = ap (λ l. f (g x) ∷ l) (map_twice f g xs)

-- what is made of the items of each group, through a function of the items and one of the results
pub by_group-through : {X Y S Z : Type 0} (f : List X → S) (h : List Y → Z) (atom : X → Y) (result : S → Z) (groups : ℕ) (codes : List ℕ) (xs : List X) → ((g : ℕ) → result (f (group_of g codes xs)) ≡ h (map atom (group_of g codes xs))) → map result (by_group f groups codes xs) ≡ by_group h groups codes (map atom xs)
by_group-through f h atom result groups codes xs each =
    map_twice result (λ g. f (group_of g codes xs)) (range_with_len 0 groups)
    ∙ map_alike (λ g. result (f (group_of g codes xs))) (λ g. h (group_of g codes (map atom xs))) (range_with_len 0 groups) (λ g. each g ∙ ap h (sym (group-map atom g codes xs)))

-- two functions that make the same of each group's items
pub by_group-same : {X Y : Type 0} (f h : List X → Y) (groups : ℕ) (codes : List ℕ) (xs : List X) → ((ys : List X) → f ys ≡ h ys) → by_group f groups codes xs ≡ by_group h groups codes xs
by_group-same f h groups codes xs each = map_alike (λ g. f (group_of g codes xs)) (λ g. h (group_of g codes xs)) (range_with_len 0 groups) (λ g. each (group_of g codes xs))

-- a function of the results
pub map-by_group : {X Y Z : Type 0} (result : Y → Z) (f : List X → Y) (groups : ℕ) (codes : List ℕ) (xs : List X) → map result (by_group f groups codes xs) ≡ by_group (λ ys. result (f ys)) groups codes xs
map-by_group result f groups codes xs = map_twice result (λ g. f (group_of g codes xs)) (range_with_len 0 groups)

length-cons_if : {X Y : Type 0} (x : X) (y : Y) (b : Bool) (l : List X) (m : List Y) → length l ≡ length m → length (if b then x ∷ l else l) ≡ length (if b then y ∷ m else m)
length-cons_if x y true l m e = omega arith
length-cons_if x y false l m e = e

group-length : {X Y : Type 0} (g : ℕ) (codes : List ℕ) (xs : List X) (ys : List Y) → length xs ≡ length ys → length (group_of g codes xs) ≡ length (group_of g codes ys)
group-length g [] xs ys e = refl
group-length g (c ∷ codes) [] [] e = refl
group-length g (c ∷ codes) [] (y ∷ ys) e = absurd (omega arith)
group-length g (c ∷ codes) (x ∷ xs) [] e = absurd (omega arith)
group-length g (c ∷ codes) (x ∷ xs) (y ∷ ys) e = length-cons_if x y (nat_eq c g) (group_of g codes xs) (group_of g codes ys) (group-length g codes xs ys (omega arith))

-- what is made of the number of each group's items
pub by_group-length : {X Y Z : Type 0} (f : ℕ → Z) (groups : ℕ) (codes : List ℕ) (xs : List X) (ys : List Y) → length xs ≡ length ys → by_group (λ l. f (length l)) groups codes xs ≡ by_group (λ l. f (length l)) groups codes ys
by_group-length f groups codes xs ys e =
    map_alike (λ g. f (length (group_of g codes xs))) (λ g. f (length (group_of g codes ys))) (range_with_len 0 groups) (λ g. ap f (group-length g codes xs ys e))
