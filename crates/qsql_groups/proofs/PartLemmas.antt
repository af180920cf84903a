-- The rows of a group, and items at them.
use Rattle.std.proofs.Common.{◌≡◌, ℕ, ◌+◌, ◌<◌, Bool, true, false, cond, List, [], ◌∷◌, ◌++◌, length, get_or, take, drop, replicate, refl, sym, ap, ap₂, ◌∙◌, arith, zero, suc, All, subst}
use Rattle.std.specs.Prelude.{nat_eq}
use Rattle.std.specs.List.{filter, range_with_len}
use Rattle.std.specs.Simd.Lanes.{zip2}
use Rattle.std.proofs.lemmas.List.{drop_more, drop_all}
use Rattle.std.proofs.lemmas.List.Elements.{All-nil, All-cons, All-head, All-tail, All-filter}
use Rattle.std.proofs.lemmas.Simd.{length-zip2, get_or-zip2}
use Rattle.q_values.specs.Lists.{gathered}
use Rattle.q_values.specs.declared.atom.Atom.{Atom}
use Rattle.q_values.proofs.ListLemmas.{length-gathered, get_or-gathered}
use Rattle.day_rows.specs.Rows.{absent}
use Rattle.q_grouped.specs.Grouped.{group_of}
use Rattle.q_keys.specs.Keys.{rows_of_group}

abbrev pub has : List ℕ → ℕ → ℕ → Bool
has codes g i = nat_eq (get_or codes i 0) g

-- the rows of a group have its number
rows_have : (codes : List ℕ) (g : ℕ) (is : List ℕ) → All (λ (i : ℕ). get_or codes i 0 ≡ g) (filter (has codes g) is)
rows_have codes g [] = All-nil (λ (i : ℕ). get_or codes i 0 ≡ g)
rows_have codes g (i ∷ is) = go (has codes g i) refl (rows_have codes g is)
  where
    go : (b : Bool) → has codes g i ≡ b → All (λ (i : ℕ). get_or codes i 0 ≡ g) (filter (has codes g) is) → All (λ (i : ℕ). get_or codes i 0 ≡ g) (cond b (i ∷ filter (has codes g) is) (filter (has codes g) is))
    go true e rest = let here : get_or codes i 0 ≡ g = grind arith in All-cons (λ (i : ℕ). get_or codes i 0 ≡ g) i (filter (has codes g) is) here rest
    go false e rest = rest

pub part_has : (codes : List ℕ) (g : ℕ) → All (λ (i : ℕ). get_or codes i 0 ≡ g) (rows_of_group g codes)
part_has codes g = rows_have codes g (range_with_len 0 (length codes))

-- the items of a group are those at its rows
group_rows : (codes : List ℕ) (xs : List Atom) (k n g : ℕ) → k + n ≡ length codes → length codes ≡ length xs → gathered xs (filter (has codes g) (range_with_len k n)) ≡ group_of g (drop k codes) (drop k xs)
group_rows codes xs k zero g e size = sym (ap (λ (l : List ℕ). group_of g l (drop k xs)) (drop_all k codes (omega (arith, e))))
group_rows codes xs k (suc n) g e size = go (has codes g k) (group_rows codes xs (k + 1) n g (omega (arith, e)) size) ∙ sym (λ i. group_of g (first i) (second i))
  where
    k_in : k < length codes
    k_in = omega (arith, e)

    first : drop k codes ≡ get_or codes k 0 ∷ drop (k + 1) codes
    first = drop_more codes k 0 k_in

    second : drop k xs ≡ get_or xs k absent ∷ drop (k + 1) xs
    second = drop_more xs k absent (omega (arith, k_in, size))

    go : (b : Bool) → gathered xs (filter (has codes g) (range_with_len (k + 1) n)) ≡ group_of g (drop (k + 1) codes) (drop (k + 1) xs) → gathered xs (cond b (k ∷ filter (has codes g) (range_with_len (k + 1) n)) (filter (has codes g) (range_with_len (k + 1) n))) ≡ cond b (get_or xs k absent ∷ group_of g (drop (k + 1) codes) (drop (k + 1) xs)) (group_of g (drop (k + 1) codes) (drop (k + 1) xs))
    go true rest = ap₂ (λ (l m : List Atom). l ++ m) (ap (take 1) second) rest
    go false rest = rest

pub group-gathered : (codes : List ℕ) (xs : List Atom) (g : ℕ) → length codes ≡ length xs → group_of g codes xs ≡ gathered xs (rows_of_group g codes)
group-gathered codes xs g size = sym (group_rows codes xs 0 (length codes) g (omega arith) size)

-- ---- lists at indices

pub read : {X : Type 0} (xs : List X) (p : ℕ) (x : X) → p < length xs → take 1 (drop p xs) ≡ get_or xs p x ∷ []
read xs p x here = rw (drop_more xs p x here) refl

pub gathered_none : (is : List ℕ) → gathered {X = Atom} [] is ≡ []
gathered_none [] = refl
gathered_none (i ∷ is) = ap₂ (λ (l m : List Atom). take 1 l ++ m) (drop_all i [] (omega arith)) (gathered_none is)

pub zip-gathered : {X Y Z : Type 0} (f : X → Y → Z) (xs : List X) (ys : List Y) (places : List ℕ) → length xs ≡ length ys → All (λ (p : ℕ). p < length xs) places → zip2 f (gathered xs places) (gathered ys places) ≡ gathered (zip2 f xs ys) places
zip-gathered f xs ys [] size within = refl
zip-gathered f [] ys (p ∷ places) size within = absurd (omega (arith, All-head (λ (q : ℕ). q < 0) p places within))
zip-gathered f (x ∷ xs) [] (p ∷ places) size within = absurd (omega (arith, size))
zip-gathered f (x ∷ xs) (y ∷ ys) (p ∷ places) size within =
    let first : p < length (x ∷ xs) = All-head (λ (q : ℕ). q < length (x ∷ xs)) p places within in
    let second : p < length (y ∷ ys) = omega (arith, first, size) in
    let both : p < length (zip2 f (x ∷ xs) (y ∷ ys)) = omega (arith, first, length-zip2 f (x ∷ xs) (y ∷ ys) size) in
    let rest = zip-gathered f (x ∷ xs) (y ∷ ys) places size (All-tail (λ (q : ℕ). q < length (x ∷ xs)) p places within) in
    ap₂ (zip2 f) (ap (λ l. l ++ gathered (x ∷ xs) places) (read (x ∷ xs) p x first)) (ap (λ l. l ++ gathered (y ∷ ys) places) (read (y ∷ ys) p y second))
    ∙ ap (λ l. f (get_or (x ∷ xs) p x) (get_or (y ∷ ys) p y) ∷ l) rest
    ∙ ap (λ z. z ∷ gathered (zip2 f (x ∷ xs) (y ∷ ys)) places) (sym (get_or-zip2 f (x ∷ xs) (y ∷ ys) p x y (f x y) first second))
    ∙ ap (λ l. l ++ gathered (zip2 f (x ∷ xs) (y ∷ ys)) places) (sym (read (zip2 f (x ∷ xs) (y ∷ ys)) p (f x y) both))

-- an item of each group, lent to rows of one group, is that group's
lent_part : (ys : List Atom) (codes is : List ℕ) (g : ℕ) → All (λ (c : ℕ). c < length ys) codes → All (λ (i : ℕ). i < length codes) is → All (λ (i : ℕ). get_or codes i 0 ≡ g) is → gathered (gathered ys codes) is ≡ replicate (length is) (get_or ys g absent)
lent_part ys codes [] g within is_in here = refl
lent_part ys codes (i ∷ is) g within is_in here =
    let i_in : i < length codes = All-head (λ (i : ℕ). i < length codes) i is is_in in
    let size : length (gathered ys codes) ≡ length codes = length-gathered ys codes within in
    let one = read (gathered ys codes) i absent (omega (arith, i_in, size)) in
    let same = get_or-gathered ys codes i absent within i_in ∙ ap (λ (c : ℕ). get_or ys c absent) (All-head (λ (i : ℕ). get_or codes i 0 ≡ g) i is here) in
    ap₂ (λ (l m : List Atom). l ++ m) (one ∙ ap (λ (x : Atom). x ∷ []) same) (lent_part ys codes is g within (All-tail (λ (i : ℕ). i < length codes) i is is_in) (All-tail (λ (i : ℕ). get_or codes i 0 ≡ g) i is here))

range_within : (a n : ℕ) → All (λ (i : ℕ). i < a + n) (range_with_len a n)
range_within a zero = All-nil (λ (i : ℕ). i < a + zero)
range_within a (suc n) =
    let more = range_within (a + 1) n in
    All-cons (λ (i : ℕ). i < a + suc n) a (range_with_len (a + 1) n) (omega arith) (subst (λ (m : ℕ). All (λ (i : ℕ). i < m) (range_with_len (a + 1) n)) (omega arith) more)

range_below : (n : ℕ) → All (λ (i : ℕ). i < n) (range_with_len 0 n)
range_below n = subst (λ (m : ℕ). All (λ (i : ℕ). i < m) (range_with_len 0 n)) (omega arith) (range_within 0 n)

pub part_within : (g : ℕ) (codes : List ℕ) → All (λ (p : ℕ). p < length codes) (rows_of_group g codes)
part_within g codes = All-filter (has codes g) (λ (p : ℕ). p < length codes) (range_with_len 0 (length codes)) (range_below (length codes))

pub part_lent : (ys : List Atom) (codes : List ℕ) (g : ℕ) → All (λ (c : ℕ). c < length ys) codes → gathered (gathered ys codes) (rows_of_group g codes) ≡ replicate (length (rows_of_group g codes)) (get_or ys g absent)
part_lent ys codes g within = lent_part ys codes (rows_of_group g codes) g within (part_within g codes) (part_has codes g)
