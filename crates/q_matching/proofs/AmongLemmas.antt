-- Whether an item is among others.
use Rattle.std.proofs.Common.{◌≡◌, ◌<◌, ◌+◌, ℕ, ℤ, Bool, true, false, if◌then◌else◌, List, [], ◌∷◌, ◌||◌, length, get_or, take, map, Option, Some, None, cond, ◌&&◌, refl, sym, ap, ◌∙◌, arith, slice_get, FitsSigned, Bor}
use Rattle.std.proofs.lemmas.List.{take_more, get_or_default}
use Rattle.std.proofs.lemmas.List.Folds.{list_any-append}
use Rattle.std.proofs.lemmas.Option.{get_or_from_slice_get}
use Rattle.std.specs.List.{list_any}
use Rattle.std.specs.Int.{w64}
use Rattle.std.specs.Int.RustNames.{int_lt}
use Rattle.std.specs.declared.cmp.Ordering.{Ordering}
use Rattle.std.specs.declared.cmp.Ordering.TheVariants.{Less, Equal, Greater}
use Rattle.std.specs.Ordering.{int_cmp, int_eq, is_eq, ordering_then}
use Rattle.std.proofs.lemmas.Int.{ints}
use Rattle.q_values.specs.declared.atom.Atom.{Atom}
use Rattle.q_lanes.proofs.MapLemmas.{map_through, map-mapped}
use Rattle.q_lanes.proofs.NumberLemmas.{equal}
use Rattle.q_lanes.proofs.SideLemmas.{map-worths, worth-mapped}
use Rattle.q_matching.specs.Keys.{has_number}
use Rattle.q_verbs.specs.Numbers.{numeric, worth, worth_cmp, number_in, least}
use Rattle.q_verbs.specs.Tests.{is_among}

or_false : (b : Bool) → (b || false) ≡ b
or_false true = refl
or_false false = refl

-- one more item, where a call read it
pub any_more_read : {X : Type 0} (p : X → Bool) (xs : List X) (i : ℕ) (x : X) → i < length xs → slice_get xs i ≡ Some x → list_any p (take (i + 1) xs) ≡ (list_any p (take i xs) || p x)
any_more_read p xs i x h e =
    ap (list_any p) (take_more xs i x h)
    ∙ list_any-append p (take i xs) (get_or xs i x ∷ [])
    ∙ ap (λ b. list_any p (take i xs) || b) (or_false (p (get_or xs i x)) ∙ ap p (get_or_from_slice_get xs i x x e))

pub any_more_at : {X : Type 0} (p : X → Bool) (xs : List X) (i : ℕ) (x : X) → i < length xs → x ≡ get_or xs i x → list_any p (take (i + 1) xs) ≡ (list_any p (take i xs) || p x)
any_more_at p xs i x h e =
    ap (list_any p) (take_more xs i x h)
    ∙ list_any-append p (take i xs) (get_or xs i x ∷ [])
    ∙ ap (λ b. list_any p (take i xs) || b) (or_false (p (get_or xs i x)) ∙ ap p (sym e))

any-mapped : {X W : Type 0} (p : W → Bool) (g : X → W) (items : List X) → list_any (λ y. p (g y)) items ≡ list_any p (map g items)
any-mapped p g [] = refl
any-mapped p g (y ∷ ys) = ap (λ b. p (g y) || b) (any-mapped p g ys)

any_same : {X : Type 0} (p q : X → Bool) (xs : List X) → ((x : X) → p x ≡ q x) → list_any p xs ≡ list_any q xs
any_same p q [] e = refl
any_same p q (x ∷ xs) e = λ i. e x i || any_same p q xs e i

any_through : {X Y W : Type 0} (p : W → Bool) (g : X → W) (h : Y → W) (xs : List X) (ys : List Y) → map g xs ≡ map h ys → list_any (λ x. p (g x)) xs ≡ list_any (λ y. p (h y)) ys
any_through p g h xs ys e = any-mapped p g xs ∙ ap (list_any p) e ∙ sym (any-mapped p h ys)

map_same : {X Y : Type 0} (f g : X → Y) (xs : List X) → ((x : X) → f x ≡ g x) → map f xs ≡ map g xs
map_same f g [] e = refl
map_same f g (x ∷ xs) e = λ i. e x i ∷ map_same f g xs e i

-- lists whose items are worth the same are among one another alike
pub among_through : {X Y W : Type 0} (same : W → W → Bool) (g : X → W) (h : Y → W) (left items : List X) (us vs : List Y) → map g left ≡ map h us → map g items ≡ map h vs → map (λ x. list_any (λ y. same (g x) (g y)) items) left ≡ map (λ u. list_any (λ v. same (h u) (h v)) vs) us
among_through same g h left items us vs d e =
    map_same (λ x. list_any (λ y. same (g x) (g y)) items) (λ x. list_any (same (g x)) (map g items)) left (λ x. any-mapped (same (g x)) g items)
    ∙ map_through (λ w. list_any (same w) (map g items)) g h left us d
    ∙ ap (λ l. map (λ u. list_any (same (h u)) l) us) e
    ∙ map_same (λ u. list_any (same (h u)) (map h vs)) (λ u. list_any (λ v. same (h u) (h v)) vs) us (λ u. sym (any-mapped (same (h u)) h vs))

-- one more text, of those that are lent
pub any_more_lent : (p : List ℕ → Bool) (xs : List (Bor (List ℕ))) (i : ℕ) (d : Bor (List ℕ)) → i < length xs → list_any (λ t. p t.now) (take (i + 1) xs) ≡ (list_any (λ t. p t.now) (take i xs) || p (get_or xs i d).now)
any_more_lent p xs i d h = any_more_at (λ t. p t.now) xs i (get_or xs i d) h (get_or_default xs i d (get_or xs i d) h)

-- among texts that are lent
pub among_lent : (same : List ℕ → List ℕ → Bool) (us : List (List ℕ)) (items : List (Bor (List ℕ))) (vs : List (List ℕ)) → map (λ t. t.now) items ≡ vs → map (λ s. list_any (λ t. same s t.now) items) us ≡ map (λ s. list_any (same s) vs) us
among_lent same us items vs e =
    map_same (λ s. list_any (λ t. same s t.now) items) (λ s. list_any (same s) (map (λ t. t.now) items)) us (λ s. any-mapped (same s) (λ t. t.now) items)
    ∙ ap (λ l. map (λ s. list_any (same s) l) us) e

-- one text among texts that are lent, as a set of them has it
pub any_lent : (eq same : List ℕ → List ℕ → Bool) (x : List ℕ) (items : List (Bor (List ℕ))) → ((s t : List ℕ) → eq s t ≡ same s t) → list_any (λ t. eq x t.now) items ≡ list_any (λ t. same x t.now) items
any_lent eq same x items e = any_same (λ t. eq x t.now) (λ t. same x t.now) items (λ t. e x t.now)

-- the same, where the test is another one that agrees with a set
pub among_read : {X W : Type 0} (test : X → Bool) (eq : X → X → Bool) (same : W → W → Bool) (g : X → W) (left items : List X) (us vs : List W) → ((q : X) → test q ≡ list_any (eq q) items) → ((x y : X) → eq x y ≡ same (g x) (g y)) → map g left ≡ us → map g items ≡ vs → map test left ≡ map (λ u. list_any (same u) vs) us
among_read test eq same g left items us vs t s d e =
    map_same test (λ x. list_any (same (g x)) (map g items)) left (λ x. t x ∙ any_same (eq x) (λ y. same (g x) (g y)) items (s x) ∙ any-mapped (same (g x)) g items)
    ∙ sym (map-mapped (λ w. list_any (same w) (map g items)) g left)
    ∙ (λ i. map (λ u. list_any (same u) (e i)) (d i))

ended : (o : Ordering) → ordering_then o Equal ≡ o
ended Less = refl
ended Equal = refl
ended Greater = refl

null_at : (r : ℤ) → FitsSigned w64 r → int_lt (least w64) r ≡ false → r ≡ least w64
null_at r fits e = grind (arith, ints)

told_by : (has : ℤ → Bool) (b : Bool) (r : ℤ) → int_lt (least w64) r ≡ b → (b ≡ false → r ≡ least w64) → has r ≡ has_number has (if b then Some r else None)
told_by has true r d e = ap (λ t. t && has r) (sym d)
told_by has false r d e = ap has (e refl)

-- a number of 64 bits is in the set where the set has it
pub told : (has : ℤ → Bool) (r : ℤ) → FitsSigned w64 r → has r ≡ has_number has (number_in w64 r)
told has r fits = told_by has (int_lt (least w64) r) r refl (null_at r fits)

null_is : (b : Bool) (k : ℤ) → int_lt (least w64) k ≡ b → FitsSigned w64 k → int_eq k (least w64) ≡ is_eq (worth_cmp (numeric None) (numeric (if b then Some k else None)))
null_is true k d fits = grind (arith, ints)
null_is false k d fits = grind (arith, ints)

same_number : (z k : ℤ) → is_eq (worth_cmp (numeric (Some z)) (numeric (Some k))) ≡ int_eq z k
same_number z k = ap is_eq (ended (int_cmp z k)) ∙ sym (equal z k)

some_by : (b : Bool) (z k : ℤ) → int_lt (least w64) k ≡ b → (int_lt (least w64) z && int_eq k z) ≡ is_eq (worth_cmp (numeric (Some z)) (numeric (if b then Some k else None)))
some_by true z k d = let same : (int_lt (least w64) z && int_eq k z) ≡ int_eq z k = grind (arith, ints) in same ∙ sym (same_number z k)
some_by false z k d = grind (arith, ints)

or_else : (e o : Bool) → cond e true o ≡ (o || e)
or_else true true = refl
or_else true false = refl
or_else false true = refl
or_else false false = refl

and_or : (t e o : Bool) → (t && cond e true o) ≡ ((t && o) || (t && e))
and_or true e o = or_else e o
and_or false e o = refl

-- one more number in the set
pub told_more : (old new : ℤ → Bool) (k : ℤ) (n : Option ℤ) → FitsSigned w64 k → ((q : ℤ) → new q ≡ cond (int_eq k q) true (old q)) → has_number new n ≡ (has_number old n || is_eq (worth_cmp (numeric n) (numeric (number_in w64 k))))
told_more old new k None fits e = e (least w64) ∙ or_else (int_eq k (least w64)) (old (least w64)) ∙ ap (λ b. old (least w64) || b) (null_is (int_lt (least w64) k) k refl fits)
told_more old new k (Some z) fits e =
    ap (λ b. int_lt (least w64) z && b) (e z)
    ∙ and_or (int_lt (least w64) z) (int_eq k z) (old z)
    ∙ ap (λ b. (int_lt (least w64) z && old z) || b) (some_by (int_lt (least w64) k) z k refl)

-- numbers are among others where a set of these has them
pub among_set : {X Y : Type 0} (number : X → Option ℤ) (other : Y → Option ℤ) (has : ℤ → Bool) (left : List X) (items : List Y) → ((n : Option ℤ) → has_number has n ≡ list_any (λ y. is_eq (worth_cmp (numeric n) (numeric (other y)))) items) → map (λ x. has_number has (number x)) left ≡ map (λ x. list_any (λ y. is_eq (worth_cmp (numeric (number x)) (numeric (other y)))) items) left
among_set number other has left items t =
    map_same (λ x. has_number has (number x)) (λ x. list_any (λ y. is_eq (worth_cmp (numeric (number x)) (numeric (other y)))) items) left (λ x. t (number x))

-- numbers are among others where they are among these in 64 bits
pub among_wide : {X Y : Type 0} (number : X → Option ℤ) (other : Y → Option ℤ) (left : List X) (keys : List ℤ) (items : List Y) → map (number_in w64) keys ≡ map other items → map (λ x. list_any (λ y. is_eq (worth_cmp (numeric (number x)) (numeric (number_in w64 y)))) keys) left ≡ map (λ x. list_any (λ y. is_eq (worth_cmp (numeric (number x)) (numeric (other y)))) items) left
among_wide number other left keys items e =
    map_same (λ x. list_any (λ y. is_eq (worth_cmp (numeric (number x)) (numeric (number_in w64 y)))) keys) (λ x. list_any (λ y. is_eq (worth_cmp (numeric (number x)) (numeric (other y)))) items) left
    (λ x. any_through (λ n. is_eq (worth_cmp (numeric (number x)) (numeric n))) (number_in w64) other keys items e)

own_worths : {X : Type 0} (number : X → Option ℤ) (atom : X → Atom) (xs ps : List X) → ((x : X) → worth (atom x) ≡ numeric (number x)) → xs ≡ ps → map (λ x. numeric (number x)) xs ≡ map worth (map atom ps)
own_worths number atom xs ps e d = ap (map (λ x. numeric (number x))) d ∙ worth-mapped (λ x. numeric (number x)) atom ps e

-- numbers among atoms, as the items of these are numbers
pub among_atoms : {X Y : Type 0} (number : X → Option ℤ) (other : Y → Option ℤ) (atom : Y → Atom) (left : List X) (ys qs : List Y) → ((y : Y) → worth (atom y) ≡ numeric (other y)) → ys ≡ qs → map (λ x. list_any (λ y. is_eq (worth_cmp (numeric (number x)) (numeric (other y)))) ys) left ≡ map (λ x. list_any (λ y. is_eq (worth_cmp (numeric (number x)) (worth y))) (map atom qs)) left
among_atoms number other atom left ys qs e d =
    map_same (λ x. list_any (λ y. is_eq (worth_cmp (numeric (number x)) (numeric (other y)))) ys) (λ x. list_any (λ y. is_eq (worth_cmp (numeric (number x)) (worth y))) (map atom qs)) left
    (λ x. any_through (λ w. is_eq (worth_cmp (numeric (number x)) w)) (λ y. numeric (other y)) worth ys (map atom qs) (own_worths other atom ys qs e d))

-- atoms among atoms, as the items are numbers
pub atoms_among : {X : Type 0} (number : X → Option ℤ) (atom : X → Atom) (xs ps : List X) (vs : List Atom) → ((x : X) → worth (atom x) ≡ numeric (number x)) → xs ≡ ps → map (λ x. list_any (λ y. is_eq (worth_cmp (numeric (number x)) (worth y))) vs) xs ≡ map (is_among vs) (map atom ps)
atoms_among number atom xs ps vs e d =
    ap (map (λ x. list_any (λ y. is_eq (worth_cmp (numeric (number x)) (worth y))) vs)) d
    ∙ map-worths (λ w. list_any (λ y. is_eq (worth_cmp w (worth y))) vs) (λ x. numeric (number x)) atom ps e

-- the same where both are numbers of one width
pub alike_among : {X : Type 0} (number : X → Option ℤ) (atom other : X → Atom) (xs ys ps qs : List X) (us vs : List Atom) → ((x : X) → worth (atom x) ≡ numeric (number x)) → ((x : X) → worth (other x) ≡ numeric (number x)) → xs ≡ ps → ys ≡ qs → map atom ps ≡ us → map other qs ≡ vs → map (λ x. list_any (λ y. is_eq (worth_cmp (numeric (number x)) (numeric (number y)))) ys) xs ≡ map (is_among vs) us
alike_among number atom other xs ys ps qs us vs d e p q r s =
    among_through (λ v w. is_eq (worth_cmp v w)) (λ x. numeric (number x)) worth xs ys us vs (own_worths number atom xs ps d p ∙ ap (map worth) r) (own_worths number other ys qs e q ∙ ap (map worth) s)
