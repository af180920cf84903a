-- Rows that are marked.
use Rattle.std.proofs.Common.{◌≡◌, ℕ, zero, suc, ◌+◌, ◌<◌, ◌&&◌, ◌||◌, Bool, true, false, Some, None, List, [], ◌∷◌, length, map, take, replicate, refl, sym, ap, ◌∙◌, arith, slice_get}
use Rattle.std.specs.List.{list_any, list_all}
use Rattle.std.specs.Str.{bytes_eq}
use Rattle.std.proofs.lemmas.List.Folds.{list_all_more}
use Rattle.std.proofs.lemmas.Option.{get_or_from_slice_get, same_Some}
use Rattle.q_filter.specs.Places.{places_from, places_of}
use Rattle.q_filter.proofs.PlaceLemmas.{bits_of}
use Rattle.q_values.specs.declared.atom.Atom.{Atom}
use Rattle.q_values.specs.declared.atom.Atom.TheVariants as a
use Rattle.pubsub.specs.Parts.{AreMarked}
use Rattle.pubsub.specs.Told.{chooses}
use Rattle.pubsub.specs.declared.filter.Filter.{Filter}
use Rattle.pubsub.specs.declared.rows.Rows.{Rows}
use Rattle.pubsub.proofs.SetLemmas.{any_more}

-- ---- tests of all elements

or_true : (b c : Bool) → c ≡ true → (b || c) ≡ true
or_true true c e = refl
or_true false c e = e

and_false : (b c : Bool) → c ≡ false → (b && c) ≡ false
and_false true c e = e
and_false false c e = refl

-- an element that passes
pub any_found : {X : Type 0} (test : X → Bool) (xs : List X) (i : ℕ) (x : X) → slice_get xs i ≡ Some x → test x ≡ true → list_any test xs ≡ true
any_found test [] i x e t = cc
any_found test (y ∷ ys) zero x e t = ap (λ b. b || list_any test ys) (ap test (same_Some y x e) ∙ t)
any_found test (y ∷ ys) (suc i) x e t = or_true (test y) (list_any test ys) (any_found test ys i x e t)

-- an element that fails
pub all_missed : {X : Type 0} (test : X → Bool) (xs : List X) (i : ℕ) (x : X) → slice_get xs i ≡ Some x → test x ≡ false → list_all test xs ≡ false
all_missed test [] i x e t = cc
all_missed test (y ∷ ys) zero x e t = ap (λ b. b && list_all test ys) (ap test (same_Some y x e) ∙ t)
all_missed test (y ∷ ys) (suc i) x e t = and_false (test y) (list_all test ys) (all_missed test ys i x e t)

pub none_more : {X : Type 0} (test : X → Bool) (xs : List X) (i : ℕ) (x : X) → i < length xs → slice_get xs i ≡ Some x → list_any test (take i xs) ≡ false → test x ≡ false → list_any test (take (i + 1) xs) ≡ false
none_more test xs i x h e before here = any_more test xs i x h e ∙ (λ j. before j || here j)

pub all_more : {X : Type 0} (test : X → Bool) (xs : List X) (i : ℕ) (x : X) → i < length xs → slice_get xs i ≡ Some x → list_all test (take i xs) ≡ true → test x ≡ true → list_all test (take (i + 1) xs) ≡ true
all_more test xs i x h e before here =
    list_all_more test xs i x h ∙ ap (λ y. list_all test (take i xs) && test y) (get_or_from_slice_get xs i x x e) ∙ (λ j. before j && here j)

-- ---- marks

pub any-marks : {X : Type 0} (test : X → Bool) (xs : List X) → list_any (λ mark. mark) (map test xs) ≡ list_any test xs
any-marks test [] = refl
any-marks test (x ∷ xs) = ap (λ b. test x || b) (any-marks test xs)

pub all-marks : {X : Type 0} (test : X → Bool) (xs : List X) → list_all (λ mark. mark) (map test xs) ≡ list_all test xs
all-marks test [] = refl
all-marks test (x ∷ xs) = ap (λ b. test x && b) (all-marks test xs)

pub none_marked : {X : Type 0} (test : X → Bool) (xs : List X) → list_any test xs ≡ false → AreMarked (map test xs) None
none_marked test xs e = any-marks test xs ∙ e

pub all_marked : {X : Type 0} (test : X → Bool) (xs : List X) → list_any test xs ≡ true → list_all test xs ≡ true → AreMarked (map test xs) (Some Rows.All)
all_marked test xs any all = (any-marks test xs ∙ any, all-marks test xs ∙ all)

-- the places of the marks that a boolean column has
pub some_marked : {X : Type 0} (test : X → Bool) (xs : List X) (marks : List Bool) (places : List ℕ) → list_any test xs ≡ true → marks ≡ map test xs → places ≡ places_of (map (λ mark. a.Boolean mark) marks)
    → (list_any (λ mark. mark) (map test xs) ≡ true) × (places ≡ places_from 0 (map test xs))
some_marked test xs marks places any e at = (any-marks test xs ∙ any, at ∙ ap (places_from 0) (bits_of marks ∙ e))

pub map-map : {X Y Z : Type 0} (g : Y → Z) (f : X → Y) (xs : List X) → map g (map f xs) ≡ map (λ x. g (f x)) xs
map-map g f [] = refl
map-map g f (x ∷ xs) = ap (λ l. g (f x) ∷ l) (map-map g f xs)

-- symbols as atoms
pub marks-symbols : (symbols names : List (List ℕ)) (atoms : List Atom) → map (λ name. a.Symbol name) names ≡ atoms → map (λ name. list_any (bytes_eq name) symbols) names ≡ map (chooses (Filter.Symbols symbols)) atoms
marks-symbols symbols names atoms e = sym (map-map (chooses (Filter.Symbols symbols)) (λ name. a.Symbol name) names) ∙ ap (map (chooses (Filter.Symbols symbols))) e

pub marks-everything : (atoms : List Atom) → replicate (length atoms) true ≡ map (chooses Filter.Everything) atoms
marks-everything [] = refl
marks-everything (atom ∷ atoms) = ap (λ l. true ∷ l) (marks-everything atoms)

pub marks-nothing : (atoms : List Atom) → list_any (λ mark. mark) (map (chooses Filter.Nothing) atoms) ≡ false
marks-nothing [] = refl
marks-nothing (atom ∷ atoms) = marks-nothing atoms

any-replicate : (n : ℕ) → 0 < n → list_any (λ mark. mark) (replicate n true) ≡ true
any-replicate zero h = absurd (omega (arith, h))
any-replicate (suc n) h = refl

all-replicate : (n : ℕ) → list_all (λ mark. mark) (replicate n true) ≡ true
all-replicate zero = refl
all-replicate (suc n) = all-replicate n

pub all_of_some : (n : ℕ) → 0 < n → AreMarked (replicate n true) (Some Rows.All)
all_of_some n h = (any-replicate n h, all-replicate n)
