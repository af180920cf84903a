-- Tables as values.
use Rattle.std.proofs.Common.{◌≡◌, ◌↔◌, ℕ, zero, suc, ◌+◌, ◌<◌, List, [], ◌∷◌, drop, take, slice_get, length, get_or, ◌-◌, ◌++◌, subst, map, Some, None, ◌≢◌, refl, sym, ap, ap₂, ◌∙◌, arith, false}
use Rattle.std.specs.List.{AllByRecursion}
use Rattle.std.specs.Str.{bytes_eq}
use Rattle.std.proofs.Math.Seq.{drop-cons}
use Rattle.std.proofs.lemmas.List.{take_all, length-drop}
use Rattle.q_values.specs.Contents.{Contents}
use Rattle.q_values.specs.Tree.{Tree, list, items_of, list_of}
use Rattle.q_values.specs.Kind.{type_number, kind_at}
use Rattle.q_values.specs.declared.atom.Atom.{Atom}
use Rattle.q_values.specs.declared.atom.Atom.TheVariants as a
use Rattle.q_values.specs.declared.kind.Kind.{Kind}
use Rattle.q_values.specs.declared.kind.Kind.TheVariants as k
use Rattle.day_rows.specs.Schema.{AreDistinct}
use Rattle.day_rows.specs.declared.schema.Shape.{Shape}
use Rattle.partition_set.specs.Records.{types, symbols, shape_parts, shape_tree}

cut-all : (names : List (List ℕ)) (n : ℕ) → take (length names - n) (drop n names) ≡ drop n names
cut-all names n = take_all (length names - n) (drop n names) (omega (arith, length-drop n names))

-- names from an index on are distinct where the first of them is fresh and the others are distinct
pub distinct-from : (names : List (List ℕ)) (i : ℕ) (x : List ℕ) → i < length names → x ≡ get_or names i x
    → (AreDistinct (drop i names) → AllByRecursion (λ y. bytes_eq y x ≡ false) (take (length names - (i + 1)) (drop (i + 1) names)) × AreDistinct (drop (i + 1) names))
    × (AllByRecursion (λ y. bytes_eq y x ≡ false) (take (length names - (i + 1)) (drop (i + 1) names)) × AreDistinct (drop (i + 1) names) → AreDistinct (drop i names))
distinct-from names i x below is =
    let next : suc i ≡ i + 1 = omega arith in
    let cut : drop i names ≡ x ∷ drop (i + 1) names = drop-cons names i x below ∙ ap₂ (λ z n. z ∷ drop n names) (sym is) next in
    let whole = cut-all names (i + 1) in
    (λ h. let d = subst AreDistinct cut h in (subst (AllByRecursion (λ y. bytes_eq y x ≡ false)) (sym whole) d.0, d.1), λ h. subst AreDistinct (sym cut) (subst (AllByRecursion (λ y. bytes_eq y x ≡ false)) whole h.0, h.1))

-- a list up to an index and the item there
pub take-got : {X : Type 0} (xs : List X) (i : ℕ) (x : X) → slice_get xs i ≡ Some x → take (suc i) xs ≡ take i xs ++ x ∷ []
take-got [] i x is = cc
take-got (y ∷ ys) zero x is = let same : y ≡ x = cc in ap (λ z. z ∷ []) same
take-got (y ∷ ys) (suc i) x is = ap (λ l. y ∷ l) (take-got ys i x is)

pub kind_at-type_number : (x : Kind) → kind_at (type_number x) ≡ Some x
kind_at-type_number k.Boolean = refl
kind_at-type_number k.Byte = refl
kind_at-type_number k.Short = refl
kind_at-type_number k.Integer = refl
kind_at-type_number k.Long = refl
kind_at-type_number k.Character = refl
kind_at-type_number k.Symbol = refl
kind_at-type_number k.Timestamp = refl
kind_at-type_number k.Month = refl
kind_at-type_number k.Date = refl
kind_at-type_number k.Timespan = refl
kind_at-type_number k.Minute = refl
kind_at-type_number k.Second = refl
kind_at-type_number k.Time = refl

-- the number of a byte, and the text of a symbol
abbrev byte_of : Atom → ℕ
byte_of (a.Byte x) = x
byte_of _ = 0

abbrev text_of : Atom → List ℕ
text_of (a.Symbol text) = text
text_of _ = []

bytes_back : (xs : List ℕ) → map byte_of (map a.Byte xs) ≡ xs
bytes_back [] = refl
bytes_back (x ∷ xs) = ap (λ l. x ∷ l) (bytes_back xs)

texts_back : (xs : List (List ℕ)) → map text_of (map a.Symbol xs) ≡ xs
texts_back [] = refl
texts_back (x ∷ xs) = ap (λ l. x ∷ l) (texts_back xs)

-- a vector of bytes that are types
pub types-of : (xs : List ℕ) (kinds : List Kind) → map a.Byte xs ≡ (types kinds).atoms → xs ≡ map type_number kinds
types-of xs kinds same = sym (bytes_back xs) ∙ ap (map byte_of) same ∙ bytes_back (map type_number kinds)

pub names-same : (xs ys : List (List ℕ)) → (symbols xs).atoms ≡ (symbols ys).atoms → xs ≡ ys
names-same xs ys same = sym (texts_back xs) ∙ ap (map text_of) same ∙ texts_back ys

-- types determine the kinds
pub kinds-same : (xs ys : List Kind) → map type_number xs ≡ map type_number ys → xs ≡ ys
kinds-same [] [] same = refl
kinds-same [] (y ∷ ys) same = cc
kinds-same (x ∷ xs) [] same = cc
kinds-same (x ∷ xs) (y ∷ ys) same =
    let heads : type_number x ≡ type_number y = cc in
    let tails : map type_number xs ≡ map type_number ys = cc in
    let one : Some x ≡ Some y = sym (kind_at-type_number x) ∙ ap kind_at heads ∙ kind_at-type_number y in
    let first : x ≡ y = cc in
    ap₂ (λ z zs. z ∷ zs) first (kinds-same xs ys tails)

list_of-items_of : (ts : List Tree) → list_of (items_of ts) ≡ ts
list_of-items_of [] = refl
list_of-items_of (t ∷ ts) = ap (λ l. t ∷ l) (list_of-items_of ts)

abbrev items : Tree → List Tree
items (list ts) = list_of ts
items _ = []

-- a list's items
pub items-same : (ts us : List Tree) → list (items_of ts) ≡ list (items_of us) → ts ≡ us
items-same ts us same = sym (list_of-items_of ts) ∙ ap items same ∙ list_of-items_of us

-- each of these types is one of a kind
pub known : (kinds : List Kind) (i : ℕ) (d : ℕ) → i < length (map type_number kinds) → kind_at (get_or (map type_number kinds) i d) ≢ None
known [] i d below = absurd (omega (arith, below))
known (x ∷ kinds) zero d below = λ none. absurd (let e : Some x ≡ None = sym (kind_at-type_number x) ∙ none in cc)
known (x ∷ kinds) (suc i) d below = known kinds i d (omega (arith, below))

-- tables of equal parts
pub shapes-same : (s t : Shape) → shape_tree s ≡ shape_tree t → s ≡ t
shapes-same s t same =
    let parts = items-same (shape_parts s) (shape_parts t) same in
    let table : s.table ≡ t.table = cc in
    let names : (symbols s.names).atoms ≡ (symbols t.names).atoms = cc in
    let kinds : (types s.kinds).atoms ≡ (types t.kinds).atoms = cc in
    let names_are : s.names ≡ t.names = names-same s.names t.names names in
    let kinds_are : s.kinds ≡ t.kinds = kinds-same s.kinds t.kinds (types-of (map type_number s.kinds) t.kinds kinds) in
    (λ i. record { table = table i; names = names_are i; kinds = kinds_are i })

pub split-at : {X : Type 0} (xs : List X) (i : ℕ) (x : X) → slice_get xs i ≡ Some x → xs ≡ take i xs ++ x ∷ drop (suc i) xs
split-at [] i x is = cc
split-at (y ∷ ys) zero x is = let same : y ≡ x = cc in ap (λ z. z ∷ ys) same
split-at (y ∷ ys) (suc i) x is = ap (λ l. y ∷ l) (split-at ys i x is)
