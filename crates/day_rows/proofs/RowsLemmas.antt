-- The rows of a day: their columns, their number and their order.
use Rattle.std.proofs.Common.{◌≡◌, ℕ, ℤ, zero, suc, ◌+◌, ◌<◌, ◌≤◌, ◌==◌, ◌++◌, Bool, true, false, cond, List, [], ◌∷◌, length, get_or, take, drop, map, refl, sym, ap, ap₂, ◌∙◌, subst, arith, All, Some, slice_get, flat_map, Ordering, Less, Equal, Greater, is_eq, IsPermutation, IsSorted, inl, inr}
use Rattle.std.specs.List.{range_with_len, AllByRecursion, sum_by}
use Rattle.std.specs.Cmp.{IsTotalOrder}
use Rattle.std.specs.Ordering.{ordering_then, ordering_reverse, nat_cmp}
use Rattle.std.proofs.lemmas.Cmp.{int_cmp_total, nat_cmp_total, nat_list_cmp_total, on_total, then_total}
use Rattle.std.proofs.lemmas.Bool.{eqb-true}
use Rattle.std.proofs.lemmas.Bool.Decides.{nat_tests}
use Rattle.std.proofs.lemmas.List.{map-append, drop_more, length-map, get_or-map}
use Rattle.std.proofs.lemmas.List.Elements.{All-head, All-tail}
use Rattle.std.proofs.lemmas.List.FromFn.{length-map-range_with_len, get_or-range_with_len}
use Rattle.std.proofs.lemmas.List.Sorted.{IsPermutation-map}
use Rattle.std.proofs.lemmas.Option.{slice_get_within, slice_get_cases, get_or_from_slice_get}
use Rattle.std.proofs.lemmas.List.Concat.{length-flat_map}
use Rattle.q_values.specs.Contents.{Contents}
use Rattle.q_values.specs.Lists.{gathered}
use Rattle.q_values.specs.Order.{Key, Number, Text, key_cmp, atom_key, atom_cmp, IsOrder}
use Rattle.q_values.specs.Table.{rows_of}
use Rattle.q_values.specs.declared.atom.Atom.{Atom}
use Rattle.q_values.specs.declared.kind.Kind.{Kind}
use Rattle.q_values.proofs.ListLemmas.{get_or-gathered, length-gathered}
use Rattle.day_rows.specs.Chronicle.{ended_cmp}
use Rattle.day_rows.specs.Day.{Day, AreColumns, IsUpdate, entry_rows, arrived}
use Rattle.day_rows.specs.Joined.{atoms_of, atoms_in, rows_in, joined}
use Rattle.day_rows.specs.Rows.{Row, absent, atom_at, lines_of, numbered, rows_from, field, symbol_of}
use Rattle.day_rows.specs.Sorted.{in_order, IsAscending}
use Rattle.day_rows.specs.declared.entry.Entry.{Entry}
use Rattle.day_rows.specs.declared.entry.Entry.TheVariants as e
use Rattle.day_rows.proofs.Sorting.{sorted_is-in_order}

-- the element at each index of a list, from an index on
places-read : {X : Type 0} (xs : List X) (d : X) (from n : ℕ) → from + n ≤ length xs → map (λ p. get_or xs p d) (range_with_len from n) ≡ take n (drop from xs)
places-read xs d from zero within = refl
places-read xs d from (suc n) within =
    rw (drop_more xs from d (omega (arith, within))) (ap (λ l. get_or xs from d ∷ l) (places-read xs d (from + 1) n (omega (arith, within))))

take-whole : {X : Type 0} (xs : List X) → take (length xs) xs ≡ xs
take-whole [] = refl
take-whole (x ∷ xs) = ap (λ l. x ∷ l) (take-whole xs)

pub places-read_all : {X : Type 0} (xs : List X) (d : X) → map (λ p. get_or xs p d) (range_with_len 0 (length xs)) ≡ xs
places-read_all xs d = places-read xs d 0 (length xs) (omega arith) ∙ take-whole xs

map-map : {A B C : Type 0} (g : B → C) (f : A → B) (xs : List A) → map g (map f xs) ≡ map (λ x. g (f x)) xs
map-map g f [] = refl
map-map g f (x ∷ xs) = ap (λ l. g (f x) ∷ l) (map-map g f xs)

map-flat_map : {A B C : Type 0} (g : B → C) (f : A → List B) (xs : List A) → map g (flat_map f xs) ≡ flat_map (λ x. map g (f x)) xs
map-flat_map g f [] = refl
map-flat_map g f (x ∷ xs) = map-append g (f x) (flat_map f xs) ∙ ap (λ l. map g (f x) ++ l) (map-flat_map g f xs)

-- the lines of a table in an entry
abbrev pub lines_in : ℕ → Entry → List (List Atom)
lines_in table (e.Upd by to columns) = cond (to == table) (lines_of columns) []
lines_in table (e.Roll by date) = []
lines_in table (e.Fault by) = []

pub length-lines_of : (columns : List Contents) → length (lines_of columns) ≡ rows_of columns
length-lines_of columns = length-map-range_with_len (λ place. map (atom_at place) columns) 0 (rows_of columns)

pub numbered-append : (date : ℤ) (n : ℕ) (xs ys : List (List Atom)) → numbered date n (xs ++ ys) ≡ numbered date n xs ++ numbered date (n + length xs) ys
numbered-append date n [] ys = let same : n + 0 ≡ n = omega arith in rw same refl
numbered-append date n (x ∷ xs) ys =
    let same : n + suc (length xs) ≡ (n + 1) + length xs = omega arith in
    rw same (ap (λ l. record { date = date; arrival = n; fields = x } ∷ l) (numbered-append date (n + 1) xs ys))

-- the rows of updates are their lines, numbered
rows-numbered : (tables : List (List Kind)) (date : ℤ) (n : ℕ) (es : List Entry) (t : ℕ) → AllByRecursion (IsUpdate tables) es → rows_from date n es t ≡ numbered date n (flat_map (lines_in t) es)
rows-numbered tables date n [] t all = refl
rows-numbered tables date n (e.Upd by to columns ∷ es) t all = go (to == t) (rows-numbered tables date n es t all.1) (rows-numbered tables date (n + rows_of columns) es t all.1)
  where
    go : (b : Bool) → rows_from date n es t ≡ numbered date n (flat_map (lines_in t) es) → rows_from date (n + rows_of columns) es t ≡ numbered date (n + rows_of columns) (flat_map (lines_in t) es)
        → cond b (numbered date n (lines_of columns) ++ rows_from date (n + rows_of columns) es t) (rows_from date n es t) ≡ numbered date n (cond b (lines_of columns) [] ++ flat_map (lines_in t) es)
    go false here later = here
    go true here later = rw (later, numbered-append date n (lines_of columns) (flat_map (lines_in t) es), length-lines_of columns) refl
rows-numbered tables date n (e.Roll by next ∷ es) t all = absurd all.0
rows-numbered tables date n (e.Fault by ∷ es) t all = absurd all.0

abbrev pub lines_of_day : Day → ℕ → List (List Atom)
lines_of_day day t = flat_map (lines_in t) day.updates

pub arrived-numbered : (day : Day) (t : ℕ) → AllByRecursion (IsUpdate day.kinds) day.updates → arrived day t ≡ numbered day.date 0 (lines_of_day day t)
arrived-numbered day t all = rows-numbered day.kinds day.date 0 day.updates t all

fields-numbered : (c : ℕ) (date : ℤ) (n : ℕ) (ls : List (List Atom)) → map (field c) (numbered date n ls) ≡ map (λ l. get_or l c absent) ls
fields-numbered c date n [] = refl
fields-numbered c date n (l ∷ ls) = ap (λ r. get_or l c absent ∷ r) (fields-numbered c date (n + 1) ls)

pub arrivals-numbered : (date : ℤ) (n : ℕ) (ls : List (List Atom)) → map (λ r. r.arrival) (numbered date n ls) ≡ range_with_len n (length ls)
arrivals-numbered date n [] = refl
arrivals-numbered date n (l ∷ ls) = ap (λ r. n ∷ r) (arrivals-numbered date (n + 1) ls)

pub length-numbered : (date : ℤ) (n : ℕ) (ls : List (List Atom)) → length (numbered date n ls) ≡ length ls
length-numbered date n [] = refl
length-numbered date n (l ∷ ls) = ap suc (length-numbered date (n + 1) ls)

-- a column of the lines is the column
column-lines : (kinds : List Kind) (columns : List Contents) (c : ℕ) (column : Contents) → AreColumns kinds columns → slice_get columns c ≡ Some column → map (λ l. get_or l c absent) (lines_of columns) ≡ column.atoms
column-lines kinds columns c column are known =
    let c_in = slice_get_within columns c column known in
    let read : (p : ℕ) → get_or (map (atom_at p) columns) c absent ≡ get_or column.atoms p absent =
    λ p. get_or-map (atom_at p) columns c column absent c_in ∙ ap (atom_at p) (get_or_from_slice_get columns c column column known) in
    let size : rows_of columns ≡ length column.atoms =
    sym (subst (λ (x : Contents). length x.atoms ≡ rows_of columns) (get_or_from_slice_get columns c column column known) (are.equal_lengths c column c_in)) in
    map-map (λ l. get_or l c absent) (λ p. map (atom_at p) columns) (range_with_len 0 (rows_of columns))
    ∙ (λ i. map (λ p. read p i) (range_with_len 0 (rows_of columns)))
    ∙ ap (λ n. map (λ p. get_or column.atoms p absent) (range_with_len 0 n)) size
    ∙ places-read_all column.atoms absent

column-line_at : (tables : List (List Kind)) (t c : ℕ) (kinds : List Kind) → slice_get tables t ≡ Some kinds → c < length kinds → (columns : List Contents) → (own : List Kind) → slice_get tables t ≡ Some own → AreColumns own columns
    → map (λ l. get_or l c absent) (lines_of columns) ≡ atoms_of (slice_get columns c)
column-line_at tables t c kinds known c_in columns own found are =
    let same : own ≡ kinds = cc in
    let size : length columns ≡ length kinds = sym (length-map columns (λ (x : Contents). x.kind)) ∙ ap length (are.of_kinds ∙ same) in
    elim (slice_get_cases columns c).1 [
      | inl w ↦ column-lines own columns c w.0 are w.2 ∙ sym (ap atoms_of w.2)
      | inr w ↦ absurd (omega (arith, w.0, size, c_in))
    ]

column-line_in : (tables : List (List Kind)) (t c : ℕ) (kinds : List Kind) → slice_get tables t ≡ Some kinds → c < length kinds → (entry : Entry) → IsUpdate tables entry → map (λ l. get_or l c absent) (lines_in t entry) ≡ atoms_in t c entry
column-line_in tables t c kinds known c_in (e.Upd by to columns) is = go (to == t) refl
  where
    go : (b : Bool) → (to == t) ≡ b → map (λ l. get_or l c absent) (cond b (lines_of columns) []) ≡ cond b (atoms_of (slice_get columns c)) []
    go false h = refl
    go true h = column-line_at tables t c kinds known c_in columns is.0 (subst (λ n. slice_get tables n ≡ Some is.0) (eqb-true to t h) is.1) is.2
column-line_in tables t c kinds known c_in (e.Roll by date) is = absurd is
column-line_in tables t c kinds known c_in (e.Fault by) is = absurd is

flat_map_same : {A B : Type 0} (f g : A → List B) (P : A → Type 0) → ((x : A) → P x → f x ≡ g x) → (xs : List A) → AllByRecursion P xs → flat_map f xs ≡ flat_map g xs
flat_map_same f g P same [] h = refl
flat_map_same f g P same (x ∷ xs) h = ap₂ ◌++◌ (same x h.0) (flat_map_same f g P same xs h.1)

-- a column read from the rows by arrival is the joined column
pub column-arrived : (day : Day) (t c : ℕ) (kinds : List Kind) → AllByRecursion (IsUpdate day.kinds) day.updates → slice_get day.kinds t ≡ Some kinds → c < length kinds → map (field c) (arrived day t) ≡ joined t c day.updates
column-arrived day t c kinds all known c_in =
    ap (map (field c)) (rows-numbered day.kinds day.date 0 day.updates t all)
    ∙ fields-numbered c day.date 0 (flat_map (lines_in t) day.updates)
    ∙ map-flat_map (λ l. get_or l c absent) (lines_in t) day.updates
    ∙ flat_map_same (λ x. map (λ l. get_or l c absent) (lines_in t x)) (atoms_in t c) (IsUpdate day.kinds) (column-line_in day.kinds t c kinds known c_in) day.updates all

length-lines_in : (t : ℕ) (entry : Entry) → length (lines_in t entry) ≡ rows_in t entry
length-lines_in t (e.Upd by to columns) =
    elim (to == t) as (λ b. length (cond b (lines_of columns) []) ≡ cond b (rows_of columns) 0) [ true ↦ length-lines_of columns | false ↦ refl ]
length-lines_in t (e.Roll by date) = refl
length-lines_in t (e.Fault by) = refl

pub length-arrived : (day : Day) (t : ℕ) → AllByRecursion (IsUpdate day.kinds) day.updates → length (arrived day t) ≡ sum_by (rows_in t) day.updates
length-arrived day t all =
    ap length (rows-numbered day.kinds day.date 0 day.updates t all)
    ∙ length-numbered day.date 0 (flat_map (lines_in t) day.updates)
    ∙ length-flat_map (lines_in t) day.updates
    ∙ (λ i. sum_by (λ x. length-lines_in t x i) day.updates)

pub rows_in-le : (t : ℕ) (entry : Entry) → rows_in t entry ≤ entry_rows entry
rows_in-le t (e.Upd by to columns) = elim (to == t) as (λ b. cond b (rows_of columns) 0 ≤ rows_of columns) [ true ↦ omega arith | false ↦ omega arith ]
rows_in-le t (e.Roll by date) = omega arith
rows_in-le t (e.Fault by) = omega arith

-- the order of atoms is a total order
key-antisymm : (x y : Key) → key_cmp x y ≡ ordering_reverse (key_cmp y x)
key-antisymm (Number x) (Number y) = int_cmp_total.antisymm x y
key-antisymm (Number x) (Text t) = refl
key-antisymm (Text s) (Number y) = refl
key-antisymm (Text s) (Text t) = nat_list_cmp_total.antisymm s t

key-trans : (x y z : Key) → key_cmp x y ≡ Less → key_cmp y z ≡ Less → key_cmp x z ≡ Less
key-trans (Number x) (Number y) (Number z) p q = int_cmp_total.trans x y z p q
key-trans (Number x) (Number y) (Text u) p q = refl
key-trans (Number x) (Text t) (Number z) p q = cc
key-trans (Number x) (Text t) (Text u) p q = refl
key-trans (Text s) (Number y) z p q = cc
key-trans (Text s) (Text t) (Number z) p q = cc
key-trans (Text s) (Text t) (Text u) p q = nat_list_cmp_total.trans s t u p q

key-congr : (x y z : Key) → key_cmp x y ≡ Equal → key_cmp x z ≡ key_cmp y z
key-congr (Number x) (Number y) (Number z) p = int_cmp_total.congr x y z p
key-congr (Number x) (Number y) (Text u) p = refl
key-congr (Number x) (Text t) z p = cc
key-congr (Text s) (Number y) z p = cc
key-congr (Text s) (Text t) (Number z) p = refl
key-congr (Text s) (Text t) (Text u) p = nat_list_cmp_total.congr s t u p

key_total : IsTotalOrder key_cmp
key_total = record { antisymm = key-antisymm; trans = key-trans; congr = key-congr }

pub ended_total : IsTotalOrder ended_cmp
ended_total = then_total (on_total symbol_of (on_total atom_key key_total)) (on_total (λ (r : Row). r.arrival) nat_cmp_total)

-- rows that arrived at other times never tie
then-less : (o : Ordering) → is_eq (ordering_then o Less) ≡ false
then-less Less = refl
then-less Equal = refl
then-less Greater = refl

later-apart : (row : Row) (date : ℤ) (n : ℕ) (ls : List (List Atom)) → row.arrival < n → AllByRecursion (λ r. is_eq (ended_cmp row r) ≡ false) (numbered date n ls)
later-apart row date n [] below = tt
later-apart row date n (l ∷ ls) below =
    let less : nat_cmp row.arrival n ≡ Less = grind (arith, nat_tests) in
    (rw less (then-less (atom_cmp (symbol_of row) (get_or l 1 absent))), later-apart row date (n + 1) ls (omega arith))

pub numbered-apart : (date : ℤ) (n : ℕ) (ls : List (List Atom)) → IsAscending (λ a b. is_eq (ended_cmp a b) ≡ false) (numbered date n ls)
numbered-apart date n [] = tt
numbered-apart date n (l ∷ ls) =
    (later-apart (record { date = date; arrival = n; fields = l }) date (n + 1) ls (omega arith), numbered-apart date (n + 1) ls)

-- the elements at indices are those that are read there
pub gathered-read : {X : Type 0} (xs : List X) (places : List ℕ) (d : X) → All (λ p. p < length xs) places → gathered xs places ≡ map (λ p. get_or xs p d) places
gathered-read xs [] d within = refl
gathered-read xs (p ∷ places) d within =
    rw (drop_more xs p d (All-head (λ p. p < length xs) p places within))
    (ap (λ l. get_or xs p d ∷ l) (gathered-read xs places d (All-tail (λ p. p < length xs) p places within)))

-- the rows, taken in the order of their symbols, are the rows in order
pub gathered-numbered : (date : ℤ) (ls : List (List Atom)) (places : List ℕ) → IsOrder atom_cmp (map symbol_of (numbered date 0 ls)) places → gathered (numbered date 0 ls) places ≡ in_order ended_cmp (numbered date 0 ls)
gathered-numbered date ls places h =
    let R : List Row = numbered date 0 ls in
    let none : Row = record { date = date; arrival = 0; fields = [] } in
    let size : length (map symbol_of R) ≡ length R = length-map R symbol_of in
    let within : All (λ p. p < length R) places = subst (λ n. All (λ p. p < n) places) size h.within in
    let moved : IsPermutation (range_with_len 0 (length R)) places = subst (λ n. IsPermutation (range_with_len 0 n) places) size h.permutation in
    let read = gathered-read R places none within in
    let same : IsPermutation R (gathered R places) =
    subst (IsPermutation R) (sym read) (subst (λ xs. IsPermutation xs (map (λ p. get_or R p none) places)) (places-read_all R none) (IsPermutation-map (λ p. get_or R p none) (range_with_len 0 (length R)) places moved)) in
    let arrival : (p : ℕ) (d : Row) → p < length R → (get_or R p d).arrival ≡ p =
    λ p d p_in. sym (get_or-map (λ (r : Row). r.arrival) R p d 0 p_in) ∙ ap (λ l. get_or l p 0) (arrivals-numbered date 0 ls)
    ∙ get_or-range_with_len 0 (length ls) p 0 (omega (arith, p_in, length-numbered date 0 ls)) ∙ (let zero_add : 0 + p ≡ p = omega arith in zero_add) in
    let sorted : IsSorted ended_cmp (gathered R places) =
    λ k d low k_in.
    let k_in' : k + 1 < length places = omega (arith, k_in, length-gathered R places within) in
    let p = get_or places (k + 1) 0 in
    let q = get_or places k 0 in
    let p_in : p < length R = within (k + 1) 0 k_in' in
    let q_in : q < length R = within k 0 (omega arith) in
    let up = h.sorted (symbol_of d) k 0 (omega arith) k_in' in
    rw (get_or-gathered R places (k + 1) d within k_in', get_or-gathered R places k d within (omega arith), arrival p d p_in, arrival q d q_in)
    (rw (get_or-map symbol_of R p d (symbol_of d) p_in, get_or-map symbol_of R q d (symbol_of d) q_in) at up) in
    sorted_is-in_order ended_cmp ended_total R (gathered R places) (numbered-apart date 0 ls) same sorted
