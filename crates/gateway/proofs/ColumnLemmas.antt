-- A table's columns over all dates, date by date.
use Rattle.std.proofs.Common.{◌≡◌, ◌<◌, ◌+◌, ◌-◌, ℕ, zero, suc, ℤ, Bool, true, false, List, [], ◌∷◌, ◌++◌, length, map, take, drop, get_or, replicate, refl, sym, ap, ap₂, ◌∙◌, cond, arith, append_assoc}
use Rattle.std.specs.Prelude.{pos}
use Rattle.std.specs.List.{flat_map, range_with_len}
use Rattle.std.specs.Ordering.{int_eq}
use Rattle.std.proofs.Math.Seq.{take-length}
use Rattle.std.proofs.lemmas.Bool.Decides.{Decides-int_eq}
use Rattle.std.proofs.lemmas.List.{append-nil, replicate-append-replicate, map-append, length-map, length-append, take_more}
use Rattle.std.proofs.lemmas.List.Concat.{flat_map-append}
use Rattle.std.proofs.lemmas.List.Elements.{All-get_or}
use Rattle.std.proofs.lemmas.List.FromFn.{length-map-range_with_len}
use Rattle.std.proofs.lemmas.Simd.{map-map}
use Rattle.day_rows.specs.Chronicle.{view, date_of}
use Rattle.day_rows.specs.Rows.{Row, column_of, field}
use Rattle.day_rows.specs.declared.entry.Entry.{Entry}
use Rattle.day_rows.specs.declared.entry.Entry.TheVariants as e
use Rattle.plant_memory.proofs.ItemsLemmas.{map-replicate}
use Rattle.plant_memory.specs.Chronicle.{dates_of, on_date, date_at, rows_at}
use Rattle.q_values.specs.Contents.{Contents}
use Rattle.q_values.specs.declared.atom.Atom.{Atom}
use Rattle.q_values.specs.declared.atom.Atom.TheVariants as a
use Rattle.q_values.specs.declared.kind.Kind.{Kind}
use Rattle.gateway.specs.DateRows.{AreDates, rows_on}
use Rattle.gateway.specs.TableRows.{numbers_to, numbers_on}

-- a plant has a date
pub some_dates : (first : ℤ) (entries : List Entry) → 0 < length (dates_of first entries)
some_dates first [] = omega arith
some_dates first (e.Upd by table columns ∷ entries) = some_dates first entries
some_dates first (e.Roll by date ∷ entries) = omega arith
some_dates first (e.Fault by ∷ entries) = some_dates first entries

-- ---- dates one after another

-- one of these dates is a date
pub date_here : (first : ℤ) (entries : List Entry) (ks : List ℕ) (i d : ℕ) → AreDates first entries ks → i < length ks → get_or ks i d < length (dates_of first entries)
date_here first entries ks i d all within = All-get_or (λ (k : ℕ). k < length (dates_of first entries)) ks i d within all

-- one date more
flat_map_next : {X : Type 0} (f : ℕ → List X) (ks : List ℕ) (i d : ℕ) → i < length ks → flat_map f (take (i + 1) ks) ≡ flat_map f (take i ks) ++ f (get_or ks i d)
flat_map_next f ks i d within =
    ap (flat_map f) (take_more ks i d within) ∙ flat_map-append f (take i ks) (get_or ks i d ∷ []) ∙ ap (λ l. flat_map f (take i ks) ++ l) (append-nil (f (get_or ks i d)))

abbrev pub parts_at : ℤ → List Entry → ℕ → ℕ → List Row
parts_at first entries table k = rows_at first entries k table

rows_next : (first : ℤ) (entries : List Entry) (table : ℕ) (ks : List ℕ) (i d : ℕ) → i < length ks → rows_on (take (i + 1) ks) first entries table ≡ rows_on (take i ks) first entries table ++ rows_at first entries (get_or ks i d) table
rows_next first entries table ks i d within = flat_map_next (parts_at first entries table) ks i d within

-- ---- the dates

abbrev pub date_of_row : Row → Atom
date_of_row row = a.Date row.date

-- rows of one date have that date
dated_by : (d : ℤ) (row : Row) (rows : List Row) (same : Bool) → int_eq row.date d ≡ same → map date_of_row rows ≡ replicate (length rows) (a.Date d) → map date_of_row (cond same (row ∷ rows) rows) ≡ replicate (length (cond same (row ∷ rows) rows)) (a.Date d)
dated_by d row rows true e h =
    let is : row.date ≡ d = (Decides-int_eq row.date d).0 e in
    ap (λ x. a.Date x ∷ map date_of_row rows) is ∙ ap (λ l. a.Date d ∷ l) h
dated_by d row rows false e h = h

dated : (d : ℤ) (rows : List Row) → map date_of_row (on_date d rows) ≡ replicate (length (on_date d rows)) (a.Date d)
dated d [] = refl
dated d (row ∷ rows) = dated_by d row (on_date d rows) (int_eq row.date d) refl (dated d rows)

-- all rows of a date have that date
pub rows_dated : (first : ℤ) (entries : List Entry) (table k : ℕ) → map date_of_row (rows_at first entries k table) ≡ replicate (length (rows_at first entries k table)) (a.Date (date_at first entries k))
rows_dated first entries table k = dated (date_at first entries k) (view first entries table)

-- one date more
pub dates_more : (first : ℤ) (entries : List Entry) (table : ℕ) (ks : List ℕ) (i d : ℕ) (column more : List ℤ) (rows : ℕ) (date : ℤ) → i < length ks → map (λ x. a.Date x) column ≡ map date_of_row (rows_on (take i ks) first entries table)
    → more ≡ column ++ replicate rows date → rows ≡ length (rows_at first entries (get_or ks i d) table) → date ≡ date_at first entries (get_or ks i d) → map (λ x. a.Date x) more ≡ map date_of_row (rows_on (take (i + 1) ks) first entries table)
dates_more first entries table ks i d column more rows date within so_far e size is =
    let k = get_or ks i d in
    let here : map (λ x. a.Date x) (replicate rows date) ≡ map date_of_row (rows_at first entries k table) =
    map-replicate (λ x. a.Date x) rows date ∙ ap₂ (λ (m : ℕ) (x : ℤ). replicate m (a.Date x)) size is ∙ sym (rows_dated first entries table k) in
    ap (map (λ x. a.Date x)) e ∙ map-append (λ x. a.Date x) column (replicate rows date)
    ∙ ap₂ (λ (xs ys : List Atom). xs ++ ys) so_far here
    ∙ sym (map-append date_of_row (rows_on (take i ks) first entries table) (rows_at first entries k table))
    ∙ ap (map date_of_row) (sym (rows_next first entries table ks i d within))

-- ---- the numbers

range-more : (a n : ℕ) → range_with_len a (n + 1) ≡ range_with_len a n ++ (a + n) ∷ []
range-more a zero = let z : a + 0 ≡ a = omega arith in rw z refl
range-more a (suc n) =
    let z : a + 1 + n ≡ a + suc n = omega arith in
    let next : suc n + 1 ≡ suc (n + 1) = omega arith in
    ap (range_with_len a) next ∙ ap (λ l. a ∷ l) (range-more (a + 1) n ∙ ap (λ m. range_with_len (a + 1) n ++ m ∷ []) z)

pub range_more : (n : ℕ) → range_with_len 0 (n + 1) ≡ range_with_len 0 n ++ n ∷ []
range_more n = let z : 0 + n ≡ n = omega arith in range-more 0 n ∙ ap (λ m. range_with_len 0 n ++ m ∷ []) z

abbrev pub numbers_at : ℤ → List Entry → ℕ → ℕ → List Atom
numbers_at first entries table k = numbers_to (length (rows_at first entries k table))

pub numbers_more : (first : ℤ) (entries : List Entry) (table : ℕ) (ks : List ℕ) (i d : ℕ) (numbers more : List ℤ) (rows : ℕ) → i < length ks → map (λ x. a.Long x) numbers ≡ (numbers_on (take i ks) first entries table).atoms
    → more ≡ numbers ++ map (λ i. pos i) (range_with_len 0 rows) → rows ≡ length (rows_at first entries (get_or ks i d) table) → map (λ x. a.Long x) more ≡ (numbers_on (take (i + 1) ks) first entries table).atoms
numbers_more first entries table ks i d numbers more rows within so_far e size =
    let here : map (λ x. a.Long x) (map (λ i. pos i) (range_with_len 0 rows)) ≡ numbers_at first entries table (get_or ks i d) =
    map-map (λ x. a.Long x) (λ i. pos i) (range_with_len 0 rows) ∙ ap numbers_to size in
    ap (map (λ x. a.Long x)) e ∙ map-append (λ x. a.Long x) numbers (map (λ i. pos i) (range_with_len 0 rows))
    ∙ ap₂ (λ (xs ys : List Atom). xs ++ ys) so_far here
    ∙ sym (flat_map_next (numbers_at first entries table) ks i d within)

pub length-numbers_to : (n : ℕ) → length (numbers_to n) ≡ n
length-numbers_to n = length-map-range_with_len (λ (i : ℕ). a.Long (pos i)) 0 n

-- as many numbers as rows
pub length-numbers_on : (ks : List ℕ) (first : ℤ) (entries : List Entry) (table : ℕ) → length (numbers_on ks first entries table).atoms ≡ length (rows_on ks first entries table)
length-numbers_on [] first entries table = refl
length-numbers_on (k ∷ ks) first entries table =
    length-append (numbers_at first entries table k) (numbers_on ks first entries table).atoms
    ∙ ap₂ (λ (x y : ℕ). x + y) (length-numbers_to (length (rows_at first entries k table))) (length-numbers_on ks first entries table)
    ∙ sym (length-append (rows_at first entries k table) (rows_on ks first entries table))

-- ---- a column

pub part_is : (kind : Kind) (column : ℕ) (rows : List Row) (n : ℕ) (part : Contents) → n ≡ length rows → part ≡ record { kind = kind; atoms = take n (drop 0 (column_of kind column rows).atoms) } → part ≡ column_of kind column rows
part_is kind column rows n part size is =
    let all : n ≡ length (map (field column) rows) = size ∙ sym (length-map rows (field column)) in
    is ∙ ap (λ (l : List Atom). record { kind = kind; atoms = l }) (ap (λ m. take m (map (field column) rows)) all ∙ take-length (map (field column) rows))

pub column_more : (first : ℤ) (entries : List Entry) (table column : ℕ) (ks : List ℕ) (i d : ℕ) (kind : Kind) (whole part new : Contents) → i < length ks → whole ≡ column_of kind column (rows_on (take i ks) first entries table)
    → part ≡ column_of kind column (rows_at first entries (get_or ks i d) table) → new ≡ record whole { atoms = whole.atoms ++ part.atoms } → new ≡ column_of kind column (rows_on (take (i + 1) ks) first entries table)
column_more first entries table column ks i d kind whole part new within w p e =
    let rows : rows_on (take i ks) first entries table ++ rows_at first entries (get_or ks i d) table ≡ rows_on (take (i + 1) ks) first entries table = sym (rows_next first entries table ks i d within) in
    e ∙ rw (w, p) (ap (λ (l : List Atom). record { kind = kind; atoms = l }) (sym (map-append (field column) (rows_on (take i ks) first entries table) (rows_at first entries (get_or ks i d) table))) ∙ ap (column_of kind column) rows)

-- ---- the open date

last_date : (first : ℤ) (entries : List Entry) (d : ℤ) → get_or (dates_of first entries) (length (dates_of first entries) - 1) d ≡ date_of first entries
last_date first [] d = refl
last_date first (e.Upd by table columns ∷ entries) d = last_date first entries d
last_date first (e.Fault by ∷ entries) d = last_date first entries d
last_date first (e.Roll by date ∷ entries) d =
    let one : suc (length (dates_of date entries)) - 1 ≡ suc (length (dates_of date entries) - 1) = omega (arith, some_dates date entries) in
    rw one (last_date date entries d)

pub open_date : (first : ℤ) (entries : List Entry) → date_at first entries (length (dates_of first entries) - 1) ≡ date_of first entries
open_date first entries = last_date first entries first

-- ---- one item more

replicate_more : {X : Type 0} (n : ℕ) (x : X) → replicate (n + 1) x ≡ replicate n x ++ x ∷ []
replicate_more n x = sym (replicate-append-replicate n 1 x)

pub dates_pushed : (xs : List ℤ) (n : ℕ) (x : ℤ) → (xs ++ replicate n x) ++ x ∷ [] ≡ xs ++ replicate (n + 1) x
dates_pushed xs n x = append_assoc xs (replicate n x) (x ∷ []) ∙ ap (λ l. xs ++ l) (sym (replicate_more n x))

pub numbers_pushed : (xs : List ℤ) (n : ℕ) → (xs ++ map (λ i. pos i) (range_with_len 0 n)) ++ pos n ∷ [] ≡ xs ++ map (λ i. pos i) (range_with_len 0 (n + 1))
numbers_pushed xs n =
    append_assoc xs (map (λ i. pos i) (range_with_len 0 n)) (pos n ∷ [])
    ∙ ap (λ l. xs ++ l) (sym (ap (map (λ i. pos i)) (range_more n) ∙ map-append (λ i. pos i) (range_with_len 0 n) (n ∷ [])))
