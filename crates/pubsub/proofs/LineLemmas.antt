-- Rows that pass a test, and their columns.
use Rattle.std.proofs.Common.{◌≡◌, ℕ, suc, ◌+◌, ◌<◌, ◌&&◌, ◌||◌, ◌++◌, Bool, true, false, cond, Some, None, List, [], ◌∷◌, length, map, take, get_or, refl, sym, ap, ap₂, ◌∙◌, subst, All, arith, slice_get, inl, inr}
use Rattle.std.specs.List.{list_any, list_all, filter, flat_map, range_with_len, AllByRecursion}
use Rattle.std.proofs.lemmas.List.{length-map, length-take-le, map-append, get_or-map, take_more}
use Rattle.std.proofs.lemmas.List.Elements.{All-from_recursion}
use Rattle.std.proofs.lemmas.Option.{get_or_from_slice_get, slice_get_within, slice_get_cases}
use Rattle.q_filter.specs.Places.{kept_in}
use Rattle.q_filter.proofs.PlaceLemmas.{gathers, places_within}
use Rattle.q_values.specs.Contents.{Contents}
use Rattle.q_values.specs.Lists.{gathered}
use Rattle.q_values.specs.Table.{rows_of, IsTable}
use Rattle.q_values.specs.declared.atom.Atom.{Atom}
use Rattle.q_values.specs.declared.kind.Kind.{Kind}
use Rattle.q_values.specs.declared.kind.Kind.TheVariants as k
use Rattle.q_values.proofs.ListLemmas.{map-gathered}
use Rattle.day_rows.specs.Day.{AreColumns}
use Rattle.day_rows.specs.Joined.{atoms_of}
use Rattle.day_rows.specs.Schema.{IsShape}
use Rattle.day_rows.specs.declared.schema.Shape.{Shape}
use Rattle.day_rows.specs.Rows.{absent, atom_at, lines_of}
use Rattle.day_rows.proofs.RowsLemmas.{places-read_all, length-lines_of}
use Rattle.pubsub.specs.Parts.{AreMarked, AreBelow, at_rows, part_atoms, part_lines, IsPart, IsPassed, HaveSymbols}
use Rattle.pubsub.specs.Told.{chooses, passes, columns_from}
use Rattle.pubsub.specs.declared.filter.Filter.{Filter}
use Rattle.pubsub.specs.declared.parts.Part.{Part}
use Rattle.pubsub.specs.declared.rows.Rows.{Rows}
use Rattle.pubsub.specs.declared.rows.Rows.TheVariants as r
use Rattle.pubsub.proofs.RowLemmas.{any-marks, all-marks, map-map}

-- ---- what a filter keeps

filter-kept : {X : Type 0} (test : X → Bool) (xs : List X) → kept_in (map test xs) xs ≡ filter test xs
filter-kept test [] = refl
filter-kept test (x ∷ xs) = by (test x) (filter-kept test xs)
  where
    by : (b : Bool) → kept_in (map test xs) xs ≡ filter test xs → kept_in (b ∷ map test xs) (x ∷ xs) ≡ cond b (x ∷ filter test xs) (filter test xs)
    by true rest = ap (λ l. x ∷ l) rest
    by false rest = rest

or_first : (b c : Bool) → (b || c) ≡ false → b ≡ false
or_first true c e = e
or_first false c e = refl

or_second : (b c : Bool) → (b || c) ≡ false → c ≡ false
or_second true c e = cc
or_second false c e = e

and_first : (b c : Bool) → (b && c) ≡ true → b ≡ true
and_first true c e = refl
and_first false c e = e

and_second : (b c : Bool) → (b && c) ≡ true → c ≡ true
and_second true c e = e
and_second false c e = cc

none_pass : {X : Type 0} (test : X → Bool) (xs : List X) → list_any test xs ≡ false → filter test xs ≡ []
none_pass test [] e = refl
none_pass test (x ∷ xs) e =
    ap (λ b. cond b (x ∷ filter test xs) (filter test xs)) (or_first (test x) (list_any test xs) e) ∙ none_pass test xs (or_second (test x) (list_any test xs) e)

all_pass : {X : Type 0} (test : X → Bool) (xs : List X) → list_all test xs ≡ true → filter test xs ≡ xs
all_pass test [] e = refl
all_pass test (x ∷ xs) e =
    ap (λ b. cond b (x ∷ filter test xs) (filter test xs)) (and_first (test x) (list_all test xs) e) ∙ ap (λ l. x ∷ l) (all_pass test xs (and_second (test x) (list_all test xs) e))

some_pass : {X : Type 0} (test : X → Bool) (xs : List X) → list_any test xs ≡ true → 0 < length (filter test xs)
some_pass test [] e = cc
some_pass test (x ∷ xs) e = by (test x) (some_pass test xs) e
  where
    by : (b : Bool) → (list_any test xs ≡ true → 0 < length (filter test xs)) → (b || list_any test xs) ≡ true → 0 < length (cond b (x ∷ filter test xs) (filter test xs))
    by true rest e = omega arith
    by false rest e = rest e

-- ---- marked rows are those that pass

marked_none : {X : Type 0} (test : X → Bool) (xs : List X) → AreMarked (map test xs) None → filter test xs ≡ []
marked_none test xs are = none_pass test xs (sym (any-marks test xs) ∙ are)

marked_rows : {X : Type 0} (test : X → Bool) (xs : List X) (rows : Rows) → AreMarked (map test xs) (Some rows) → at_rows rows xs ≡ filter test xs
marked_rows test xs r.All are = sym (all_pass test xs (sym (all-marks test xs) ∙ are.1))
marked_rows test xs (r.At places) are = ap (gathered xs) are.1 ∙ gathers xs (map test xs) (sym (length-map xs test)) ∙ filter-kept test xs

marked_some : {X : Type 0} (test : X → Bool) (xs : List X) (rows : Rows) → AreMarked (map test xs) (Some rows) → 0 < length (filter test xs)
marked_some test xs r.All are = some_pass test xs (sym (any-marks test xs) ∙ are.0)
marked_some test xs (r.At places) are = some_pass test xs (sym (any-marks test xs) ∙ are.0)

marked_below : {X : Type 0} (test : X → Bool) (xs : List X) (rows : Rows) → AreMarked (map test xs) (Some rows) → AreBelow (length xs) rows
marked_below test xs r.All are = tt
marked_below test xs (r.At places) are =
    subst (All (λ place. place < length xs)) (sym are.1) (places_within (length xs) 0 (map test xs) (omega (arith, length-map xs test)))

-- ---- the columns of rows

-- a column, read from the rows
column-lines : (columns : List Contents) (c : ℕ) (column : Contents) → All (λ x. length x.atoms ≡ rows_of columns) columns → slice_get columns c ≡ Some column → map (λ line. get_or line c absent) (lines_of columns) ≡ column.atoms
column-lines columns c column even known =
    let c_in = slice_get_within columns c column known in
    let read : (p : ℕ) → get_or (map (atom_at p) columns) c absent ≡ get_or column.atoms p absent =
    λ p. get_or-map (atom_at p) columns c column absent c_in ∙ ap (atom_at p) (get_or_from_slice_get columns c column column known) in
    let size : rows_of columns ≡ length column.atoms =
    sym (subst (λ (x : Contents). length x.atoms ≡ rows_of columns) (get_or_from_slice_get columns c column column known) (even c column c_in)) in
    map-map (λ line. get_or line c absent) (λ p. map (atom_at p) columns) (range_with_len 0 (rows_of columns))
    ∙ (λ i. map (λ p. read p i) (range_with_len 0 (rows_of columns)))
    ∙ ap (λ n. map (λ p. get_or column.atoms p absent) (range_with_len 0 n)) size
    ∙ places-read_all column.atoms absent

map-at_rows : {X Y : Type 0} (f : X → Y) (rows : Rows) (xs : List X) → map f (at_rows rows xs) ≡ at_rows rows (map f xs)
map-at_rows f r.All xs = refl
map-at_rows f (r.At places) xs = map-gathered f xs places.items

-- what `passed` says, where the marks are those of the symbols
passed_marks : (chosen : Filter) (columns : List Contents) (have : HaveSymbols columns) → map (chooses chosen) have.symbols.atoms ≡ map (passes chosen) (lines_of columns)
passed_marks chosen columns have =
    ap (map (chooses chosen)) (sym (column-lines columns 1 have.symbols have.even have.second)) ∙ map-map (chooses chosen) (λ line. get_or line 1 absent) (lines_of columns)

pub passed_none : (chosen : Filter) (columns : List Contents) (have : HaveSymbols columns) → AreMarked (map (chooses chosen) have.symbols.atoms) None → IsPassed chosen columns None
passed_none chosen columns have are = marked_none (passes chosen) (lines_of columns) (subst (λ (marks : List Bool). AreMarked marks None) (passed_marks chosen columns have) are)

pub passed_some : (chosen : Filter) (columns : List Contents) (part : Part) (have : HaveSymbols columns) → part.columns.now ≡ columns → AreMarked (map (chooses chosen) have.symbols.atoms) (Some part.rows) → IsPassed chosen columns (Some part)
passed_some chosen columns part have same are =
    let lines = lines_of columns in
    let marked = subst (λ (marks : List Bool). AreMarked marks (Some part.rows)) (passed_marks chosen columns have) are in
    let kept : part_lines part ≡ filter (passes chosen) lines = ap (λ (cs : List Contents). at_rows part.rows (lines_of cs)) same ∙ marked_rows (passes chosen) lines part.rows marked in (
      same,
      kept,
      subst (λ (ls : List (List Atom)). 0 < length ls) (sym kept) (marked_some (passes chosen) lines part.rows marked),
      subst (λ n. AreBelow n part.rows) (length-lines_of columns) (marked_below (passes chosen) lines part.rows marked),
    )

-- ---- the columns of parts

size_of : (kinds : List Kind) (columns : List Contents) → AreColumns kinds columns → length columns ≡ length kinds
size_of kinds columns are = sym (length-map columns (λ (x : Contents). x.kind)) ∙ ap length are.of_kinds

part_column-lines : (kinds : List Kind) (c : ℕ) (part : Part) → c < length kinds → IsPart kinds part → map (λ line. get_or line c absent) (part_lines part) ≡ part_atoms c part
part_column-lines kinds c part c_in is =
    let columns = part.columns.now in
    map-at_rows (λ line. get_or line c absent) part.rows (lines_of columns)
    ∙ ap (at_rows part.rows)
    (elim (slice_get_cases columns c).1 [
      | inl w ↦ column-lines columns c w.0 is.columns.equal_lengths w.2 ∙ sym (ap atoms_of w.2)
      | inr w ↦ absurd (omega (arith, w.0, size_of kinds columns is.columns, c_in))
    ])

parts_column-lines : (kinds : List Kind) (c : ℕ) (parts : List Part) → c < length kinds → AllByRecursion (IsPart kinds) parts → map (λ line. get_or line c absent) (flat_map part_lines parts) ≡ flat_map (part_atoms c) parts
parts_column-lines kinds c [] c_in are = refl
parts_column-lines kinds c (part ∷ parts) c_in are =
    map-append (λ line. get_or line c absent) (part_lines part) (flat_map part_lines parts)
    ∙ ap₂ (λ (l m : List Atom). l ++ m) (part_column-lines kinds c part c_in are.0) (parts_column-lines kinds c parts c_in are.1)

columns_from-append : (n : ℕ) (kinds : List Kind) (kind : Kind) (lines : List (List Atom)) → columns_from n (kinds ++ kind ∷ []) lines ≡ columns_from n kinds lines ++ record { kind = kind; atoms = map (λ line. get_or line (n + length kinds) absent) lines } ∷ []
columns_from-append n [] kind lines = ap (λ i. record { kind = kind; atoms = map (λ line. get_or line i absent) lines } ∷ []) (omega arith)
columns_from-append n (first ∷ kinds) kind lines =
    ap (λ l. record { kind = first; atoms = map (λ line. get_or line n absent) lines } ∷ l)
    (columns_from-append (n + 1) kinds kind lines
    ∙ ap (λ i. columns_from (n + 1) kinds lines ++ record { kind = kind; atoms = map (λ line. get_or line i absent) lines } ∷ []) (omega arith))

-- one more column
pub columns_more : (kinds : List Kind) (parts : List Part) (i : ℕ) (column : Contents) → i < length kinds → AllByRecursion (IsPart kinds) parts → slice_get kinds i ≡ Some column.kind → column.atoms ≡ flat_map (part_atoms i) parts
    → columns_from 0 (take (i + 1) kinds) (flat_map part_lines parts) ≡ columns_from 0 (take i kinds) (flat_map part_lines parts) ++ column ∷ []
columns_more kinds parts i column i_in are kind atoms =
    let lines = flat_map part_lines parts in
    let size : 0 + length (take i kinds) ≡ i = omega (arith, length-take-le i kinds (omega (arith, i_in))) in
    ap (λ (ks : List Kind). columns_from 0 ks lines) (take_more kinds i column.kind i_in)
    ∙ columns_from-append 0 (take i kinds) (get_or kinds i column.kind) lines
    ∙ (λ j. columns_from 0 (take i kinds) lines ++ record {
      kind = get_or_from_slice_get kinds i column.kind column.kind kind j;
      atoms = map (λ line. get_or line (size j) absent) lines;
    } ∷ [])
    ∙ ap (λ (xs : List Atom). columns_from 0 (take i kinds) lines ++ record { kind = column.kind; atoms = xs } ∷ []) (parts_column-lines kinds i parts i_in are ∙ sym atoms)

length-columns_from : (n : ℕ) (kinds : List Kind) (lines : List (List Atom)) → length (columns_from n kinds lines) ≡ length kinds
length-columns_from n [] lines = refl
length-columns_from n (kind ∷ kinds) lines = ap suc (length-columns_from (n + 1) kinds lines)

each_length : (n : ℕ) (kinds : List Kind) (lines : List (List Atom)) → AllByRecursion (λ (column : Contents). length column.atoms ≡ length lines) (columns_from n kinds lines)
each_length n [] lines = tt
each_length n (kind ∷ kinds) lines = (length-map lines (λ line. get_or line n absent), each_length (n + 1) kinds lines)

first_length : (n : ℕ) (kinds : List Kind) (lines : List (List Atom)) → 0 < length kinds → rows_of (columns_from n kinds lines) ≡ length lines
first_length n [] lines some = absurd (omega (arith, some))
first_length n (kind ∷ kinds) lines some = length-map lines (λ line. get_or line n absent)

-- the columns of rows have one length
even-columns_from : (kinds : List Kind) (lines : List (List Atom)) → 0 < length kinds → All (λ (column : Contents). length column.atoms ≡ rows_of (columns_from 0 kinds lines)) (columns_from 0 kinds lines)
even-columns_from kinds lines some =
    All-from_recursion (λ (column : Contents). length column.atoms ≡ rows_of (columns_from 0 kinds lines)) (columns_from 0 kinds lines)
    (subst (λ n. AllByRecursion (λ (column : Contents). length column.atoms ≡ n) (columns_from 0 kinds lines)) (sym (first_length 0 kinds lines some)) (each_length 0 kinds lines))

-- ---- tables of a schema

-- one more element, which a call read
pub taken_more : {X : Type 0} (xs : List X) (i : ℕ) (x : X) → i < length xs → slice_get xs i ≡ Some x → take (i + 1) xs ≡ take i xs ++ x ∷ []
taken_more xs i x h e = take_more xs i x h ∙ ap (λ y. take i xs ++ y ∷ []) (get_or_from_slice_get xs i x x e)

some_kinds : (kinds : List Kind) → take 2 kinds ≡ k.Timespan ∷ k.Symbol ∷ [] → 0 < length kinds
some_kinds [] e = cc
some_kinds (kind ∷ kinds) e = omega arith

-- names and columns of rows make a table
pub rows_table : (shape : Shape) (lines : List (List Atom)) (names : List (List ℕ)) (columns : List Contents) → IsShape shape → names ≡ shape.names → columns ≡ columns_from 0 shape.kinds lines → IsTable names columns
rows_table shape lines names columns is n c =
    let some = some_kinds shape.kinds is.first_kinds in
    let size : length columns ≡ length shape.kinds = ap length c ∙ length-columns_from 0 shape.kinds lines in
    record {
      some = omega (arith, some, size);
      named = ap length n ∙ is.named ∙ sym size;
      even = subst (λ (cs : List Contents). All (λ (column : Contents). length column.atoms ≡ rows_of cs) cs) (sym c) (even-columns_from shape.kinds lines some);
    }

second_column : (columns : List Contents) → take 2 (map (λ (c : Contents). c.kind) columns) ≡ k.Timespan ∷ k.Symbol ∷ [] → (symbols : Contents) × (slice_get columns 1 ≡ Some symbols) × (symbols.kind ≡ k.Symbol)
second_column [] e = cc
second_column (x ∷ []) e = cc
second_column (x ∷ y ∷ columns) e = (y, refl, cc)

pub have_symbols : (shape : Shape) (columns : List Contents) → IsShape shape → AreColumns shape.kinds columns → HaveSymbols columns
have_symbols shape columns is are =
    let second = second_column columns (ap (take 2) are.of_kinds ∙ is.first_kinds) in
    record { symbols = second.0; second = second.1; kind = second.2; even = are.equal_lengths }
