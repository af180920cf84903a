-- Columns of which some are chosen by their names.
use Rattle.std.proofs.Common.{◌≡◌, ◌<◌, ◌≤◌, ◌+◌, ℕ, zero, suc, Bool, true, false, cond, append_assoc, List, [], ◌∷◌, ◌++◌, length, map, take, refl, sym, ap, ap₂, ◌∙◌, Option, Some, None, arith}
use Rattle.std.specs.Prelude.{slice_get}
use Rattle.std.specs.List.{filter}
use Rattle.std.specs.Str.{bytes_eq}
use Rattle.std.proofs.lemmas.Slice.Eq.{bytes_eq-Decides}
use Rattle.std.proofs.lemmas.List.{length-map, length-append, length-take, take_more, take_all}
use Rattle.std.proofs.lemmas.List.Elements.{All-nil, All-cons, All-head, All-tail, filter-append}
use Rattle.std.proofs.lemmas.Option.{slice_get_within, get_or_from_slice_get, slice_get-map}
use Rattle.q_values.specs.Contents.{Contents}
use Rattle.q_values.specs.Table.{rows_of}
use Rattle.q_values.specs.declared.kind.Kind.{Kind}
use Rattle.day_rows.specs.Rows.{Row, column_of, field}
use Rattle.day_rows.specs.declared.schema.Shape.{Shape}
use Rattle.plant_memory.specs.Memory.{HasColumn}
use Rattle.qsql_values.specs.Beside.{beside}
use Rattle.qsql_values.specs.Frames.{AreColumns, frame_of}
use Rattle.qsql_values.proofs.FrameLemmas.{AreOfSize, column-lent, kind-lent}
use Rattle.qsql_eval.proofs.ReadyLemmas.{even_rows}
use Rattle.gateway.specs.Needs.{chosen, SameColumn}
use Rattle.gateway.specs.TableRows.{columns_from}

-- ---- one after another

pub chosen-append : (p : List ℕ → Bool) (names others : List (List ℕ)) (columns more : List Contents) → length names ≡ length columns → chosen p (names ++ others) (columns ++ more) ≡ chosen p names columns ++ chosen p others more
chosen-append p [] others [] more size = refl
chosen-append p [] others (c ∷ columns) more size = absurd (omega arith)
chosen-append p (name ∷ names) others [] more size = absurd (omega arith)
chosen-append p (name ∷ names) others (c ∷ columns) more size = by_test (p name) (chosen-append p names others columns more (omega arith))
  where
    by_test : (b : Bool) → chosen p (names ++ others) (columns ++ more) ≡ chosen p names columns ++ chosen p others more → cond b (c ∷ chosen p (names ++ others) (columns ++ more)) (chosen p (names ++ others) (columns ++ more)) ≡ cond b (c ∷ chosen p names columns) (chosen p names columns) ++ chosen p others more
    by_test true h = ap (λ l. c ∷ l) h
    by_test false h = h

pub length-chosen : (p : List ℕ → Bool) (names : List (List ℕ)) (columns : List Contents) → length names ≡ length columns → length (filter p names) ≡ length (chosen p names columns)
length-chosen p [] [] size = refl
length-chosen p [] (c ∷ columns) size = absurd (omega arith)
length-chosen p (name ∷ names) [] size = absurd (omega arith)
length-chosen p (name ∷ names) (c ∷ columns) size = by_test (p name) (length-chosen p names columns (omega arith))
  where
    by_test : (b : Bool) → length (filter p names) ≡ length (chosen p names columns) → length (cond b (name ∷ filter p names) (filter p names)) ≡ length (cond b (c ∷ chosen p names columns) (chosen p names columns))
    by_test true h = ap suc h
    by_test false h = h

pub even_chosen : (n : ℕ) (p : List ℕ → Bool) (names : List (List ℕ)) (columns : List Contents) → AreOfSize n columns → AreOfSize n (chosen p names columns)
even_chosen n p [] columns even = All-nil (λ (c : Contents). length c.atoms ≡ n)
even_chosen n p (name ∷ names) [] even = All-nil (λ (c : Contents). length c.atoms ≡ n)
even_chosen n p (name ∷ names) (c ∷ columns) even = by_test (p name) (even_chosen n p names columns (All-tail (λ (d : Contents). length d.atoms ≡ n) c columns even))
  where
    by_test : (b : Bool) → AreOfSize n (chosen p names columns) → AreOfSize n (cond b (c ∷ chosen p names columns) (chosen p names columns))
    by_test true h = All-cons (λ (d : Contents). length d.atoms ≡ n) c (chosen p names columns) (All-head (λ (d : Contents). length d.atoms ≡ n) c columns even) h
    by_test false h = h

-- chosen columns of one length make rows
pub chosen_columns : (n : ℕ) (p : List ℕ → Bool) (names : List (List ℕ)) (columns : List Contents) → length names ≡ length columns → AreOfSize n columns → AreColumns (filter p names) (chosen p names columns)
chosen_columns n p names columns size even = record {
  named = length-chosen p names columns size;
  even = even_rows n (chosen p names columns) (even_chosen n p names columns even);
}

-- ---- a chosen column is found under its name

pub beside-chosen : (p : List ℕ → Bool) (name : List ℕ) (names : List (List ℕ)) (columns : List Contents) → p name ≡ true → beside name (filter p names) (chosen p names columns) ≡ beside name names columns
beside-chosen p name [] columns is = refl
beside-chosen p name (other ∷ names) [] is = nothing (filter p (other ∷ names))
  where
    nothing : (ns : List (List ℕ)) → beside {X = Contents} name ns [] ≡ None
    nothing [] = refl
    nothing (n ∷ ns) = refl
beside-chosen p name (other ∷ names) (c ∷ columns) is = by_tests (p other) (bytes_eq name other) refl refl (beside-chosen p name names columns is)
  where
    rest : Option Contents
    rest = beside name names columns

    by_tests : (b same : Bool) → p other ≡ b → bytes_eq name other ≡ same → beside name (filter p names) (chosen p names columns) ≡ beside name names columns → beside name (cond b (other ∷ filter p names) (filter p names)) (cond b (c ∷ chosen p names columns) (chosen p names columns)) ≡ cond (bytes_eq name other) (Some c) (beside name names columns)
    by_tests true same here e h = ap (λ (o : Option Contents). cond (bytes_eq name other) (Some c) o) h
    by_tests false true here e h =
        let known : true ≡ false = sym is ∙ ap p ((bytes_eq-Decides name other).0 e) ∙ here in
        absurd cc
    by_tests false false here e h = h ∙ sym (ap (λ (b : Bool). cond b (Some c) (beside name names columns)) e)

-- the same column, where the rows have it under the same name
pub same_column : (names others : List (List ℕ)) (columns more : List Contents) (name : List ℕ) (c : Contents) → AreColumns names columns → AreColumns others more → beside name names columns ≡ Some c → beside name others more ≡ Some c → SameColumn (frame_of names columns) (frame_of others more) name
same_column names others columns more name c mine its found there = record {
  kind = kind-lent names columns name c found ∙ sym (kind-lent others more name c there);
  column = sym (column-lent names columns name c mine found) ∙ column-lent others more name c its there;
}

-- where a column is found, the columns have its length
pub size_of_found : (n : ℕ) (names : List (List ℕ)) (columns : List Contents) (name : List ℕ) (c : Contents) → AreOfSize n columns → beside name names columns ≡ Some c → rows_of columns ≡ n
size_of_found n names [] name c even found = absurd (never (nothing names) found)
  where
    nothing : (ns : List (List ℕ)) → beside {X = Contents} name ns [] ≡ None
    nothing [] = refl
    nothing (m ∷ ms) = refl

    never : beside {X = Contents} name names [] ≡ None → beside name names [] ≡ Some c → ⊥
    never none some = cc
size_of_found n names (d ∷ columns) name c even found = All-head (λ (x : Contents). length x.atoms ≡ n) d columns even

-- ---- the columns of a table

pub columns_from-get : (place : ℕ) (kinds : List Kind) (rows : List Row) (i : ℕ) (kind : Kind) → slice_get kinds i ≡ Some kind → slice_get (columns_from place kinds rows) i ≡ Some (column_of kind (place + i) rows)
columns_from-get place [] rows i kind h = absurd cc
columns_from-get place (x ∷ kinds) rows zero kind h = let same : x ≡ kind = cc in let z : place + 0 ≡ place = omega arith in rw (same, z) refl
columns_from-get place (x ∷ kinds) rows (suc i) kind h = let z : place + 1 + i ≡ place + suc i = omega arith in columns_from-get (place + 1) kinds rows i kind h ∙ ap (λ n. Some (column_of kind n rows)) z

pub column_at_index : (kinds : List Kind) (rows : List Row) (i : ℕ) (kind : Kind) → slice_get kinds i ≡ Some kind → slice_get (columns_from 0 kinds rows) i ≡ Some (column_of kind i rows)
column_at_index kinds rows i kind at = let z : 0 + i ≡ i = omega arith in columns_from-get 0 kinds rows i kind at ∙ ap (λ n. Some (column_of kind n rows)) z

-- the table has this column
pub has_column_at : (schema : List Shape) (place i : ℕ) (shape : Shape) (kind : Kind) → slice_get schema place ≡ Some shape → slice_get shape.kinds i ≡ Some kind → HasColumn schema place i kind
has_column_at schema place i shape kind at here = record { kinds = shape.kinds; table_is = slice_get-map (λ (s : Shape). s.kinds) schema place ∙ rw at refl; column_is = here }

pub length-columns_from : (place : ℕ) (kinds : List Kind) (rows : List Row) → length (columns_from place kinds rows) ≡ length kinds
length-columns_from place [] rows = refl
length-columns_from place (kind ∷ kinds) rows = ap suc (length-columns_from (place + 1) kinds rows)

pub kinds-columns_from : (place : ℕ) (kinds : List Kind) (rows : List Row) → map (λ (c : Contents). c.kind) (columns_from place kinds rows) ≡ kinds
kinds-columns_from place [] rows = refl
kinds-columns_from place (kind ∷ kinds) rows = ap (λ l. kind ∷ l) (kinds-columns_from (place + 1) kinds rows)

pub even-columns_from : (n place : ℕ) (kinds : List Kind) (rows : List Row) → length rows ≡ n → AreOfSize n (columns_from place kinds rows)
even-columns_from n place [] rows e = All-nil (λ (c : Contents). length c.atoms ≡ n)
even-columns_from n place (kind ∷ kinds) rows e = All-cons (λ (c : Contents). length c.atoms ≡ n) (column_of kind place rows) (columns_from (place + 1) kinds rows) (length-map rows (field place) ∙ e) (even-columns_from n (place + 1) kinds rows e)

-- ---- one more column

pub take_next : {X : Type 0} (xs : List X) (i : ℕ) (x : X) → slice_get xs i ≡ Some x → take (i + 1) xs ≡ take i xs ++ x ∷ []
take_next xs i x at = take_more xs i x (slice_get_within xs i x at) ∙ ap (λ y. take i xs ++ y ∷ []) (get_or_from_slice_get xs i x x at)

front_next : {X : Type 0} (front xs : List X) (i : ℕ) (x : X) → slice_get xs i ≡ Some x → front ++ take (i + 1) xs ≡ (front ++ take i xs) ++ x ∷ []
front_next front xs i x at = ap (λ l. front ++ l) (take_next xs i x at) ∙ sym (append_assoc front (take i xs) (x ∷ []))

pub names_next : (p : List ℕ → Bool) (front all : List (List ℕ)) (i : ℕ) (name : List ℕ) (names new : List (List ℕ)) → names ≡ filter p (front ++ take i all) → slice_get all i ≡ Some name → new ≡ names ++ filter p (name ∷ []) → new ≡ filter p (front ++ take (i + 1) all)
names_next p front all i name names new so_far at e =
    e ∙ ap (λ l. l ++ filter p (name ∷ [])) so_far ∙ sym (filter-append p (front ++ take i all) (name ∷ [])) ∙ ap (filter p) (sym (front_next front all i name at))

pub names_all : (p : List ℕ → Bool) (front all : List (List ℕ)) (n : ℕ) → length all ≤ n → filter p (front ++ take n all) ≡ filter p (front ++ all)
names_all p front all n past = ap (λ l. filter p (front ++ l)) (take_all n all past)

length_front : {X : Type 0} (front xs : List X) (i : ℕ) (x : X) → slice_get xs i ≡ Some x → length (front ++ take i xs) ≡ length front + i
length_front front xs i x at =
    let within : i < length xs = slice_get_within xs i x at in
    omega (arith, length-append front (take i xs), length-take i xs)

pub columns_next : (p : List ℕ → Bool) (front names : List (List ℕ)) (heads columns : List Contents) (i : ℕ) (name : List ℕ) (c : Contents) → length front ≡ length heads → slice_get names i ≡ Some name → slice_get columns i ≡ Some c
    → chosen p (front ++ take (i + 1) names) (heads ++ take (i + 1) columns) ≡ chosen p (front ++ take i names) (heads ++ take i columns) ++ cond (p name) (c ∷ []) []
columns_next p front names heads columns i name c size at here =
    let even : length (front ++ take i names) ≡ length (heads ++ take i columns) = length_front front names i name at ∙ ap (λ n. n + i) size ∙ sym (length_front heads columns i c here) in
    ap₂ (chosen p) (front_next front names i name at) (front_next heads columns i c here)
    ∙ chosen-append p (front ++ take i names) (name ∷ []) (heads ++ take i columns) (c ∷ []) even

pub columns_all : (p : List ℕ → Bool) (front names : List (List ℕ)) (heads columns : List Contents) (n : ℕ) → length names ≤ n → length columns ≤ n → chosen p (front ++ take n names) (heads ++ take n columns) ≡ chosen p (front ++ names) (heads ++ columns)
columns_all p front names heads columns n past beyond = ap₂ (λ ns cs. chosen p (front ++ ns) (heads ++ cs)) (take_all n names past) (take_all n columns beyond)
