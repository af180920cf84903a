-- Of the rows of a table, those columns that a query needs.
use Rattle.std.proofs.Common.{◌≡◌, ℕ, suc, ℤ, Bool, true, false, cond, not, ◌+◌, ◌||◌, List, [], ◌∷◌, length, refl, sym, ap, ◌∙◌, All, Option, Some, None, subst, arith}
use Rattle.std.specs.Prelude.{codes, is_some, slice_get}
use Rattle.std.specs.List.{filter, list_all, list_any}
use Rattle.std.specs.Str.{bytes_eq}
use Rattle.std.proofs.lemmas.Slice.Eq.{bytes_eq-Decides}
use Rattle.std.proofs.lemmas.List.{length-map}
use Rattle.std.proofs.lemmas.List.Elements.{All-nil, All-cons, All-head, All-tail, All-weaker, All-append}
use Rattle.q_values.specs.Contents.{Contents}
use Rattle.q_values.specs.Kind.{is}
use Rattle.q_values.specs.Table.{rows_of}
use Rattle.q_values.specs.declared.kind.Kind.{Kind}
use Rattle.q_values.specs.declared.kind.Kind.TheVariants as k
use Rattle.day_rows.proofs.DayLemmas.{all-slice_get}
use Rattle.day_rows.specs.Schema.{IsSchema, IsShape}
use Rattle.day_rows.specs.declared.entry.Entry.{Entry}
use Rattle.day_rows.specs.declared.schema.Shape.{Shape}
use Rattle.qsql_request.specs.Forms.{QueryForm}
use Rattle.qsql_request.specs.Names.{names_of}
use Rattle.qsql_request.specs.Unbuilt.{is_empty}
use Rattle.qsql_values.specs.Beside.{beside}
use Rattle.qsql_values.specs.Frames.{Frame, AreColumns, frame_of, kind_beside}
use Rattle.qsql_values.specs.Kinds.{column_kind}
use Rattle.qsql_values.proofs.FrameLemmas.{AreOfSize, some-lent, length_frame}
use Rattle.qsql_eval.proofs.ReadyLemmas.{even_rows}
use Rattle.qsql_eval.specs.Judgement.{mistyped, fits, first_unknown, judged_by_names, judged_over, judgement, table_named, all_columns, is_typed, IsFit}
use Rattle.qsql_eval.specs.Views.{needed, is_kind, has_column, has_columns}
use Rattle.gateway.specs.Answer.{table_index}
use Rattle.gateway.specs.Needs.{is_wanted, chosen, SameColumn, AreSame}
use Rattle.gateway.specs.DateRows.{rows_on, columns_on}
use Rattle.gateway.specs.Kept.{table_names, table_rows_on}
use Rattle.gateway.specs.TableRows.{dates_of_rows, numbers_on, columns_from}
use Rattle.gateway.proofs.ColumnLemmas.{date_of_row, length-numbers_on}
use Rattle.gateway.proofs.ChosenLemmas.{chosen_columns, even_chosen, beside-chosen, same_column, size_of_found, length-columns_from, kinds-columns_from, even-columns_from}

no : {P : Type 0} → false ≡ true → P
no e = absurd cc

bytes_eq-itself : (xs : List ℕ) → bytes_eq xs xs ≡ true
bytes_eq-itself xs = (bytes_eq-Decides xs xs).1 refl

-- ---- the names that a query needs are columns

pub unknown_none : (table : Shape) (q : QueryForm) (o : Option (List ℕ)) → judged_by_names table q o ≡ fits table → o ≡ None
unknown_none table q None h = refl
unknown_none table q (Some name) h = absurd cc

abbrev pub IsKnown : Shape → List ℕ → Type 0
IsKnown table name = is_some (column_kind table name) ≡ true

pub all_known : (columns : List ℕ → Option Kind) (names : List (List ℕ)) → first_unknown columns names ≡ None → All (λ (n : List ℕ). is_some (columns n) ≡ true) names
all_known columns [] h = All-nil (λ (n : List ℕ). is_some (columns n) ≡ true)
all_known columns (name ∷ names) h = by_test (all_known columns names) (is_some (columns name)) refl h
  where
    by_test : (first_unknown columns names ≡ None → All (λ (n : List ℕ). is_some (columns n) ≡ true) names) → (b : Bool) → is_some (columns name) ≡ b → cond b (first_unknown columns names) (Some name) ≡ None → All (λ (n : List ℕ). is_some (columns n) ≡ true) (name ∷ names)
    by_test again true here rest = All-cons (λ (n : List ℕ). is_some (columns n) ≡ true) name names here (again rest)
    by_test again false here rest = absurd cc

-- each name is among the names
abbrev IsAmong : List (List ℕ) → List ℕ → Type 0
IsAmong names name = list_any (bytes_eq name) names ≡ true

or_true : (a b : Bool) → b ≡ true → (a || b) ≡ true
or_true true b h = refl
or_true false b h = h

among : (names : List (List ℕ)) → All (IsAmong names) names
among [] = All-nil (IsAmong [])
among (name ∷ names) =
    All-cons (IsAmong (name ∷ names)) name names (ap (λ (b : Bool). b || list_any (bytes_eq name) names) (bytes_eq-itself name))
    (All-weaker (IsAmong names) (IsAmong (name ∷ names)) (λ m h. or_true (bytes_eq m name) (list_any (bytes_eq m) names) h) names (among names))

-- a name among names has an item beside it
beside_some : {X : Type 0} (name : List ℕ) (names : List (List ℕ)) (xs : List X) → length names ≡ length xs → list_any (bytes_eq name) names ≡ true → is_some (beside name names xs) ≡ true
beside_some name [] xs size h = no h
beside_some name (other ∷ names) [] size h = absurd (omega arith)
beside_some {X = X} name (other ∷ names) (x ∷ xs) size h = by_test (beside_some name names xs (omega arith)) (bytes_eq name other) h
  where
    by_test : (list_any (bytes_eq name) names ≡ true → is_some (beside name names xs) ≡ true) → (b : Bool) → (b || list_any (bytes_eq name) names) ≡ true → is_some (cond b (Some x) (beside name names xs)) ≡ true
    by_test again true e = refl
    by_test again false e = again e

known_beside : (table : Shape) (name : List ℕ) → is_some (beside name table.names table.kinds) ≡ true → IsKnown table name
known_beside table name h = by_tests (bytes_eq name (codes "date")) (bytes_eq name (codes "i"))
  where
    by_tests : (b c : Bool) → is_some (cond b (Some k.Date) (cond c (Some k.Long) (beside name table.names table.kinds))) ≡ true
    by_tests true c = refl
    by_tests false true = refl
    by_tests false false = h

known_date : (table : Shape) → IsKnown table (codes "date")
known_date table = ap (λ (b : Bool). is_some (cond b (Some k.Date) (cond (bytes_eq (codes "date") (codes "i")) (Some k.Long) (beside (codes "date") table.names table.kinds)))) (bytes_eq-itself (codes "date"))

known_columns : (table : Shape) → length table.names ≡ length table.kinds → All (IsKnown table) (all_columns table)
known_columns table size =
    All-cons (IsKnown table) (codes "date") table.names (known_date table)
    (All-weaker (IsAmong table.names) (IsKnown table) (λ n h. known_beside table n (beside_some n table.names table.kinds size h)) table.names (among table.names))

pub known_needed : (table : Shape) (q : QueryForm) → IsFit table q → length table.names ≡ length table.kinds → All (IsKnown table) (needed q table)
known_needed table q fit size =
    All-append (IsKnown table) (names_of q) (cond (is_empty q.columns) (all_columns table) [])
    (all_known (column_kind table) (names_of q) (unknown_none table q (first_unknown (column_kind table) (names_of q)) fit))
    (by_test (is_empty q.columns))
  where
    by_test : (b : Bool) → All (IsKnown table) (cond b (all_columns table) [])
    by_test true = known_columns table size
    by_test false = All-nil (IsKnown table)

-- what is needed is wanted
wanted_needed : (names : List (List ℕ)) → All (λ (n : List ℕ). is_wanted names n ≡ true) names
wanted_needed [] = All-nil (λ (n : List ℕ). is_wanted [] n ≡ true)
wanted_needed (name ∷ names) = among (name ∷ names)

-- ---- the columns of a table

pub table_kinds : (dates : List ℕ) (first : ℤ) (entries : List Entry) (index : ℕ) (table : Shape) (name : List ℕ) → kind_beside (table_rows_on dates first entries index table) name ≡ column_kind table name
table_kinds dates first entries index table name =
    ap (λ (kinds : List Kind). cond (bytes_eq name (codes "date")) (Some k.Date) (cond (bytes_eq name (codes "i")) (Some k.Long) (beside name table.names kinds)))
    (kinds-columns_from 0 table.kinds (rows_on dates first entries index))

table_size : (dates : List ℕ) (first : ℤ) (entries : List Entry) (index : ℕ) (table : Shape) → length table.names ≡ length table.kinds → length (table_names table) ≡ length (columns_on dates first entries index table)
table_size dates first entries index table size = ap (λ (n : ℕ). suc (suc n)) (size ∙ sym (length-columns_from 0 table.kinds (rows_on dates first entries index)))

table_even : (dates : List ℕ) (first : ℤ) (entries : List Entry) (index : ℕ) (table : Shape) → AreOfSize (length (rows_on dates first entries index)) (columns_on dates first entries index table)
table_even dates first entries index table =
    let rows = rows_on dates first entries index in
    let P : Contents → Type 0 = λ c. length c.atoms ≡ length rows in
    All-cons P (dates_of_rows rows) (numbers_on dates first entries index ∷ columns_from 0 table.kinds rows) (length-map rows date_of_row)
    (All-cons P (numbers_on dates first entries index) (columns_from 0 table.kinds rows) (length-numbers_on dates first entries index)
    (even-columns_from (length rows) 0 table.kinds rows refl))

pub table_are : (dates : List ℕ) (first : ℤ) (entries : List Entry) (index : ℕ) (table : Shape) → length table.names ≡ length table.kinds → AreColumns (table_names table) (columns_on dates first entries index table)
table_are dates first entries index table size = record {
  named = table_size dates first entries index table size;
  even = even_rows (length (rows_on dates first entries index)) (columns_on dates first entries index table) (table_even dates first entries index table);
}

-- the columns that are wanted make rows
pub wanted_columns : (dates : List ℕ) (first : ℤ) (entries : List Entry) (index : ℕ) (table : Shape) (needs : List (List ℕ)) → length table.names ≡ length table.kinds → AreColumns (filter (is_wanted needs) (table_names table)) (chosen (is_wanted needs) (table_names table) (columns_on dates first entries index table))
wanted_columns dates first entries index table needs size =
    chosen_columns (length (rows_on dates first entries index)) (is_wanted needs) (table_names table) (columns_on dates first entries index table) (table_size dates first entries index table size) (table_even dates first entries index table)

-- they have a row for each
pub wanted_even : (dates : List ℕ) (first : ℤ) (entries : List Entry) (index : ℕ) (table : Shape) (needs : List (List ℕ)) → AreOfSize (length (rows_on dates first entries index)) (chosen (is_wanted needs) (table_names table) (columns_on dates first entries index table))
wanted_even dates first entries index table needs = even_chosen (length (rows_on dates first entries index)) (is_wanted needs) (table_names table) (columns_on dates first entries index table) (table_even dates first entries index table)

some_item : {X : Type 0} (o : Option X) → is_some o ≡ true → (x : X) × (o ≡ Some x)
some_item (Some x) h = (x, refl)
some_item None h = no h

-- a known name has a column
found_column : (dates : List ℕ) (first : ℤ) (entries : List Entry) (index : ℕ) (table : Shape) (name : List ℕ) → IsKnown table name → (c : Contents) × (beside name (table_names table) (columns_on dates first entries index table) ≡ Some c)
found_column dates first entries index table name known =
    let some : is_some (kind_beside (table_rows_on dates first entries index table) name) ≡ true = ap is_some (table_kinds dates first entries index table name) ∙ known in
    some_item (beside name (table_names table) (columns_on dates first entries index table)) (some-lent (table_names table) (columns_on dates first entries index table) name some)

-- the rows of the columns that are wanted
abbrev pub wanted_rows : List ℕ → ℤ → List Entry → ℕ → Shape → List (List ℕ) → Frame
wanted_rows dates first entries index table needs =
    frame_of (filter (is_wanted needs) (table_names table)) (chosen (is_wanted needs) (table_names table) (columns_on dates first entries index table))

-- they have the columns that are needed
same_wanted : (dates : List ℕ) (first : ℤ) (entries : List Entry) (index : ℕ) (table : Shape) (needs : List (List ℕ)) → length table.names ≡ length table.kinds → (name : List ℕ) → is_wanted needs name ≡ true → IsKnown table name → SameColumn (table_rows_on dates first entries index table) (wanted_rows dates first entries index table needs) name
same_wanted dates first entries index table needs size name has known =
    let names = table_names table in
    let columns = columns_on dates first entries index table in
    let found = found_column dates first entries index table name known in
    same_column names (filter (is_wanted needs) names) columns (chosen (is_wanted needs) names columns) name found.0
    (table_are dates first entries index table size)
    (wanted_columns dates first entries index table needs size)
    found.1
    (beside-chosen (is_wanted needs) name names columns has ∙ found.1)

-- a column that is wanted has a row for each
size_of_wanted : (dates : List ℕ) (first : ℤ) (entries : List Entry) (index : ℕ) (table : Shape) (needs : List (List ℕ)) (name : List ℕ) → is_wanted needs name ≡ true → IsKnown table name → rows_of (chosen (is_wanted needs) (table_names table) (columns_on dates first entries index table)) ≡ length (rows_on dates first entries index)
size_of_wanted dates first entries index table needs name has known =
    let names = table_names table in
    let columns = columns_on dates first entries index table in
    let found = found_column dates first entries index table name known in
    size_of_found (length (rows_on dates first entries index)) (filter (is_wanted needs) names) (chosen (is_wanted needs) names columns) name found.0 (wanted_even dates first entries index table needs) (beside-chosen (is_wanted needs) name names columns has ∙ found.1)

-- they are as many
size_wanted : (dates : List ℕ) (first : ℤ) (entries : List Entry) (index : ℕ) (table : Shape) (needs : List (List ℕ)) → length table.names ≡ length table.kinds → (name : List ℕ) → is_wanted needs name ≡ true → IsKnown table name → length (table_rows_on dates first entries index table).rows ≡ length (wanted_rows dates first entries index table needs).rows
size_wanted dates first entries index table needs size name has known =
    let names = table_names table in
    let columns = columns_on dates first entries index table in
    length_frame names columns (table_are dates first entries index table size)
    ∙ length-map (rows_on dates first entries index) date_of_row
    ∙ sym (size_of_wanted dates first entries index table needs name has known)
    ∙ sym (length_frame (filter (is_wanted needs) names) (chosen (is_wanted needs) names columns) (wanted_columns dates first entries index table needs size))

-- a column that is read, whatever is needed
pub one_wanted : (table : Shape) (needs : List (List ℕ)) → All (IsKnown table) needs → (name : List ℕ) × ((is_wanted needs name ≡ true) × IsKnown table name)
one_wanted table [] known = (codes "date", (ap (λ (b : Bool). b || false) (bytes_eq-itself (codes "date")), known_date table))
one_wanted table (name ∷ names) known = (name, (ap (λ (b : Bool). b || list_any (bytes_eq name) names) (bytes_eq-itself name), All-head (IsKnown table) name names known))

-- the columns that are wanted have a row for each
pub rows_wanted : (dates : List ℕ) (first : ℤ) (entries : List Entry) (index : ℕ) (table : Shape) (needs : List (List ℕ)) → All (IsKnown table) needs → rows_of (chosen (is_wanted needs) (table_names table) (columns_on dates first entries index table)) ≡ length (rows_on dates first entries index)
rows_wanted dates first entries index table needs known =
    let one = one_wanted table needs known in
    size_of_wanted dates first entries index table needs one.0 one.1.0 one.1.1

pub all_both : {X : Type 0} (P Q R : X → Type 0) → ((x : X) → P x → Q x → R x) → (xs : List X) → All P xs → All Q xs → All R xs
all_both P Q R f [] p q = All-nil R
all_both P Q R f (x ∷ xs) p q = All-cons R x xs (f x (All-head P x xs p) (All-head Q x xs q)) (all_both P Q R f xs (All-tail P x xs p) (All-tail Q x xs q))

pub are_same : (dates : List ℕ) (first : ℤ) (entries : List Entry) (index : ℕ) (table : Shape) (needs : List (List ℕ)) → length table.names ≡ length table.kinds → All (IsKnown table) needs → AreSame (table_rows_on dates first entries index table) (wanted_rows dates first entries index table needs) needs
are_same dates first entries index table needs size known =
    let one = one_wanted table needs known in
    record {
      size = size_wanted dates first entries index table needs size one.0 one.1.0 one.1.1;
      columns = all_both (λ (n : List ℕ). is_wanted needs n ≡ true) (IsKnown table) (SameColumn (table_rows_on dates first entries index table) (wanted_rows dates first entries index table needs)) (same_wanted dates first entries index table needs size) needs (wanted_needed needs) known;
    }

-- ---- they are the rows that a query takes

is_itself : (kind : Kind) → is kind kind ≡ true
is_itself kind = grind arith

kind_itself : (a b : Option Kind) → a ≡ b → is_some a ≡ true → is_kind a b ≡ true
kind_itself (Some kind) b same some = rw (← same) (is_itself kind)
kind_itself None b same some = no some

all_pass : {X : Type 0} (test : X → Bool) (xs : List X) → All (λ (x : X). test x ≡ true) xs → list_all test xs ≡ true
all_pass test [] h = refl
all_pass {X = X} test (x ∷ xs) h = rw (All-head (λ (y : X). test y ≡ true) x xs h) (all_pass test xs (All-tail (λ (y : X). test y ≡ true) x xs h))

pub wanted_fit : (dates : List ℕ) (first : ℤ) (entries : List Entry) (index : ℕ) (table : Shape) (q : QueryForm) → length table.names ≡ length table.kinds → IsFit table q → has_columns table q (wanted_rows dates first entries index table (needed q table)) ≡ true
wanted_fit dates first entries index table q size fit =
    let needs = needed q table in
    let known = known_needed table q fit size in
    let g = wanted_rows dates first entries index table needs in
    let same = are_same dates first entries index table needs size known in
    all_pass (has_column table (kind_beside g)) needs
    (all_both (SameColumn (table_rows_on dates first entries index table) g) (IsKnown table) (λ (n : List ℕ). has_column table (kind_beside g) n ≡ true)
    (λ n s known. kind_itself (column_kind table n) (kind_beside g n) (sym (table_kinds dates first entries index table n) ∙ s.kind) known)
    needs same.columns known)

pub even_shape : (shape table : Shape) → shape ≡ table → length shape.names ≡ length shape.kinds → length table.names ≡ length table.kinds
even_shape shape table same size = subst (λ (t : Shape). length t.names ≡ length t.kinds) same size

-- ---- the table of a query

pub at_index : (name : List ℕ) (schema : List Shape) (table : Shape) → table_named name schema ≡ Some table → slice_get schema (table_index name schema) ≡ Some table
at_index name [] table h = absurd cc
at_index name (first ∷ schema) table h = by_test (bytes_eq name first.table) h (at_index name schema table)
  where
    by_test : (b : Bool) → cond b (Some first) (table_named name schema) ≡ Some table → (table_named name schema ≡ Some table → slice_get schema (table_index name schema) ≡ Some table) → slice_get (first ∷ schema) (cond (not b) (1 + table_index name schema) 0) ≡ Some table
    by_test true h again = h
    by_test false h again = let next : 1 + table_index name schema ≡ suc (table_index name schema) = omega arith in rw next (again h)

judged_table : (q : QueryForm) (other table : Shape) (o : Option (List ℕ)) → judged_by_names other q o ≡ fits table → other ≡ table
judged_table q other table (Some name) h = absurd cc
judged_table q other table None h = by_test (is_typed other q) h
  where
    by_test : (b : Bool) → cond b (fits other) mistyped ≡ fits table → other ≡ table
    by_test true e = cc
    by_test false e = absurd cc

pub fits_named : (q : QueryForm) (o : Option Shape) (table : Shape) → judged_over q o ≡ fits table → o ≡ Some table
fits_named q None table h = absurd cc
fits_named q (Some other) table h = ap (λ (t : Shape). Some t) (judged_table q other table (first_unknown (column_kind other) (names_of q)) h)

-- the table that a query fits has its index in the schema
pub fits_at : (q : QueryForm) (schema : List Shape) (table : Shape) → judgement q schema ≡ fits table → slice_get schema (table_index q.table schema) ≡ Some table
fits_at q schema table h = at_index q.table schema table (fits_named q (table_named q.table schema) table h)

some_inj : {X : Type 0} (x y : X) → Some x ≡ Some y → x ≡ y
some_inj x y e = cc

pub same_table : (schema : List Shape) (i : ℕ) (shape table : Shape) → slice_get schema i ≡ Some shape → slice_get schema i ≡ Some table → shape ≡ table
same_table schema i shape table at found = some_inj shape table (sym at ∙ found)

-- the shape at an index of a schema
pub shape_at : (schema : List Shape) (i : ℕ) (shape : Shape) → IsSchema schema → slice_get schema i ≡ Some shape → IsShape shape
shape_at schema i shape lawful at = all-slice_get IsShape schema i shape at lawful.each
