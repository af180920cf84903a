-- The rows of the dates that phrases keep are those of all dates that are kept by their date.
use Rattle.std.proofs.Common.{◌≡◌, ◌<◌, ◌≤◌, ◌+◌, ℕ, zero, suc, ℤ, Bool, true, false, cond, List, [], ◌∷◌, ◌++◌, length, map, take, replicate, get_or, refl, sym, ap, ap₂, ◌∙◌, All, arith, subst}
use Rattle.std.specs.Prelude.{codes, pos}
use Rattle.std.specs.List.{filter, flat_map, range_with_len}
use Rattle.std.specs.Simd.Lanes.{zip2}
use Rattle.std.proofs.lemmas.List.{append-nil, map-append, length-map, length-replicate, take_more, take_all}
use Rattle.std.proofs.lemmas.List.Concat.{flat_map-append}
use Rattle.std.proofs.lemmas.List.Elements.{All-nil, All-cons, All-append, filter-append}
use Rattle.std.proofs.lemmas.Simd.{map-map}
use Rattle.day_rows.specs.Chronicle.{view, DatesAscend}
use Rattle.day_rows.specs.Rows.{Row, column_of, field}
use Rattle.day_rows.specs.declared.entry.Entry.{Entry}
use Rattle.day_rows.specs.declared.schema.Shape.{Shape}
use Rattle.plant_memory.specs.Chronicle.{dates_of, date_at, on_date, rows_at}
use Rattle.plant_memory.proofs.ItemsLemmas.{map-replicate}
use Rattle.plant_memory.proofs.LawLemmas.{view-by_dates}
use Rattle.q_values.specs.Contents.{Contents}
use Rattle.q_values.specs.declared.atom.Atom.{Atom}
use Rattle.q_values.specs.declared.atom.Atom.TheVariants as a
use Rattle.q_values.specs.declared.kind.Kind.{Kind}
use Rattle.q_values.specs.declared.kind.Kind.TheVariants as k
use Rattle.q_values.specs.Tree.{Tree}
use Rattle.qsql_request.specs.Forms.{Form, QueryForm, AjForm, RequestForm, query_form, aj_form, count_form, day_form, sub_form}
use Rattle.qsql_parse.specs.Verdicts.{Verdict, asks, too_much, no_request, not_built}
use Rattle.qsql_values.specs.ByRow.{frame_where}
use Rattle.qsql_values.specs.Frames.{frame_of, rows_beside, column_in}
use Rattle.qsql_values.specs.Values.{selected}
use Rattle.qsql_values.proofs.FrameLemmas.{AreOfSize, column-read}
use Rattle.qsql_values.proofs.PlacesLemmas.{selected-zip}
use Rattle.qsql_dates.specs.Dates.{date_column, keeps}
use Rattle.qsql_dates.proofs.DateLemmas.{kept-dates}
use Rattle.qsql_eval.specs.Judgement.{Judgement, unknown, mistyped, fits, judgement, all_columns}
use Rattle.qsql_eval.specs.Meaning.{meaning, value_over_kept}
use Rattle.asof_join.specs.Judged as j
use Rattle.asof_join.specs.Judged.{AjJudgement, aj_judgement}
use Rattle.asof_join.specs.Sources.{query_of_source}
use Rattle.gateway.specs.Answer.{table_index, query_value, joined, query_answer, join_answer, request_answer, answer_by, verdict_answer, kept_answer}
use Rattle.gateway.specs.Answer as answers
use Rattle.gateway.specs.DateRows.{kept_dates, rows_on, columns_on}
use Rattle.gateway.specs.TableRows.{dates_of_rows, numbers_on, columns_from, every_date, table_rows, kept_rows}
use Rattle.gateway.proofs.ChosenLemmas.{even-columns_from}
use Rattle.gateway.proofs.ColumnLemmas.{date_of_row, parts_at, numbers_at, rows_dated, range_more, length-numbers_to, length-numbers_on}
use Rattle.gateway.specs.Kept.{table_names, table_rows_on}
use Rattle.gateway.proofs.NeedLemmas.{selected-map}

-- ---- lists of which whole parts are kept

selected-append : {X : Type 0} (flags more : List Bool) (xs ys : List X) → length flags ≡ length xs → selected (flags ++ more) (xs ++ ys) ≡ selected flags xs ++ selected more ys
selected-append [] more [] ys size = refl
selected-append [] more (x ∷ xs) ys size = absurd (omega (arith, size))
selected-append (b ∷ flags) more [] ys size = absurd (omega (arith, size))
selected-append (true ∷ flags) more (x ∷ xs) ys size = ap (λ l. x ∷ l) (selected-append flags more xs ys (omega (arith, size)))
selected-append (false ∷ flags) more (x ∷ xs) ys size = selected-append flags more xs ys (omega (arith, size))

-- all or nothing
selected-replicate : {X : Type 0} (b : Bool) (xs : List X) → selected (replicate (length xs) b) xs ≡ cond b xs []
selected-replicate true [] = refl
selected-replicate false [] = refl
selected-replicate true (x ∷ xs) = ap (λ l. x ∷ l) (selected-replicate true xs)
selected-replicate false (x ∷ xs) = selected-replicate false xs

-- of lists that are kept or left out as a whole, those that are kept
selected-parts : {R X : Type 0} (rows : ℕ → List R) (items : ℕ → List X) (is_kept : ℕ → Bool) (test : R → Bool) → ((k : ℕ) → map test (rows k) ≡ replicate (length (items k)) (is_kept k)) → (ks : List ℕ)
    → selected (map test (flat_map rows ks)) (flat_map items ks) ≡ flat_map items (filter is_kept ks)
selected-parts rows items is_kept test whole [] = refl
selected-parts {X = X} rows items is_kept test whole (k ∷ ks) =
    ap (λ fs. selected fs (items k ++ flat_map items ks)) (map-append test (rows k) (flat_map rows ks) ∙ ap (λ l. l ++ map test (flat_map rows ks)) (whole k))
    ∙ selected-append (replicate (length (items k)) (is_kept k)) (map test (flat_map rows ks)) (items k) (flat_map items ks) (length-replicate (length (items k)) (is_kept k))
    ∙ ap₂ (λ (l m : List X). l ++ m) (selected-replicate (is_kept k) (items k)) (selected-parts rows items is_kept test whole ks)
    ∙ by_test (is_kept k)
  where
    by_test : (b : Bool) → cond b (items k) [] ++ flat_map items (filter is_kept ks) ≡ flat_map items (cond b (k ∷ filter is_kept ks) (filter is_kept ks))
    by_test true = refl
    by_test false = refl

-- one for each that is kept
replicate-selected : {X Y : Type 0} (flags : List Bool) (xs : List X) (y : Y) → replicate (length (selected flags xs)) y ≡ selected flags (replicate (length xs) y)
replicate-selected [] xs y = refl
replicate-selected (b ∷ flags) [] y = refl
replicate-selected (true ∷ flags) (x ∷ xs) y = ap (λ l. y ∷ l) (replicate-selected flags xs y)
replicate-selected (false ∷ flags) (x ∷ xs) y = replicate-selected flags xs y

-- ---- the rows of all dates

-- the rows on the first n dates
until : (first : ℤ) (entries : List Entry) (table n : ℕ) → n ≤ length (dates_of first entries) → rows_on (range_with_len 0 n) first entries table ≡ flat_map (λ (d : ℤ). on_date d (view first entries table)) (take n (dates_of first entries))
until first entries table zero within = refl
until first entries table (suc n) within =
    let f : ℤ → List Row = λ d. on_date d (view first entries table) in
    let dates = dates_of first entries in
    let next : n + 1 ≡ suc n = omega arith in
    let here : n < length dates = omega arith in
    let last : rows_on (range_with_len 0 (n + 1)) first entries table ≡ rows_on (range_with_len 0 n) first entries table ++ rows_at first entries n table =
    ap (flat_map (parts_at first entries table)) (range_more n) ∙ flat_map-append (parts_at first entries table) (range_with_len 0 n) (n ∷ []) ∙ ap (λ l. rows_on (range_with_len 0 n) first entries table ++ l) (append-nil (rows_at first entries n table)) in
    let more : flat_map f (take (n + 1) dates) ≡ flat_map f (take n dates) ++ rows_at first entries n table =
    ap (flat_map f) (take_more dates n first here) ∙ flat_map-append f (take n dates) (get_or dates n first ∷ []) ∙ ap (λ l. flat_map f (take n dates) ++ l) (append-nil (f (get_or dates n first))) in
    subst (λ (m : ℕ). rows_on (range_with_len 0 m) first entries table ≡ flat_map f (take m dates)) next
    (last ∙ ap (λ l. l ++ rows_at first entries n table) (until first entries table n (omega arith)) ∙ sym more)

every_row : (first : ℤ) (entries : List Entry) (table : ℕ) → DatesAscend first entries → rows_on (every_date first entries) first entries table ≡ view first entries table
every_row first entries table ascend =
    let dates = dates_of first entries in
    let whole : take (length dates) dates ≡ dates = take_all (length dates) dates (omega arith) in
    until first entries table (length dates) (omega arith) ∙ ap (flat_map (λ (d : ℤ). on_date d (view first entries table))) whole ∙ sym (view-by_dates first table entries ascend)

-- ---- the rows that are kept

abbrev is_kept_row : List Form → Row → Bool
is_kept_row phrases row = keeps phrases row.date

abbrev is_kept_date : List Form → ℤ → List Entry → ℕ → Bool
is_kept_date phrases first entries k = keeps phrases (date_at first entries k)

abbrev date_in : Atom → ℤ
date_in (a.Date d) = d
date_in _ = pos 0

-- the rows of a date are kept or left out together
whole_date : (phrases : List Form) (first : ℤ) (entries : List Entry) (table k : ℕ) → map (is_kept_row phrases) (rows_at first entries k table) ≡ replicate (length (rows_at first entries k table)) (is_kept_date phrases first entries k)
whole_date phrases first entries table k =
    sym (map-map (λ (x : Atom). keeps phrases (date_in x)) date_of_row (rows_at first entries k table))
    ∙ ap (map (λ (x : Atom). keeps phrases (date_in x))) (rows_dated first entries table k)
    ∙ map-replicate (λ (x : Atom). keeps phrases (date_in x)) (length (rows_at first entries k table)) (a.Date (date_at first entries k))

abbrev flags_of : List Form → ℤ → List Entry → ℕ → List Bool
flags_of phrases first entries table = map (is_kept_row phrases) (view first entries table)

rows_kept : (phrases : List Form) (first : ℤ) (entries : List Entry) (table : ℕ) → DatesAscend first entries → rows_on (kept_dates phrases first entries) first entries table ≡ selected (flags_of phrases first entries table) (view first entries table)
rows_kept phrases first entries table ascend =
    sym (selected-parts (parts_at first entries table) (parts_at first entries table) (is_kept_date phrases first entries) (is_kept_row phrases) (whole_date phrases first entries table) (every_date first entries))
    ∙ ap (λ (rows : List Row). selected (map (is_kept_row phrases) rows) rows) (every_row first entries table ascend)

numbers_kept : (phrases : List Form) (first : ℤ) (entries : List Entry) (table : ℕ) → DatesAscend first entries
    → (numbers_on (kept_dates phrases first entries) first entries table).atoms ≡ selected (flags_of phrases first entries table) (numbers_on (every_date first entries) first entries table).atoms
numbers_kept phrases first entries table ascend =
    let numbered : (k : ℕ) → map (is_kept_row phrases) (rows_at first entries k table) ≡ replicate (length (numbers_at first entries table k)) (is_kept_date phrases first entries k) =
    λ k. whole_date phrases first entries table k ∙ ap (λ (n : ℕ). replicate n (is_kept_date phrases first entries k)) (sym (length-numbers_to (length (rows_at first entries k table)))) in
    sym (selected-parts (parts_at first entries table) (numbers_at first entries table) (is_kept_date phrases first entries) (is_kept_row phrases) numbered (every_date first entries))
    ∙ ap (λ (rows : List Row). selected (map (is_kept_row phrases) rows) (numbers_on (every_date first entries) first entries table).atoms) (every_row first entries table ascend)

-- ---- the columns that are kept

abbrev where_true : List Bool → Contents → Contents
where_true flags c = record c { atoms = selected flags c.atoms }

column_kept : (flags : List Bool) (kind : Kind) (place : ℕ) (rows kept : List Row) → kept ≡ selected flags rows → column_of kind place kept ≡ where_true flags (column_of kind place rows)
column_kept flags kind place rows kept e = ap (column_of kind place) e ∙ ap (λ (l : List Atom). record { kind = kind; atoms = l }) (selected-map (field place) flags rows)

columns_kept : (flags : List Bool) (place : ℕ) (kinds : List Kind) (rows kept : List Row) → kept ≡ selected flags rows → columns_from place kinds kept ≡ map (where_true flags) (columns_from place kinds rows)
columns_kept flags place [] rows kept e = refl
columns_kept flags place (kind ∷ kinds) rows kept e = ap₂ (λ (c : Contents) (cs : List Contents). c ∷ cs) (column_kept flags kind place rows kept e) (columns_kept flags (place + 1) kinds rows kept e)

dates_kept : (flags : List Bool) (rows kept : List Row) → kept ≡ selected flags rows → dates_of_rows kept ≡ where_true flags (dates_of_rows rows)
dates_kept flags rows kept e = ap dates_of_rows e ∙ ap (λ (l : List Atom). record { kind = k.Date; atoms = l }) (selected-map date_of_row flags rows)

-- all columns of a table
abbrev table_columns : ℤ → List Entry → ℕ → Shape → List Contents
table_columns first entries index table =
    dates_of_rows (view first entries index) ∷ numbers_on (every_date first entries) first entries index ∷ columns_from 0 table.kinds (view first entries index)

all_kept : (phrases : List Form) (first : ℤ) (entries : List Entry) (index : ℕ) (table : Shape) → DatesAscend first entries
    → columns_on (kept_dates phrases first entries) first entries index table ≡ map (where_true (flags_of phrases first entries index)) (table_columns first entries index table)
all_kept phrases first entries index table ascend =
    let flags = flags_of phrases first entries index in
    let rows = view first entries index in
    let kept = rows_on (kept_dates phrases first entries) first entries index in
    let is : kept ≡ selected flags rows = rows_kept phrases first entries index ascend in
    let numbers : numbers_on (kept_dates phrases first entries) first entries index ≡ where_true flags (numbers_on (every_date first entries) first entries index) =
    ap (λ (l : List Atom). record { kind = k.Long; atoms = l }) (numbers_kept phrases first entries index ascend) in
    ap₂ (λ (c : Contents) (cs : List Contents). c ∷ cs) (dates_kept flags rows kept is)
    (ap₂ (λ (c : Contents) (cs : List Contents). c ∷ cs) numbers (columns_kept flags 0 table.kinds rows kept is))

-- ---- their rows

rows-where : (flags : List Bool) (m n : ℕ) (columns : List Contents) → replicate m [] ≡ selected {X = List Atom} flags (replicate n []) → rows_beside m (map (where_true flags) columns) ≡ selected flags (rows_beside n columns)
rows-where flags m n [] ends = ends
rows-where flags m n (c ∷ columns) ends =
    ap (zip2 (λ (x : Atom) (row : List Atom). x ∷ row) (selected flags c.atoms)) (rows-where flags m n columns ends)
    ∙ selected-zip (λ (x : Atom) (row : List Atom). x ∷ row) flags c.atoms (rows_beside n columns)

kinds-where : (flags : List Bool) (columns : List Contents) → map (λ (c : Contents). c.kind) (map (where_true flags) columns) ≡ map (λ (c : Contents). c.kind) columns
kinds-where flags [] = refl
kinds-where flags (c ∷ columns) = ap (λ (ks : List Kind). c.kind ∷ ks) (kinds-where flags columns)

frame-where : (names : List (List ℕ)) (flags : List Bool) (c : Contents) (columns : List Contents) → frame_of names (map (where_true flags) (c ∷ columns)) ≡ frame_where flags (frame_of names (c ∷ columns))
frame-where names flags c columns =
    ap₂ (λ (ks : List Kind) (rs : List (List Atom)). record { names = names; kinds = ks; rows = rs }) (kinds-where flags (c ∷ columns))
    (rows-where flags (length (selected flags c.atoms)) (length c.atoms) (c ∷ columns) (replicate-selected flags c.atoms []))

-- the rows of the dates that are kept
table_kept : (phrases : List Form) (first : ℤ) (entries : List Entry) (index : ℕ) (table : Shape) → DatesAscend first entries
    → table_rows_on (kept_dates phrases first entries) first entries index table ≡ kept_rows phrases first entries index table
table_kept phrases first entries index table ascend =
    let rows = view first entries index in
    ap (frame_of (table_names table)) (all_kept phrases first entries index table ascend)
    ∙ frame-where (table_names table) (flags_of phrases first entries index) (dates_of_rows rows) (numbers_on (every_date first entries) first entries index ∷ columns_from 0 table.kinds rows)

-- ---- the value over them

size_numbers : (first : ℤ) (entries : List Entry) (index : ℕ) → DatesAscend first entries → length (numbers_on (every_date first entries) first entries index).atoms ≡ length (view first entries index)
size_numbers first entries index ascend = length-numbers_on (every_date first entries) first entries index ∙ ap length (every_row first entries index ascend)

table_even : (first : ℤ) (entries : List Entry) (index : ℕ) (table : Shape) → DatesAscend first entries → AreOfSize (length (dates_of_rows (view first entries index)).atoms) (table_columns first entries index table)
table_even first entries index table ascend =
    let rows = view first entries index in
    let n = length (map date_of_row rows) in
    let size : n ≡ length rows = length-map rows date_of_row in
    let P : Contents → Type 0 = λ c. length c.atoms ≡ n in
    All-cons P (dates_of_rows rows) (numbers_on (every_date first entries) first entries index ∷ columns_from 0 table.kinds rows) refl
    (All-cons P (numbers_on (every_date first entries) first entries index) (columns_from 0 table.kinds rows) (size_numbers first entries index ascend ∙ sym size)
    (even-columns_from n 0 table.kinds rows (sym size)))

-- the column `date` is that of the rows' dates
dates_read : (first : ℤ) (entries : List Entry) (index : ℕ) (table : Shape) → DatesAscend first entries → column_in (table_rows first entries index table) (codes "date") ≡ date_column (map (λ (row : Row). row.date) (view first entries index))
dates_read first entries index table ascend =
    let rows = view first entries index in
    ap (λ (l : List Atom). record { kind = k.Date; atoms = l })
    (column-read (codes "date") (table_names table) (length (map date_of_row rows)) (table_columns first entries index table) (dates_of_rows rows) (table_even first entries index table ascend) refl
    ∙ sym (map-map (λ (d : ℤ). a.Date d) (λ (row : Row). row.date) rows))

-- a date that isn't kept has no part in the value of a query
pub kept_value : (all : List (List ℕ)) (q : QueryForm) (first : ℤ) (entries : List Entry) (index : ℕ) (table : Shape) → DatesAscend first entries → meaning all q (kept_rows q.phrases first entries index table) ≡ meaning all q (table_rows first entries index table)
kept_value all q first entries index table ascend =
    let rows = view first entries index in
    let frame = table_rows first entries index table in
    let dates = map (λ (row : Row). row.date) rows in
    ap (λ (fs : List Bool). meaning all q (frame_where fs frame)) (sym (map-map (keeps q.phrases) (λ (row : Row). row.date) rows))
    ∙ ap (value_over_kept all q) (kept-dates q.phrases frame dates (dates_read first entries index table ascend))

-- the rows of the dates that a query keeps give its value
pub read_value : (all : List (List ℕ)) (q : QueryForm) (first : ℤ) (entries : List Entry) (index : ℕ) (table : Shape) (dates : List ℕ) → DatesAscend first entries → dates ≡ kept_dates q.phrases first entries
    → meaning all q (table_rows_on dates first entries index table) ≡ meaning all q (table_rows first entries index table)
read_value all q first entries index table dates ascend is =
    ap (λ (ds : List ℕ). meaning all q (table_rows_on ds first entries index table)) is
    ∙ ap (meaning all q) (table_kept q.phrases first entries index table ascend)
    ∙ kept_value all q first entries index table ascend

-- ---- the dates that are kept

pub kept_next : (phrases : List Form) (first : ℤ) (entries : List Entry) (n : ℕ) (date : ℤ) (dates new : List ℕ) (b : Bool) → dates ≡ filter (is_kept_date phrases first entries) (range_with_len 0 n) → date ≡ date_at first entries n → b ≡ keeps phrases date
    → new ≡ dates ++ cond b (n ∷ []) [] → new ≡ filter (is_kept_date phrases first entries) (range_with_len 0 (n + 1))
kept_next phrases first entries n date dates new b so_far is kept e =
    e ∙ ap₂ (λ (l : List ℕ) (c : Bool). l ++ cond c (n ∷ []) []) so_far (kept ∙ ap (keeps phrases) is)
    ∙ sym (filter-append (is_kept_date phrases first entries) (range_with_len 0 n) (n ∷ []))
    ∙ ap (filter (is_kept_date phrases first entries)) (sym (range_more n))

pub within_next : (count k : ℕ) (dates new : List ℕ) (b : Bool) → All (λ (x : ℕ). x < count) dates → k < count → new ≡ dates ++ cond b (k ∷ []) [] → All (λ (x : ℕ). x < count) new
within_next count k dates new true all here e = subst (All (λ (x : ℕ). x < count)) (sym e) (All-append (λ (x : ℕ). x < count) dates (k ∷ []) all (All-cons (λ (x : ℕ). x < count) k [] here (All-nil (λ (x : ℕ). x < count))))
within_next count k dates new false all here e = subst (All (λ (x : ℕ). x < count)) (sym (e ∙ append-nil dates)) all

pub kept_all : (phrases : List Form) (first : ℤ) (entries : List Entry) (n : ℕ) → n ≡ length (dates_of first entries) → filter (λ (k : ℕ). keeps phrases (date_at first entries k)) (range_with_len 0 n) ≡ kept_dates phrases first entries
kept_all phrases first entries n all = ap (λ (m : ℕ). filter (λ (k : ℕ). keeps phrases (date_at first entries k)) (range_with_len 0 m)) all

-- ---- answers

-- queries that have the same values make the same answers
by_judgement : (q : QueryForm) (f g : QueryForm → Shape → Tree) → ((p : QueryForm) (s : Shape) → f p s ≡ g p s) → (o : Judgement) → query_answer f q o ≡ query_answer g q o
by_judgement q f g same (unknown name) = refl
by_judgement q f g same mistyped = refl
by_judgement q f g same (fits shape) = same q shape

by_join : (q : AjForm) (f g : QueryForm → Shape → Tree) → ((p : QueryForm) (s : Shape) → f p s ≡ g p s) → (o : AjJudgement) → join_answer f q o ≡ join_answer g q o
by_join q f g same (j.unknown name) = refl
by_join q f g same j.clash = refl
by_join q f g same j.mistyped = refl
by_join q f g same (j.joins left right) = ap₂ (joined q.keys) (same (query_of_source q.left) left) (same (query_of_source q.right) right)

by_request : (first : ℤ) (schema : List Shape) (entries : List Entry) (f g : QueryForm → Shape → Tree) → ((p : QueryForm) (s : Shape) → f p s ≡ g p s) → (r : RequestForm) → request_answer f first schema entries r ≡ request_answer g first schema entries r
by_request first schema entries f g same (query_form q) = by_judgement q f g same (judgement q schema)
by_request first schema entries f g same (aj_form q) = by_join q f g same (aj_judgement q schema)
by_request first schema entries f g same count_form = refl
by_request first schema entries f g same day_form = refl
by_request first schema entries f g same (sub_form s) = refl

by_verdict : (first : ℤ) (schema : List Shape) (entries : List Entry) (f g : QueryForm → Shape → Tree) → ((p : QueryForm) (s : Shape) → f p s ≡ g p s) → (v : Verdict) → answer_by f first schema entries v ≡ answer_by g first schema entries v
by_verdict first schema entries f g same (asks request) = by_request first schema entries f g same request
by_verdict first schema entries f g same too_much = refl
by_verdict first schema entries f g same (no_request at) = refl
by_verdict first schema entries f g same not_built = refl

-- a date that isn't kept has no part in an answer
pub kept_answered : (first : ℤ) (schema : List Shape) (entries : List Entry) (v : Verdict) → DatesAscend first entries → verdict_answer first schema entries v ≡ kept_answer first schema entries v
kept_answered first schema entries v ascend =
    by_verdict first schema entries (query_value first schema entries) (answers.kept_value first schema entries)
    (λ q shape. sym (kept_value (all_columns shape) q first entries (table_index q.table schema) shape ascend)) v
