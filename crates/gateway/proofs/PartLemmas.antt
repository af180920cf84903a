-- Rows of a table at some indices, with those columns that are wanted, and the rows that phrases keep.
use Rattle.std.proofs.Common.{◌≡◌, ◌<◌, ◌+◌, ℕ, ℤ, true, false, List, [], ◌∷◌, ◌++◌, length, map, take, refl, sym, ap, ap₂, ◌∙◌, All, Option, Some, None, subst}
use Rattle.std.specs.Prelude.{is_some, slice_get}
use Rattle.std.specs.List.{filter, list_all, list_any}
use Rattle.std.proofs.lemmas.List.{length-map}
use Rattle.std.proofs.lemmas.List.Elements.{All-nil, All-cons, All-head, All-weaker, All-get_or}
use Rattle.std.proofs.lemmas.Option.{slice_get_within, get_or_from_slice_get, slice_get-map}
use Rattle.q_filter.specs.Places.{is_true, places_from}
use Rattle.q_values.specs.Contents.{Contents}
use Rattle.q_values.specs.Kind.{is}
use Rattle.q_values.specs.Lists.{gathered}
use Rattle.q_values.specs.Table.{rows_of}
use Rattle.q_values.specs.Tree.{Tree, vector}
use Rattle.q_values.specs.declared.kind.Kind.{Kind}
use Rattle.q_values.specs.declared.kind.Kind.TheVariants as k
use Rattle.q_values.proofs.ListLemmas.{length-gathered}
use Rattle.day_rows.specs.declared.entry.Entry.{Entry}
use Rattle.day_rows.specs.declared.schema.Shape.{Shape}
use Rattle.qsql_request.specs.Forms.{Form, QueryForm}
use Rattle.qsql_request.specs.Names.{names_in, names_in_columns, names_in_phrases, names_of}
use Rattle.qsql_request.specs.Unbuilt.{is_unbuilt_phrase}
use Rattle.qsql_request.specs.Views.{form, query_of}
use Rattle.qsql_request.specs.declared.request.Expr.{Expr}
use Rattle.qsql_request.specs.declared.request.Query.{Query}
use Rattle.qsql_request.specs.declared.shapes.Shape.TheVariants as s
use Rattle.qsql_values.specs.Frames.{Frame, AreColumns, AreWithin, frame_of, kind_beside, part_at, rows_at}
use Rattle.qsql_values.specs.Kinds.{column_kind, kind_in}
use Rattle.qsql_values.specs.Operands.{HasShape}
use Rattle.qsql_values.specs.Values.{val, truths, rows_where, kept}
use Rattle.qsql_values.proofs.ByRowLemmas.{kept-more}
use Rattle.qsql_values.proofs.FrameLemmas.{AreOfSize, length_frame, length_rows_at}
use Rattle.qsql_values.proofs.KeepingLemmas.{first_rows, next_rows, next_within}
use Rattle.qsql_values.proofs.PlacesLemmas.{columns-gathered, frame-gathered}
use Rattle.qsql_values.proofs.ShapeLemmas.{neither, phrase_shape}
use Rattle.qsql_eval.specs.Judgement.{IsFit, all_columns, first_unknown, is_boolean}
use Rattle.qsql_eval.specs.Meaning.{meaning}
use Rattle.qsql_eval.specs.Views.{needed, has_columns}
use Rattle.qsql_eval.proofs.FitLemmas.{both, kinds_agree, parts_of, All-left, All-right}
use Rattle.gateway.specs.DateRows.{rows_on, columns_on}
use Rattle.gateway.specs.Kept.{IsPhraseOf, column_part, table_names, table_rows_on, part_columns}
use Rattle.gateway.specs.Needs.{is_wanted, chosen, SameColumn, AreSame}
use Rattle.gateway.proofs.ChosenLemmas.{take_next}
use Rattle.gateway.proofs.ColumnLemmas.{date_of_row}
use Rattle.gateway.proofs.FitLemmas.{IsKnown, all_known, even_shape, known_needed, rows_wanted, table_are, table_kinds, unknown_none, wanted_columns, wanted_even, wanted_fit, wanted_rows, are_same}
use Rattle.gateway.proofs.NeedLemmas.{needed_suffice, same_at, same_val}

no : {P : Type 0} → false ≡ true → P
no e = absurd cc

-- ---- columns at some indices

map_none : (columns : List Contents) → map (column_part None) columns ≡ columns
map_none [] = refl
map_none (c ∷ columns) = ap (λ (l : List Contents). c ∷ l) (map_none columns)

within_size : (o : Option (List ℕ)) (n m : ℕ) → n ≡ m → AreWithin n o → AreWithin m o
within_size o n m same within = subst (λ (size : ℕ). AreWithin size o) same within

frame_part : (names : List (List ℕ)) (columns : List Contents) (o : Option (List ℕ)) → AreColumns names columns → AreWithin (rows_of columns) o → frame_of names (map (column_part o) columns) ≡ part_at o (frame_of names columns)
frame_part names columns None are within = ap (frame_of names) (map_none columns)
frame_part names columns (Some places) are within = frame-gathered names columns places are within

-- columns of one length at some indices have one length
pub columns_part : (n : ℕ) (names : List (List ℕ)) (columns : List Contents) (o : Option (List ℕ)) → AreColumns names columns → AreOfSize n columns → AreWithin n o → AreColumns names (map (column_part o) columns)
columns_part n names columns None are even within = subst (AreColumns names) (sym (map_none columns)) are
columns_part n names [] (Some places) are even within = record { named = are.named; even = All-nil (λ (c : Contents). length c.atoms ≡ 0) }
columns_part n names (c ∷ columns) (Some places) are even within =
    columns-gathered names (c ∷ columns) places are (within_size (Some places) n (length c.atoms) (sym (All-head (λ (d : Contents). length d.atoms ≡ n) c columns even)) within)

-- the columns that are wanted at these indices make rows
pub part_made : (dates : List ℕ) (first : ℤ) (entries : List Entry) (index : ℕ) (table : Shape) (needs : List (List ℕ)) (o : Option (List ℕ)) (names : List (List ℕ)) (columns : List Contents) → length table.names ≡ length table.kinds → AreWithin (length (rows_on dates first entries index)) o
    → names ≡ filter (is_wanted needs) (table_names table) → columns ≡ part_columns o needs dates first entries index table → AreColumns names columns
part_made dates first entries index table needs o names columns size within n c =
    let wanted = filter (is_wanted needs) (table_names table) in
    let whole = chosen (is_wanted needs) (table_names table) (columns_on dates first entries index table) in
    subst (λ (ns : List (List ℕ)). AreColumns ns columns) (sym n)
    (subst (AreColumns wanted) (sym c)
    (columns_part (length (rows_on dates first entries index)) wanted whole o (wanted_columns dates first entries index table needs size) (wanted_even dates first entries index table needs) within))

-- ---- they are the rows at these indices

-- the rows at these indices, with the columns that are wanted
abbrev pub part_rows : Option (List ℕ) → List (List ℕ) → List ℕ → ℤ → List Entry → ℕ → Shape → Frame
part_rows o needs dates first entries index table = frame_of (filter (is_wanted needs) (table_names table)) (part_columns o needs dates first entries index table)

part_is : (o : Option (List ℕ)) (needs : List (List ℕ)) (dates : List ℕ) (first : ℤ) (entries : List Entry) (index : ℕ) (table : Shape) → length table.names ≡ length table.kinds → All (IsKnown table) needs → AreWithin (length (rows_on dates first entries index)) o
    → part_rows o needs dates first entries index table ≡ part_at o (wanted_rows dates first entries index table needs)
part_is o needs dates first entries index table size known within =
    frame_part (filter (is_wanted needs) (table_names table)) (chosen (is_wanted needs) (table_names table) (columns_on dates first entries index table)) o
    (wanted_columns dates first entries index table needs size)
    (within_size o (length (rows_on dates first entries index)) _ (sym (rows_wanted dates first entries index table needs known)) within)

same_part : (o : Option (List ℕ)) (f g : Frame) (names : List (List ℕ)) → AreSame f g names → AreWithin (length f.rows) o → AreSame (part_at o f) (part_at o g) names
same_part None f g names same within = same
same_part (Some places) f g names same within = record {
  size = length-gathered f.rows places within ∙ sym (length-gathered g.rows places (subst (λ (n : ℕ). All (λ (p : ℕ). p < n) places) same.size within));
  columns = same_at f g places names same.columns;
}

-- the number of a table's rows
pub length_table : (dates : List ℕ) (first : ℤ) (entries : List Entry) (index : ℕ) (table : Shape) → length table.names ≡ length table.kinds → length (table_rows_on dates first entries index table).rows ≡ length (rows_on dates first entries index)
length_table dates first entries index table size =
    length_frame (table_names table) (columns_on dates first entries index table) (table_are dates first entries index table size) ∙ length-map (rows_on dates first entries index) date_of_row

-- they have the columns that are needed
pub part_same : (o : Option (List ℕ)) (needs : List (List ℕ)) (dates : List ℕ) (first : ℤ) (entries : List Entry) (index : ℕ) (table : Shape) → length table.names ≡ length table.kinds → All (IsKnown table) needs → AreWithin (length (rows_on dates first entries index)) o
    → AreSame (part_at o (table_rows_on dates first entries index table)) (part_rows o needs dates first entries index table) needs
part_same o needs dates first entries index table size known within =
    let f = table_rows_on dates first entries index table in
    subst (λ (h : Frame). AreSame (part_at o f) h needs) (sym (part_is o needs dates first entries index table size known within))
    (same_part o f (wanted_rows dates first entries index table needs) needs (are_same dates first entries index table needs size known)
    (within_size o (length (rows_on dates first entries index)) (length f.rows) (sym (length_table dates first entries index table size)) within))

-- ---- a query over them

part_has : (o : Option (List ℕ)) (table : Shape) (q : QueryForm) (g : Frame) → has_columns table q (part_at o g) ≡ has_columns table q g
part_has None table q g = refl
part_has (Some places) table q g = refl

rows_made : (o : Option (List ℕ)) (dates : List ℕ) (first : ℤ) (entries : List Entry) (index : ℕ) (shape table : Shape) (q : QueryForm) (needs names : List (List ℕ)) (columns : List Contents) → shape ≡ table → needs ≡ needed q table
    → names ≡ filter (is_wanted needs) (table_names shape) → columns ≡ part_columns o needs dates first entries index shape
    → frame_of names columns ≡ part_rows o (needed q table) dates first entries index table
rows_made o dates first entries index shape table q needs names columns same n ns cs =
    ap₂ frame_of ns cs ∙ ap₂ (λ (t : Shape) (wants : List (List ℕ)). part_rows o wants dates first entries index t) same n

-- rows that are made of the columns that a query needs have them
pub rows_fit : (o : Option (List ℕ)) (dates : List ℕ) (first : ℤ) (entries : List Entry) (index : ℕ) (shape table : Shape) (q : QueryForm) (needs names : List (List ℕ)) (columns : List Contents) → shape ≡ table → needs ≡ needed q table
    → names ≡ filter (is_wanted needs) (table_names shape) → columns ≡ part_columns o needs dates first entries index shape
    → length shape.names ≡ length shape.kinds → IsFit table q → AreWithin (length (rows_on dates first entries index)) o → has_columns table q (frame_of names columns) ≡ true
rows_fit o dates first entries index shape table q needs names columns same n ns cs size fit within =
    let even = even_shape shape table same size in
    ap (has_columns table q)
    (rows_made o dates first entries index shape table q needs names columns same n ns cs ∙ part_is o (needed q table) dates first entries index table even (known_needed table q fit even) within)
    ∙ part_has o table q (wanted_rows dates first entries index table (needed q table))
    ∙ wanted_fit dates first entries index table q even fit

-- and the query has its value over them
pub rows_value : (o : Option (List ℕ)) (dates : List ℕ) (first : ℤ) (entries : List Entry) (index : ℕ) (shape table : Shape) (q : QueryForm) (needs names : List (List ℕ)) (columns : List Contents) → shape ≡ table → needs ≡ needed q table
    → names ≡ filter (is_wanted needs) (table_names shape) → columns ≡ part_columns o needs dates first entries index shape
    → length shape.names ≡ length shape.kinds → IsFit table q → AreWithin (length (rows_on dates first entries index)) o
    → meaning (all_columns table) q (frame_of names columns) ≡ meaning (all_columns table) q (part_at o (table_rows_on dates first entries index table))
rows_value o dates first entries index shape table q needs names columns same n ns cs size fit within =
    let even = even_shape shape table same size in
    let part = part_rows o (needed q table) dates first entries index table in
    ap (meaning (all_columns table) q) (rows_made o dates first entries index shape table q needs names columns same n ns cs)
    ∙ sym (needed_suffice table q (part_at o (table_rows_on dates first entries index table)) part (part_same o (needed q table) dates first entries index table even (known_needed table q fit even) within))

-- ---- the phrases of a query

boolean_kind : (kind : Kind) → is kind k.Boolean ≡ true → kind ≡ k.Boolean
boolean_kind k.Boolean h = refl
boolean_kind k.Byte h = no h
boolean_kind k.Short h = no h
boolean_kind k.Integer h = no h
boolean_kind k.Long h = no h
boolean_kind k.Character h = no h
boolean_kind k.Symbol h = no h
boolean_kind k.Timestamp h = no h
boolean_kind k.Month h = no h
boolean_kind k.Date h = no h
boolean_kind k.Timespan h = no h
boolean_kind k.Minute h = no h
boolean_kind k.Second h = no h
boolean_kind k.Time h = no h

boolean_some : (o : Option Kind) → is_boolean o ≡ true → o ≡ Some k.Boolean
boolean_some None h = no h
boolean_some (Some kind) h = ap (λ (x : Kind). Some x) (boolean_kind kind h)

abbrev pub ArePhrases : Shape → List Expr → Type 0
ArePhrases table phrases = All (λ (p : Expr). IsPhraseOf table (form p)) phrases

phrases_are : (table : Shape) (phrases : List Expr) → list_all (λ (p : Form). is_boolean (kind_in (column_kind table) p)) (map form phrases) ≡ true → list_any is_unbuilt_phrase (map form phrases) ≡ false → All (IsKnown table) (names_in_phrases (map form phrases)) → ArePhrases table phrases
phrases_are table [] kinds built known = All-nil (λ (p : Expr). IsPhraseOf table (form p))
phrases_are table (p ∷ phrases) kinds built known =
    let first = both (is_boolean (kind_in (column_kind table) (form p))) (list_all (λ (e : Form). is_boolean (kind_in (column_kind table) e)) (map form phrases)) kinds in
    let second = neither (is_unbuilt_phrase (form p)) (list_any is_unbuilt_phrase (map form phrases)) built in
    All-cons (λ (e : Expr). IsPhraseOf table (form e)) p phrases
    (record {
      kind = boolean_some (kind_in (column_kind table) (form p)) first.0;
      built = second.0;
      known = All-left (IsKnown table) (names_in (form p)) (names_in_phrases (map form phrases)) known;
    })
    (phrases_are table phrases first.1 second.1 (All-right (IsKnown table) (names_in (form p)) (names_in_phrases (map form phrases)) known))

-- those of a query that fits
pub fit_phrases : (table : Shape) (q : Query) → IsFit table (query_of q) → ArePhrases table q.phrases
fit_phrases table q fit =
    let form_of = query_of q in
    let parts = parts_of table form_of fit in
    let known = all_known (column_kind table) (names_of form_of) (unknown_none table form_of (first_unknown (column_kind table) (names_of form_of)) fit) in
    let rest = All-right (IsKnown table) (names_in_columns form_of.columns) (names_in_columns form_of.by ++ names_in_phrases form_of.phrases) known in
    phrases_are table q.phrases parts.phrases parts.built_phrases (All-right (IsKnown table) (names_in_columns form_of.by) (names_in_phrases form_of.phrases) rest)

kind_part : (o : Option (List ℕ)) (f : Frame) (name : List ℕ) → kind_beside (part_at o f) name ≡ kind_beside f name
kind_part None f name = refl
kind_part (Some places) f name = refl

-- rows that are made of the columns that a phrase names
phrase_rows : (o : Option (List ℕ)) (p : Form) (dates : List ℕ) (first : ℤ) (entries : List Entry) (index : ℕ) (table : Shape) (needs names : List (List ℕ)) (columns : List Contents) → needs ≡ names_in p
    → names ≡ filter (is_wanted needs) (table_names table) → columns ≡ part_columns o needs dates first entries index table
    → frame_of names columns ≡ part_rows o (names_in p) dates first entries index table
phrase_rows o p dates first entries index table needs names columns n ns cs =
    ap₂ frame_of ns cs ∙ ap (λ (wants : List (List ℕ)). part_rows o wants dates first entries index table) n

pub phrase_kind : (o : Option (List ℕ)) (p : Form) (dates : List ℕ) (first : ℤ) (entries : List Entry) (index : ℕ) (table : Shape) (needs names : List (List ℕ)) (columns : List Contents) → needs ≡ names_in p
    → names ≡ filter (is_wanted needs) (table_names table) → columns ≡ part_columns o needs dates first entries index table
    → length table.names ≡ length table.kinds → IsPhraseOf table p → AreWithin (length (rows_on dates first entries index)) o → kind_in (kind_beside (frame_of names columns)) p ≡ Some k.Boolean
phrase_kind o p dates first entries index table needs names columns n ns cs size is within =
    let f = table_rows_on dates first entries index table in
    let h = part_rows o (names_in p) dates first entries index table in
    let same = part_same o (names_in p) dates first entries index table size is.known within in
    ap (λ (g : Frame). kind_in (kind_beside g) p) (phrase_rows o p dates first entries index table needs names columns n ns cs)
    ∙ kinds_agree (kind_beside h) (column_kind table) p
    (All-weaker (SameColumn (part_at o f) h) (λ (m : List ℕ). kind_beside h m ≡ column_kind table m) (λ m s. sym s.kind ∙ kind_part o f m ∙ table_kinds dates first entries index table m) (names_in p) same.columns)
    ∙ is.kind

-- the phrase holds at the same of them
pub phrase_truths : (o : Option (List ℕ)) (p : Form) (dates : List ℕ) (first : ℤ) (entries : List Entry) (index : ℕ) (table : Shape) (needs names : List (List ℕ)) (columns : List Contents) → needs ≡ names_in p
    → names ≡ filter (is_wanted needs) (table_names table) → columns ≡ part_columns o needs dates first entries index table
    → length table.names ≡ length table.kinds → IsPhraseOf table p → AreWithin (length (rows_on dates first entries index)) o
    → truths (val (frame_of names columns) p) ≡ truths (val (part_at o (table_rows_on dates first entries index table)) p)
phrase_truths o p dates first entries index table needs names columns n ns cs size is within =
    let f = table_rows_on dates first entries index table in
    let h = part_rows o (names_in p) dates first entries index table in
    let same = part_same o (names_in p) dates first entries index table size is.known within in
    ap (λ (g : Frame). truths (val g p)) (phrase_rows o p dates first entries index table needs names columns n ns cs) ∙ ap truths (sym (same_val (part_at o f) h p same.columns))

-- ---- the rows at which a phrase holds

truths_size : (n : ℕ) (t : Tree) → HasShape n s.Rows t → length (truths t) ≡ n
truths_size n (vector c) h = length-map c.atoms is_true ∙ h
truths_size n t h = absurd h

-- whether it holds is told for each row
pub phrase_size : (table : Shape) (p : Form) (frame : Frame) → IsPhraseOf table p → length (truths (val frame p)) ≡ length frame.rows
phrase_size table p frame is = truths_size (length frame.rows) (val frame p) (phrase_shape frame (column_kind table) p (val frame p) (ap is_some is.kind) is.built refl)

pub first_kept : (table : Shape) (p : Form) (frame : Frame) → IsPhraseOf table p → rows_at (places_from 0 (truths (val frame p))) frame ≡ rows_where p frame
first_kept table p frame is = first_rows frame (truths (val frame p)) (phrase_size table p frame is)

abbrev pub Within : ℕ → List ℕ → Type 0
Within n places = All (λ (i : ℕ). i < n) places

all_places : (dates : List ℕ) (first : ℤ) (entries : List Entry) (index : ℕ) (table : Shape) (places : List ℕ) → Within (length (rows_on dates first entries index)) places → Within (rows_of (columns_on dates first entries index table)) places
all_places dates first entries index table places within = subst (λ (n : ℕ). Within n places) (sym (length-map (rows_on dates first entries index) date_of_row)) within

-- as many rows as indices
pub length_part : (dates : List ℕ) (first : ℤ) (entries : List Entry) (index : ℕ) (table : Shape) (places : List ℕ) → length table.names ≡ length table.kinds → Within (length (rows_on dates first entries index)) places
    → length (rows_at places (table_rows_on dates first entries index table)).rows ≡ length places
length_part dates first entries index table places size within =
    length_rows_at (table_names table) (columns_on dates first entries index table) places (table_are dates first entries index table size) (all_places dates first entries index table places within)

-- of the rows at some indices those at which the phrase holds
pub next_kept : (dates : List ℕ) (first : ℤ) (entries : List Entry) (index : ℕ) (table : Shape) (places : List ℕ) (p : Form) → length table.names ≡ length table.kinds → Within (length (rows_on dates first entries index)) places → IsPhraseOf table p
    → rows_at (gathered places (places_from 0 (truths (val (rows_at places (table_rows_on dates first entries index table)) p)))) (table_rows_on dates first entries index table)
    ≡ rows_where p (rows_at places (table_rows_on dates first entries index table))
next_kept dates first entries index table places p size within is =
    let some = rows_at places (table_rows_on dates first entries index table) in
    next_rows (table_names table) (columns_on dates first entries index table) places (truths (val some p)) (table_are dates first entries index table size) (all_places dates first entries index table places within) (phrase_size table p some is)

pub next_inside : (dates : List ℕ) (first : ℤ) (entries : List Entry) (index : ℕ) (table : Shape) (places : List ℕ) (p : Form) → length table.names ≡ length table.kinds → Within (length (rows_on dates first entries index)) places → IsPhraseOf table p
    → Within (length (rows_on dates first entries index)) (gathered places (places_from 0 (truths (val (rows_at places (table_rows_on dates first entries index table)) p))))
next_inside dates first entries index table places p size within is =
    let some = rows_at places (table_rows_on dates first entries index table) in
    next_within (length (rows_on dates first entries index)) places (truths (val some p)) within (phrase_size table p some is ∙ length_part dates first entries index table places size within)

-- the rows that are made for a phrase are as many as those at these indices
pub phrase_rows_size : (o : Option (List ℕ)) (p : Form) (dates : List ℕ) (first : ℤ) (entries : List Entry) (index : ℕ) (table : Shape) (needs names : List (List ℕ)) (columns : List Contents) → needs ≡ names_in p
    → names ≡ filter (is_wanted needs) (table_names table) → columns ≡ part_columns o needs dates first entries index table
    → length table.names ≡ length table.kinds → IsPhraseOf table p → AreWithin (length (rows_on dates first entries index)) o
    → length (frame_of names columns).rows ≡ length (part_at o (table_rows_on dates first entries index table)).rows
phrase_rows_size o p dates first entries index table needs names columns n ns cs size is within =
    ap (λ (g : Frame). length g.rows) (phrase_rows o p dates first entries index table needs names columns n ns cs) ∙ sym (part_same o (names_in p) dates first entries index table size is.known within).size

-- ---- all phrases

pub phrase_in : (table : Shape) (phrases : List Expr) (i : ℕ) (p : Expr) → ArePhrases table phrases → slice_get phrases i ≡ Some p → IsPhraseOf table (form p)
phrase_in table phrases i p all at =
    subst (λ (e : Expr). IsPhraseOf table (form e)) (get_or_from_slice_get phrases i p p at) (All-get_or (λ (e : Expr). IsPhraseOf table (form e)) phrases i p (slice_get_within phrases i p at) all)

-- one phrase more
pub one_more : (phrases : List Expr) (i : ℕ) (p : Expr) (frame part : Frame) → slice_get phrases i ≡ Some p → part ≡ rows_where (form p) (kept (take i (map form phrases)) frame) → part ≡ kept (take (i + 1) (map form phrases)) frame
one_more phrases i p frame part at is =
    let here : slice_get (map form phrases) i ≡ Some (form p) = slice_get-map form phrases i ∙ rw at refl in
    is ∙ sym (kept-more (take i (map form phrases)) (form p) frame) ∙ ap (λ (fs : List Form). kept fs frame) (sym (take_next (map form phrases) i (form p) here))
