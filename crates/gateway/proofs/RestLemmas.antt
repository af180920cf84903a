-- A query without its phrases, over the rows that they keep.
use Rattle.std.proofs.Common.{◌≡◌, ℕ, ℤ, length, Bool, true, false, cond, not, ◌&&◌, ◌||◌, List, [], ◌∷◌, ◌++◌, refl, sym, ap, ◌∙◌, All, Option, Some, None, subst}
use Rattle.std.specs.Prelude.{is_some}
use Rattle.std.specs.List.{filter, list_all, list_any}
use Rattle.std.proofs.lemmas.List.Elements.{All-nil, All-head, All-tail, All-append}
use Rattle.q_values.specs.Contents.{Contents}
use Rattle.q_values.specs.declared.kind.Kind.{Kind}
use Rattle.day_rows.specs.declared.entry.Entry.{Entry}
use Rattle.day_rows.specs.declared.schema.Shape.{Shape}
use Rattle.qsql_request.specs.Forms.{Form, QueryForm}
use Rattle.qsql_request.specs.Names.{names_in_columns, names_in_phrases, names_of}
use Rattle.qsql_request.specs.Unbuilt.{is_unbuilt_column, is_unbuilt_phrase, has_wrong_shape, is_empty}
use Rattle.qsql_values.specs.Frames.{Frame, AreWithin, frame_of, rows_at}
use Rattle.qsql_values.specs.Kinds.{column_kind, kind_in}
use Rattle.qsql_values.specs.Values.{kept}
use Rattle.qsql_eval.specs.Judgement.{IsFit, all_columns, fits, mistyped, first_unknown, has_kind, has_none_left, is_boolean, is_typed, judged_by_names}
use Rattle.qsql_eval.specs.Meaning.{meaning, value_over_kept}
use Rattle.qsql_eval.specs.Views.{needed}
use Rattle.qsql_eval.proofs.FitLemmas.{All-left, All-right, typed_of}
use Rattle.q_values.specs.Tree.{Grid}
use Rattle.asof_join.specs.Sources.{is_typed_source, IsSource}
use Rattle.gateway.specs.DateRows.{rows_on}
use Rattle.gateway.specs.Kept.{after_phrases, part_columns, table_names, table_rows_on}
use Rattle.gateway.specs.Needs.{is_wanted}
use Rattle.gateway.proofs.FitLemmas.{IsKnown, all_known, unknown_none}
use Rattle.gateway.proofs.PartLemmas.{rows_value}

no : {P : Type 0} → false ≡ true → P
no e = absurd cc

-- ---- it fits its table

-- names that are known are no unknown ones
none_unknown : (columns : List ℕ → Option Kind) (names : List (List ℕ)) → All (λ (n : List ℕ). is_some (columns n) ≡ true) names → first_unknown columns names ≡ None
none_unknown columns [] known = refl
none_unknown columns (name ∷ names) known =
    ap (λ (b : Bool). cond b (first_unknown columns names) (Some name)) (All-head (λ (n : List ℕ). is_some (columns n) ≡ true) name names known)
    ∙ none_unknown columns names (All-tail (λ (n : List ℕ). is_some (columns n) ≡ true) name names known)

known_rest : (table : Shape) (q : QueryForm) → All (IsKnown table) (names_of q) → All (IsKnown table) (names_of (after_phrases q))
known_rest table q known =
    let rest = All-right (IsKnown table) (names_in_columns q.columns) (names_in_columns q.by ++ names_in_phrases q.phrases) known in
    All-append (IsKnown table) (names_in_columns q.columns) (names_in_columns q.by ++ [])
    (All-left (IsKnown table) (names_in_columns q.columns) (names_in_columns q.by ++ names_in_phrases q.phrases) known)
    (All-append (IsKnown table) (names_in_columns q.by) [] (All-left (IsKnown table) (names_in_columns q.by) (names_in_phrases q.phrases) rest) (All-nil (IsKnown table)))

-- a test of parts, of which the phrases are left out
without : (a b p r x y z l : Bool) → (not ((a || (b || p)) || r) && ((x && (y && z)) && not l)) ≡ true → (not ((a || (b || false)) || r) && ((x && (y && true)) && not l)) ≡ true
without true b p r x y z l h = no h
without false true p r x y z l h = no h
without false false true r x y z l h = no h
without false false false true x y z l h = no h
without false false false false false y z l h = no h
without false false false false true false z l h = no h
without false false false false true true false l h = no h
without false false false false true true true l h = h

typed_rest : (table : Shape) (q : QueryForm) → is_typed table q ≡ true → is_typed table (after_phrases q) ≡ true
typed_rest table q typed =
    without (list_any is_unbuilt_column q.columns) (list_any is_unbuilt_column q.by) (list_any is_unbuilt_phrase q.phrases) (has_wrong_shape q || _)
    (list_all (has_kind (column_kind table)) q.columns) (list_all (has_kind (column_kind table)) q.by) (list_all (λ (p : Form). is_boolean (kind_in (column_kind table) p)) q.phrases)
    (has_none_left table q) typed

pub rest_fit : (table : Shape) (q : QueryForm) → IsFit table q → IsFit table (after_phrases q)
rest_fit table q fit =
    let known = all_known (column_kind table) (names_of q) (unknown_none table q (first_unknown (column_kind table) (names_of q)) fit) in
    let rest = after_phrases q in
    let none : first_unknown (column_kind table) (names_of rest) ≡ None = none_unknown (column_kind table) (names_of rest) (known_rest table q known) in
    ap (judged_by_names table rest) none ∙ ap (λ (b : Bool). cond b (fits table) mistyped) (typed_rest table q (typed_of table q fit))

pub made_fit : (table : Shape) (q rest : QueryForm) → rest ≡ after_phrases q → IsFit table q → IsFit table rest
made_fit table q rest is fit = subst (IsFit table) (sym is) (rest_fit table q fit)

-- ---- it has the query's value over the rows that the phrases keep

pub rest_value : (all : List (List ℕ)) (q rest : QueryForm) (frame part : Frame) → rest ≡ after_phrases q → part ≡ kept q.phrases frame → meaning all rest part ≡ meaning all q frame
rest_value all q rest frame part is rows =
    ap (λ (r : QueryForm). meaning all r part) is ∙ ap (value_over_kept all q) rows

-- the rows that phrases keep, with the columns that the query needs beside them, give the query's value
pub kept_rows_value : (places dates : List ℕ) (first : ℤ) (entries : List Entry) (index : ℕ) (other table : Shape) (q rest : QueryForm) (needs names : List (List ℕ)) (columns : List Contents) → other ≡ table → rest ≡ after_phrases q → needs ≡ needed rest other
    → names ≡ filter (is_wanted needs) (table_names table) → columns ≡ part_columns (Some places) needs dates first entries index table
    → length table.names ≡ length table.kinds → IsFit other rest → AreWithin (length (rows_on dates first entries index)) (Some places)
    → rows_at places (table_rows_on dates first entries index table) ≡ kept q.phrases (table_rows_on dates first entries index table)
    → meaning (all_columns other) rest (frame_of names columns) ≡ meaning (all_columns table) q (table_rows_on dates first entries index table)
kept_rows_value places dates first entries index other table q rest needs names columns same is n ns cs size fit within rows =
    rows_value (Some places) dates first entries index table other rest needs names columns (sym same) n ns cs size fit within
    ∙ ap (λ (t : Shape). meaning (all_columns t) rest (rows_at places (table_rows_on dates first entries index t))) same
    ∙ rest_value (all_columns table) q rest (table_rows_on dates first entries index table) (rows_at places (table_rows_on dates first entries index table)) is rows

-- ---- as a side of a join

both_so : (a b c d : Bool) → (c ≡ true → d ≡ true) → (a && (b && c)) ≡ true → (a && (b && d)) ≡ true
both_so true true c d so h = so h
both_so true false c d so h = no h
both_so false b c d so h = no h

pub rest_source : (table : Shape) (q rest : QueryForm) → rest ≡ after_phrases q → is_typed_source table q ≡ true → is_typed_source table rest ≡ true
rest_source table q rest is typed =
    ap (is_typed_source table) is ∙ both_so (not q.exec) (is_empty q.by) (is_typed table q) (is_typed table (after_phrases q)) (typed_rest table q) typed

-- it shows the same columns
same_source : (table : Shape) (q : QueryForm) (grid : Grid) → IsSource table (after_phrases q) grid → IsSource table q grid
same_source table q grid h = record { names = h.names; kinds = h.kinds; even = h.even }

pub source_of_rest : (table : Shape) (q rest : QueryForm) (grid : Grid) → rest ≡ after_phrases q → IsSource table rest grid → IsSource table q grid
source_of_rest table q rest grid is h = same_source table q grid (subst (λ (r : QueryForm). IsSource table r grid) is h)
