-- What a query with `by` that fits its table has, over rows that have its columns.
use Rattle.std.proofs.Common.{◌≡◌, ℕ, ◌<◌, Bool, true, false, cond, not, ◌&&◌, ◌||◌, List, [], ◌∷◌, length, map, refl, sym, ap, ◌∙◌, All, Option, arith}
use Rattle.std.specs.Prelude.{is_some}
use Rattle.std.specs.List.{filter, list_all}
use Rattle.std.proofs.lemmas.List.Elements.{All-nil, All-cons, All-head, All-tail, All-weaker}
use Rattle.q_values.specs.declared.kind.Kind.{Kind}
use Rattle.day_rows.specs.declared.schema.Shape.{Shape}
use Rattle.qsql_request.specs.Forms.{Form, QueryForm}
use Rattle.qsql_request.specs.Names.{names_in_columns}
use Rattle.qsql_request.specs.Shapes.{shape, is_scalar, is_rows}
use Rattle.qsql_request.specs.Unbuilt.{has_list, has_not_scalar, has_not_rows, has_wrong_shape, is_empty, is_one}
use Rattle.qsql_request.specs.Views.{form, column_form, query_of}
use Rattle.qsql_request.specs.declared.request.Col.{Col}
use Rattle.qsql_request.specs.declared.request.Query.{Query}
use Rattle.qsql_values.specs.Frames.{Frame, kind_beside}
use Rattle.qsql_values.specs.Kinds.{column_kind, kind_in}
use Rattle.qsql_values.specs.Ready.{IsReady}
use Rattle.qsql_values.proofs.ShapeLemmas.{neither}
use Rattle.qsql_eval.specs.Judgement.{is_name_of_by, all_columns, IsFit}
use Rattle.qsql_groups.specs.Ready.{IsKey, IsValue}
use Rattle.qsql_eval.specs.Ready.{IsGroupable}
use Rattle.qsql_eval.specs.Views.{needed, has_column, has_columns}
use Rattle.qsql_eval.proofs.FitLemmas.{Has, parts_of, all_of, agree_of, there_of, needed_names, needed_all, ready_columns, All-left, All-right}
use Rattle.qsql_eval.proofs.ReadyLemmas.{AreReady}

no : {P : Type 0} → false ≡ true → P
no e = absurd cc

no_again : {P : Type 0} → true ≡ false → P
no_again e = absurd cc

doubled : (b : Bool) → not b ≡ false → b ≡ true
doubled true h = refl
doubled false h = no_again h

-- ---- shapes

are_keys : (frame : Frame) (columns : List Col) → AreReady frame columns → has_not_rows (map column_form columns) ≡ false → All (λ (c : Col). IsKey frame (form c.expr)) columns
are_keys frame [] ready h = All-nil (λ (c : Col). IsKey frame (form c.expr))
are_keys frame (c ∷ columns) ready h =
    let b = neither (not (is_rows (shape (form c.expr)))) (has_not_rows (map column_form columns)) h in
    All-cons (λ (d : Col). IsKey frame (form d.expr)) c columns (record { ready = All-head (λ (d : Col). IsReady frame (form d.expr)) c columns ready; rows = doubled (is_rows (shape (form c.expr))) b.0 })
    (are_keys frame columns (All-tail (λ (d : Col). IsReady frame (form d.expr)) c columns ready) b.1)

are_values : (frame : Frame) (columns : List Col) → AreReady frame columns → has_not_scalar (map column_form columns) ≡ false → All (λ (c : Col). IsValue frame (form c.expr)) columns
are_values frame [] ready h = All-nil (λ (c : Col). IsValue frame (form c.expr))
are_values frame (c ∷ columns) ready h =
    let b = neither (not (is_scalar (shape (form c.expr)))) (has_not_scalar (map column_form columns)) h in
    All-cons (λ (d : Col). IsValue frame (form d.expr)) c columns (record { ready = All-head (λ (d : Col). IsReady frame (form d.expr)) c columns ready; scalar = doubled (is_scalar (shape (form c.expr))) b.0 })
    (are_values frame columns (All-tail (λ (d : Col). IsReady frame (form d.expr)) c columns ready) b.1)

-- with `by`, columns are scalars and the columns after `by` rows
shaped : (q : QueryForm) → is_empty q.by ≡ false → has_wrong_shape q ≡ false → (has_not_scalar q.columns || has_not_rows q.by) ≡ false
shaped q some h = ap (λ (b : Bool). cond b (not q.exec && has_list q.columns) (has_not_scalar q.columns || has_not_rows q.by)) (sym some) ∙ h

-- ---- numbers of columns

some_columns : (columns : List Col) → is_empty (map column_form columns) ≡ false → 0 < length columns
some_columns [] h = no_again h
some_columns (c ∷ columns) h = omega arith

one_column : (columns : List Col) → is_one (map column_form columns) ≡ true → length columns ≡ 1
one_column [] h = no h
one_column (c ∷ []) h = refl
one_column (c ∷ d ∷ columns) h = no h

exec_ones : (exec some : Bool) (columns by : Bool) (rest : Bool) → exec ≡ true → some ≡ false → (exec && (rest || (not some && not (columns && by)))) ≡ false → (columns ≡ true) × (by ≡ true)
exec_ones true false true true rest p q h = (refl, refl)
exec_ones true false true false true p q h = no_again h
exec_ones true false true false false p q h = no_again h
exec_ones true false false by true p q h = no_again h
exec_ones true false false by false p q h = no_again h
exec_ones true true columns by rest p q h = no_again q
exec_ones false some columns by rest p q h = no p

-- ---- the columns that no column after `by` names

some_left : (test : List ℕ → Bool) (names : List (List ℕ)) → list_all test names ≡ false → 0 < length (filter (λ (n : List ℕ). not (test n)) names)
some_left test [] h = no_again h
some_left test (name ∷ names) h = by_test (λ p. some_left test names p) (test name) h
  where
    by_test : (list_all test names ≡ false → 0 < length (filter (λ (n : List ℕ). not (test n)) names)) → (b : Bool) → (b && list_all test names) ≡ false → 0 < length (cond (not b) (name ∷ filter (λ (n : List ℕ). not (test n)) names) (filter (λ (n : List ℕ). not (test n)) names))
    by_test rest true p = rest p
    by_test rest false p = omega arith

left_over : (exec : Bool) (columns by : Bool) (all : Bool) → exec ≡ false → columns ≡ true → by ≡ false → (not exec && (columns && (not by && all))) ≡ false → all ≡ false
left_over false true false all p q r h = h
left_over false true true all p q r h = no_again r
left_over false false by all p q r h = no q
left_over true columns by all p q r h = no_again p

empty_columns : (columns : List Col) → columns ≡ [] → is_empty (map column_form columns) ≡ true
empty_columns columns none = ap (λ (cs : List Col). is_empty (map column_form cs)) none

-- ---- a query with `by` that fits

pub fit_groupable : (table : Shape) (q : Query) (frame : Frame) → IsFit table (query_of q) → has_columns table (query_of q) frame ≡ true → is_empty (query_of q).by ≡ false → IsGroupable frame table q
fit_groupable table q frame fit has_all some =
    let has = all_of (has_column table (kind_beside frame)) (needed (query_of q) table) has_all in
    let parts = parts_of table (query_of q) fit in
    let named = needed_names (query_of q) table (Has table frame) has in
    let own = All-left (Has table frame) (names_in_columns (query_of q).columns) _ named in
    let rest = All-right (Has table frame) (names_in_columns (query_of q).columns) _ named in
    let after = All-left (Has table frame) (names_in_columns (query_of q).by) _ rest in
    let shapes = neither (has_not_scalar (query_of q).columns) (has_not_rows (query_of q).by) (shaped (query_of q) some parts.shape) in
    record {
      some = some_columns q.by some;
      keys = are_keys frame q.by (ready_columns frame (column_kind table) q.by (agree_of table frame (names_in_columns (query_of q).by) after) parts.by parts.built_by) shapes.1;
      values = are_values frame q.columns (ready_columns frame (column_kind table) q.columns (agree_of table frame (names_in_columns (query_of q).columns) own) parts.columns parts.built_columns) shapes.0;
      pair = λ exec. let ones = exec_ones q.exec (is_empty (query_of q).by) (is_one (query_of q).columns) (is_one (query_of q).by) (is_empty (query_of q).columns) exec some parts.exec in (one_column q.by ones.1, one_column q.columns ones.0);
      every = λ select empty. there_of table frame (all_columns table) (needed_all (query_of q) table (Has table frame) (ap (map column_form) empty) has);
      left = λ select empty. some_left (is_name_of_by (query_of q)) (all_columns table) (left_over q.exec (is_empty (query_of q).columns) (is_empty (query_of q).by) (list_all (is_name_of_by (query_of q)) (all_columns table)) select (empty_columns q.columns empty) some parts.left);
    }

-- the rows that are kept have the same columns
pub kept_groupable : (f g : Frame) (table : Shape) (q : Query) → kind_beside g ≡ kind_beside f → IsGroupable f table q → IsGroupable g table q
kept_groupable f g table q same h = record {
  some = h.some;
  keys = All-weaker (λ (c : Col). IsKey f (form c.expr)) (λ (c : Col). IsKey g (form c.expr)) (λ c k. record { ready = again (form c.expr) k.ready; rows = k.rows }) q.by h.keys;
  values = All-weaker (λ (c : Col). IsValue f (form c.expr)) (λ (c : Col). IsValue g (form c.expr)) (λ c v. record { ready = again (form c.expr) v.ready; scalar = v.scalar }) q.columns h.values;
  pair = h.pair;
  every = λ select empty. All-weaker (λ (n : List ℕ). is_some (kind_beside f n) ≡ true) (λ (n : List ℕ). is_some (kind_beside g n) ≡ true) (λ n s. ap (λ (of : List ℕ → Option Kind). is_some (of n)) same ∙ s) (all_columns table) (h.every select empty);
  left = h.left;
}
  where
    again : (e : Form) → IsReady f e → IsReady g e
    again e r = record { kind = ap (λ (of : List ℕ → Option Kind). is_some (kind_in of e)) same ∙ r.kind; built = r.built }
