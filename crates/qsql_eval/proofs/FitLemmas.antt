-- What a query that fits its table has, over rows that have its columns.
use Rattle.std.proofs.Common.{◌≡◌, ℕ, ◌==◌, Bool, true, false, cond, not, ◌&&◌, ◌||◌, List, [], ◌∷◌, ◌++◌, length, map, refl, sym, ap, ◌∙◌, All, Option, Some, None, subst, arith}
use Rattle.std.specs.Prelude.{is_some, option_and_then}
use Rattle.std.specs.List.{list_all, list_any}
use Rattle.std.proofs.lemmas.List.Elements.{All-nil, All-cons, All-head, All-tail, All-weaker}
use Rattle.q_values.specs.Kind.{is, type_number, kind_at}
use Rattle.q_values.specs.declared.kind.Kind.{Kind}
use Rattle.q_values.specs.declared.kind.Kind.TheVariants as k
use Rattle.q_verbs.specs.Kinds.{result_kind1_of}
use Rattle.day_rows.specs.declared.schema.Shape.{Shape}
use Rattle.qsql_request.specs.Forms.{Form, constant, column, one, two, ColumnForm, QueryForm}
use Rattle.qsql_request.specs.Names.{names_in, names_in_columns, names_in_phrases, names_of}
use Rattle.qsql_request.specs.Shapes.{shape, is_list}
use Rattle.qsql_request.specs.Unbuilt.{has_unbuilt, is_nameless, is_unbuilt_column, is_unbuilt_phrase, has_unbuilt_parts, has_list, has_not_scalar, has_not_rows, has_wrong_shape, is_wrong_exec, is_unbuilt_query, is_empty}
use Rattle.qsql_request.specs.Views.{form, column_form, query_of}
use Rattle.qsql_request.specs.declared.request.Col.{Col}
use Rattle.qsql_request.specs.declared.request.Expr.{Expr}
use Rattle.qsql_request.specs.declared.request.Query.{Query}
use Rattle.qsql_values.specs.Frames.{Frame, kind_beside}
use Rattle.qsql_values.specs.Kinds.{column_kind, kind_in, kind_of_both, is_within, are_ends}
use Rattle.qsql_eval.specs.Judgement.{Judgement, unknown, mistyped, fits, is_boolean, has_kind, has_kinds, is_typed, all_columns, first_unknown, judged_by_names, IsFit, has_none_left}
use Rattle.qsql_values.specs.Ready.{IsReady}
use Rattle.qsql_eval.specs.Ready.{IsAnswerable}
use Rattle.qsql_values.specs.Values.{kept, rows_where}
use Rattle.qsql_eval.specs.Views.{needed, is_kind, has_column, has_columns}
use Rattle.qsql_eval.proofs.ReadyLemmas.{AreReady, AreFlat}
use Rattle.qsql_values.proofs.ShapeLemmas.{neither}

no : {P : Type 0} → false ≡ true → P
no e = absurd cc

no_again : {P : Type 0} → true ≡ false → P
no_again e = absurd cc

pub both : (a b : Bool) → (a && b) ≡ true → (a ≡ true) × (b ≡ true)
both true b h = (refl, h)
both false b h = no h

pub negated : (b : Bool) → not b ≡ true → b ≡ false
negated true h = no h
negated false h = refl

pub All-left : {X : Type 0} (P : X → Type 0) (xs ys : List X) → All P (xs ++ ys) → All P xs
All-left P [] ys h = All-nil P
All-left P (x ∷ xs) ys h = All-cons P x xs (All-head P x (xs ++ ys) h) (All-left P xs ys (All-tail P x (xs ++ ys) h))

pub All-right : {X : Type 0} (P : X → Type 0) (xs ys : List X) → All P (xs ++ ys) → All P ys
All-right P [] ys h = h
All-right P (x ∷ xs) ys h = All-right P xs ys (All-tail P x (xs ++ ys) h)

-- ---- a query that fits is typed

abbrev is_fit : Judgement → Bool
is_fit (unknown name) = false
is_fit mistyped = false
is_fit (fits table) = true

typed_so : (b : Bool) (table : Shape) → is_fit (cond b (fits table) mistyped) ≡ true → b ≡ true
typed_so true table h = refl
typed_so false table h = no h

typed_by : (table : Shape) (q : QueryForm) (o : Option (List ℕ)) → is_fit (judged_by_names table q o) ≡ true → is_typed table q ≡ true
typed_by table q (Some name) h = no h
typed_by table q None h = typed_so (is_typed table q) table h

pub typed_of : (table : Shape) (q : QueryForm) → IsFit table q → is_typed table q ≡ true
typed_of table q fit = typed_by table q (first_unknown (column_kind table) (names_of q)) (ap is_fit fit)

-- ---- kinds over the table and over rows

abbrev pub Agree : (List ℕ → Option Kind) → (List ℕ → Option Kind) → List (List ℕ) → Type 0
Agree f g names = All (λ (name : List ℕ). f name ≡ g name) names

pub kinds_agree : (f g : List ℕ → Option Kind) (e : Form) → Agree f g (names_in e) → kind_in f e ≡ kind_in g e
kinds_agree f g (constant value) same = refl
kinds_agree f g (column name) same = All-head (λ (n : List ℕ). f n ≡ g n) name [] same
kinds_agree f g (one verb side) same = ap (option_and_then (result_kind1_of verb)) (kinds_agree f g side same)
kinds_agree f g (two verb left right) same =
    let first = kinds_agree f g left (All-left (λ (n : List ℕ). f n ≡ g n) (names_in left) (names_in right) same) in
    let second = kinds_agree f g right (All-right (λ (n : List ℕ). f n ≡ g n) (names_in left) (names_in right) same) in
    ap (λ (o : Option Kind). cond (is_within verb && not (are_ends right)) None (kind_of_both verb o (kind_in f right))) first
    ∙ ap (λ (o : Option Kind). cond (is_within verb && not (are_ends right)) None (kind_of_both verb (kind_in g left) o)) second

pub ready_columns : (frame : Frame) (of : List ℕ → Option Kind) (columns : List Col) → Agree (kind_beside frame) of (names_in_columns (map column_form columns)) → list_all (has_kind of) (map column_form columns) ≡ true → list_any is_unbuilt_column (map column_form columns) ≡ false → AreReady frame columns
ready_columns frame of [] same kinds built = All-nil (λ (c : Col). IsReady frame (form c.expr))
ready_columns frame of (c ∷ columns) same kinds built =
    let rest_names = names_in_columns (map column_form columns) in
    let here = kinds_agree (kind_beside frame) of (form c.expr) (All-left (λ (n : List ℕ). kind_beside frame n ≡ of n) (names_in (form c.expr)) rest_names same) in
    let all_kinds = both (has_kind of (column_form c)) (list_all (has_kind of) (map column_form columns)) kinds in
    let b = neither (is_unbuilt_column (column_form c)) (list_any is_unbuilt_column (map column_form columns)) built in
    let own = neither (has_unbuilt (form c.expr)) (is_nameless (column_form c)) b.0 in
    All-cons (λ (d : Col). IsReady frame (form d.expr)) c columns (record { kind = ap is_some here ∙ all_kinds.0; built = own.0 })
    (ready_columns frame of columns (All-right (λ (n : List ℕ). kind_beside frame n ≡ of n) (names_in (form c.expr)) rest_names same) all_kinds.1 b.1)

boolean_kind : (kind : Kind) → is kind k.Boolean ≡ true → kind ≡ k.Boolean
boolean_kind k.Boolean h = refl
boolean_kind k.Byte h = no h
boolean_kind k.Short h = no h
boolean_kind k.Integer h = no h
boolean_kind k.Long h = no h
boolean_kind k.Character h = no h
boolean_kind k.Symbol h = no h
boolean_kind k.Timestamp h = no h
boolean_kind k.Month h = no h
boolean_kind k.Date h = no h
boolean_kind k.Timespan h = no h
boolean_kind k.Minute h = no h
boolean_kind k.Second h = no h
boolean_kind k.Time h = no h

boolean_some : (o : Option Kind) → is_boolean o ≡ true → o ≡ Some k.Boolean
boolean_some None h = no h
boolean_some (Some kind) h = ap (λ (x : Kind). Some x) (boolean_kind kind h)

pub boolean_phrases : (frame : Frame) (of : List ℕ → Option Kind) (phrases : List Expr) → Agree (kind_beside frame) of (names_in_phrases (map form phrases)) → list_all (λ (p : Form). is_boolean (kind_in of p)) (map form phrases) ≡ true
    → All (λ (p : Expr). kind_in (kind_beside frame) (form p) ≡ Some k.Boolean) phrases
boolean_phrases frame of [] same kinds = All-nil (λ (p : Expr). kind_in (kind_beside frame) (form p) ≡ Some k.Boolean)
boolean_phrases frame of (p ∷ phrases) same kinds =
    let rest_names = names_in_phrases (map form phrases) in
    let here = kinds_agree (kind_beside frame) of (form p) (All-left (λ (n : List ℕ). kind_beside frame n ≡ of n) (names_in (form p)) rest_names same) in
    let all_kinds = both (is_boolean (kind_in of (form p))) (list_all (λ (e : Form). is_boolean (kind_in of e)) (map form phrases)) kinds in
    All-cons (λ (e : Expr). kind_in (kind_beside frame) (form e) ≡ Some k.Boolean) p phrases (here ∙ boolean_some (kind_in of (form p)) all_kinds.0)
    (boolean_phrases frame of phrases (All-right (λ (n : List ℕ). kind_beside frame n ≡ of n) (names_in (form p)) rest_names same) all_kinds.1)

pub built_phrases : (phrases : List Expr) → list_any is_unbuilt_phrase (map form phrases) ≡ false → All (λ (p : Expr). is_unbuilt_phrase (form p) ≡ false) phrases
built_phrases [] h = All-nil (λ (p : Expr). is_unbuilt_phrase (form p) ≡ false)
built_phrases (p ∷ phrases) h =
    let b = neither (is_unbuilt_phrase (form p)) (list_any is_unbuilt_phrase (map form phrases)) h in
    All-cons (λ (e : Expr). is_unbuilt_phrase (form e) ≡ false) p phrases b.0 (built_phrases phrases b.1)

pub flat_columns : (columns : List Col) → has_list (map column_form columns) ≡ false → AreFlat columns
flat_columns [] h = All-nil (λ (c : Col). is_list (shape (form c.expr)) ≡ false)
flat_columns (c ∷ columns) h =
    let b = neither (is_list (shape (form c.expr))) (has_list (map column_form columns)) h in
    All-cons (λ (d : Col). is_list (shape (form d.expr)) ≡ false) c columns b.0 (flat_columns columns b.1)

-- ---- a query that fits can be answered over rows with its columns

-- a kind's number decides the kind
kind_at-type_number : (x : Kind) → kind_at (type_number x) ≡ Some x
kind_at-type_number k.Boolean = refl
kind_at-type_number k.Byte = refl
kind_at-type_number k.Short = refl
kind_at-type_number k.Integer = refl
kind_at-type_number k.Long = refl
kind_at-type_number k.Character = refl
kind_at-type_number k.Symbol = refl
kind_at-type_number k.Timestamp = refl
kind_at-type_number k.Month = refl
kind_at-type_number k.Date = refl
kind_at-type_number k.Timespan = refl
kind_at-type_number k.Minute = refl
kind_at-type_number k.Second = refl
kind_at-type_number k.Time = refl

abbrev some_kind : Kind → Option Kind
some_kind x = Some x

some_is : (x y : Kind) → some_kind x ≡ some_kind y → x ≡ y
some_is x y e = cc

is-same : (x y : Kind) → is x y ≡ true → x ≡ y
is-same x y e = let n : type_number x ≡ type_number y = grind arith in some_is x y (sym (kind_at-type_number x) ∙ ap kind_at n ∙ kind_at-type_number y)

kind_is : (o p : Option Kind) → is_kind o p ≡ true → p ≡ o
kind_is None p h = no h
kind_is (Some x) None h = no h
kind_is (Some x) (Some y) h = ap some_kind (sym (is-same x y h))

kind_there : (o p : Option Kind) → is_kind o p ≡ true → is_some p ≡ true
kind_there None p h = no h
kind_there (Some x) None h = no h
kind_there (Some x) (Some y) h = refl

abbrev pub Has : Shape → Frame → List ℕ → Type 0
Has table frame name = has_column table (kind_beside frame) name ≡ true

pub all_of : {X : Type 0} (test : X → Bool) (xs : List X) → list_all test xs ≡ true → All (λ (x : X). test x ≡ true) xs
all_of {X = X} test [] h = All-nil (λ (x : X). test x ≡ true)
all_of {X = X} test (x ∷ xs) h = let b = both (test x) (list_all test xs) h in All-cons (λ (y : X). test y ≡ true) x xs b.0 (all_of test xs b.1)

pub agree_of : (table : Shape) (frame : Frame) (names : List (List ℕ)) → All (Has table frame) names → Agree (kind_beside frame) (column_kind table) names
agree_of table frame names has = All-weaker (Has table frame) (λ (n : List ℕ). kind_beside frame n ≡ column_kind table n) (λ n h. kind_is (column_kind table n) (kind_beside frame n) h) names has

pub there_of : (table : Shape) (frame : Frame) (names : List (List ℕ)) → All (Has table frame) names → All (λ (n : List ℕ). is_some (kind_beside frame n) ≡ true) names
there_of table frame names has = All-weaker (Has table frame) (λ (n : List ℕ). is_some (kind_beside frame n) ≡ true) (λ n h. kind_there (column_kind table n) (kind_beside frame n) h) names has

-- what is known of a typed query
pub record Parts (table : Shape) (q : QueryForm) : Type 0 where
  pub columns : list_all (has_kind (column_kind table)) q.columns ≡ true
  pub by : list_all (has_kind (column_kind table)) q.by ≡ true
  pub phrases : list_all (λ (p : Form). is_boolean (kind_in (column_kind table) p)) q.phrases ≡ true
  pub built_columns : list_any is_unbuilt_column q.columns ≡ false
  pub built_by : list_any is_unbuilt_column q.by ≡ false
  pub built_phrases : list_any is_unbuilt_phrase q.phrases ≡ false
  pub shape : has_wrong_shape q ≡ false
  pub exec : is_wrong_exec q ≡ false
  pub left : has_none_left table q ≡ false

pub parts_of : (table : Shape) (q : QueryForm) → IsFit table q → Parts table q
parts_of table q fit =
    let typed = both (not (is_unbuilt_query q)) (has_kinds (column_kind table) q && _) (typed_of table q fit) in
    let kinds = both (has_kinds (column_kind table) q) (not (has_none_left table q)) typed.1 in
    let three = both (list_all (has_kind (column_kind table)) q.columns) _ kinds.0 in
    let two_left = both (list_all (has_kind (column_kind table)) q.by) _ three.1 in
    let built = neither (has_unbuilt_parts q) _ (negated (is_unbuilt_query q) typed.0) in
    let shaped = neither (has_wrong_shape q) _ built.1 in
    let execs = neither (is_wrong_exec q) _ shaped.1 in
    let first = neither (list_any is_unbuilt_column q.columns) _ built.0 in
    let second = neither (list_any is_unbuilt_column q.by) _ first.1 in
    record {
      columns = three.0;
      by = two_left.0;
      phrases = two_left.1;
      built_columns = first.0;
      built_by = second.0;
      built_phrases = second.1;
      shape = shaped.0;
      exec = execs.0;
      left = negated (has_none_left table q) kinds.1;
    }

pub none_of : {X : Type 0} (xs : List X) → is_empty xs ≡ true → xs ≡ []
none_of [] h = refl
none_of (x ∷ xs) h = no h

flat_so : (q : Query) → (query_of q).by ≡ [] → has_wrong_shape (query_of q) ≡ false → q.exec ≡ false → has_list (map column_form q.columns) ≡ false
flat_so q none shape select =
    let plain : (not q.exec && has_list (map column_form q.columns)) ≡ false = ap (λ (b : List ColumnForm). cond (is_empty b) (not q.exec && has_list (map column_form q.columns)) (wrong_with b)) (sym none) ∙ shape in
    ap (λ (b : Bool). not b && has_list (map column_form q.columns)) (sym select) ∙ plain
  where
    wrong_with : List ColumnForm → Bool
    wrong_with b = has_not_scalar (map column_form q.columns) || has_not_rows b

pub needed_names : (q : QueryForm) (table : Shape) (P : List ℕ → Type 0) → All P (needed q table) → All P (names_of q)
needed_names q table P h = All-left P (names_of q) _ h

pub needed_all : (q : QueryForm) (table : Shape) (P : List ℕ → Type 0) → q.columns ≡ [] → All P (needed q table) → All P (all_columns table)
needed_all q table P none h = subst (λ (cs : List ColumnForm). All P (cond (is_empty cs) (all_columns table) [])) none (All-right P (names_of q) _ h)

pub fit_answerable : (table : Shape) (q : Query) (frame : Frame) → IsFit table (query_of q) → has_columns table (query_of q) frame ≡ true → is_empty (query_of q).by ≡ true → IsAnswerable frame table q
fit_answerable table q frame fit has_all none =
    let has = all_of (has_column table (kind_beside frame)) (needed (query_of q) table) has_all in
    let parts = parts_of table (query_of q) fit in
    let named = needed_names (query_of q) table (Has table frame) has in
    let own = All-left (Has table frame) (names_in_columns (query_of q).columns) _ named in
    record {
      ready = ready_columns frame (column_kind table) q.columns (agree_of table frame (names_in_columns (query_of q).columns) own) parts.columns parts.built_columns;
      flat = λ select. flat_columns q.columns (flat_so q (none_of (query_of q).by none) parts.shape select);
      every = λ empty. there_of table frame (all_columns table) (needed_all (query_of q) table (Has table frame) (ap (map column_form) empty) has);
    }

pub fit_phrases : (table : Shape) (q : Query) (frame : Frame) → IsFit table (query_of q) → has_columns table (query_of q) frame ≡ true → All (λ (p : Expr). kind_in (kind_beside frame) (form p) ≡ Some k.Boolean) q.phrases
fit_phrases table q frame fit has_all =
    let has = all_of (has_column table (kind_beside frame)) (needed (query_of q) table) has_all in
    let parts = parts_of table (query_of q) fit in
    let named = needed_names (query_of q) table (Has table frame) has in
    let rest = All-right (Has table frame) (names_in_columns (query_of q).columns) _ named in
    let own = All-right (Has table frame) (names_in_columns (query_of q).by) _ rest in
    boolean_phrases frame (column_kind table) q.phrases (agree_of table frame (names_in_phrases (query_of q).phrases) own) parts.phrases

pub fit_built : (table : Shape) (q : Query) → IsFit table (query_of q) → All (λ (p : Expr). is_unbuilt_phrase (form p) ≡ false) q.phrases
fit_built table q fit = let parts = parts_of table (query_of q) fit in built_phrases q.phrases parts.built_phrases

-- ---- the rows that are kept have the same columns

pub kept_kinds : (phrases : List Form) (frame : Frame) → kind_beside (kept phrases frame) ≡ kind_beside frame
kept_kinds [] frame = refl
kept_kinds (p ∷ phrases) frame = kept_kinds phrases (rows_where p frame)

pub kept_answerable : (f g : Frame) (table : Shape) (q : Query) → kind_beside g ≡ kind_beside f → IsAnswerable f table q → IsAnswerable g table q
kept_answerable f g table q same h = record {
  ready = All-weaker (λ (c : Col). IsReady f (form c.expr)) (λ (c : Col). IsReady g (form c.expr)) (λ c r. record { kind = ap (λ (of : List ℕ → Option Kind). is_some (kind_in of (form c.expr))) same ∙ r.kind; built = r.built }) q.columns h.ready;
  flat = h.flat;
  every = λ empty. All-weaker (λ (n : List ℕ). is_some (kind_beside f n) ≡ true) (λ (n : List ℕ). is_some (kind_beside g n) ≡ true) (λ n s. ap (λ (of : List ℕ → Option Kind). is_some (of n)) same ∙ s) (all_columns table) (h.every empty);
}

pub kept_none : (phrases : List Expr) (frame : Frame) → (length phrases == 0) ≡ true → kept (map form phrases) frame ≡ frame
kept_none [] frame none = refl
kept_none (p ∷ phrases) frame none = let zero_long : length (p ∷ phrases) ≡ 0 = grind arith in absurd (omega (arith, zero_long))
