-- The shapes in requests that are built, part by part.
use Rattle.std.proofs.Common.{◌≡◌, ◌||◌, ◌&&◌, Bool, true, false, if◌then◌else◌, not, List, [], ◌∷◌, All, refl, sym, ap, ◌∙◌}
use Rattle.std.specs.List.{list_any}
use Rattle.std.proofs.lemmas.List.Elements.{All-nil, All-cons, All-head, All-tail}
use Rattle.qsql_request.specs.Forms.{Form, constant, column, one, two, ColumnForm, QueryForm, SourceForm, all_of, rows_of, RequestForm, query_form}
use Rattle.qsql_request.specs.Forms.{aj_form, count_form, day_form, sub_form}
use Rattle.qsql_request.specs.Shapes.{shape, is_list, is_scalar, is_rows}
use Rattle.qsql_request.specs.Unbuilt.{has_list, has_not_rows, has_not_scalar, has_unbuilt, has_unbuilt_parts, has_wrong_shape, is_empty, is_nameless, is_unbuilt, is_unbuilt_column, is_unbuilt_phrase, is_unbuilt_query, is_unbuilt_source, is_wrong_right}
use Rattle.qsql_laws.specs.Laws.{IsWellShaped, HasShapes, SourceHasShapes, RequestHasShapes}

neither : (a b : Bool) → (a || b) ≡ false → (a ≡ false) × (b ≡ false)
neither false b h = (refl, h)
neither true b h = absurd (cc)

not_false : (b : Bool) → not b ≡ false → b ≡ true
not_false true h = refl
not_false false h = absurd (cc)

-- where it holds of none, it holds of no single one
none : {X : Type 0} (p : X → Bool) (P : X → Type 0) → ((x : X) → p x ≡ false → P x) → (xs : List X) → list_any p xs ≡ false → All P xs
none p P f [] h = All-nil P
none p P f (x ∷ xs) h = let two = neither (p x) (list_any p xs) h in All-cons P x xs (f x two.0) (none p P f xs two.1)

built_form : (e : Form) → has_unbuilt e ≡ false → IsWellShaped e
built_form (constant value) h = search
built_form (column name) h = search
built_form (one verb side) h = built_form side h
built_form (two verb left right) h =
    let first = neither (is_list (shape left)) (is_wrong_right verb right || (has_unbuilt left || has_unbuilt right)) h in
    let second = neither (is_wrong_right verb right) (has_unbuilt left || has_unbuilt right) first.1 in
    let third = neither (has_unbuilt left) (has_unbuilt right) second.1 in
    (first.0, second.0, built_form left third.0, built_form right third.1)

built_column : (c : ColumnForm) → is_unbuilt_column c ≡ false → IsWellShaped c.expr
built_column c h = built_form c.expr (neither (has_unbuilt c.expr) (is_nameless c) h).0

built_phrase : (p : Form) → is_unbuilt_phrase p ≡ false → IsWellShaped p × (is_rows (shape p) ≡ true)
built_phrase p h =
    let two = neither (has_unbuilt p) (not (is_rows (shape p))) h in
    (built_form p two.0, not_false (is_rows (shape p)) two.1)

both : {X : Type 0} (P Q : X → Type 0) (xs : List X) → All P xs → All Q xs → All (λ (x : X). P x × Q x) xs
both P Q [] p q = All-nil (λ x. P x × Q x)
both P Q (x ∷ xs) p q = All-cons (λ x. P x × Q x) x xs (All-head P x xs p, All-head Q x xs q) (both P Q xs (All-tail P x xs p) (All-tail Q x xs q))

key_rows : (by : List ColumnForm) (exec : Bool) (columns : List ColumnForm) → (if is_empty by then not exec && has_list columns else has_not_scalar columns || has_not_rows by) ≡ false → All (λ (c : ColumnForm). is_rows (shape c.expr) ≡ true) by
key_rows [] exec columns h = All-nil (λ (c : ColumnForm). is_rows (shape c.expr) ≡ true)
key_rows (key ∷ by) exec columns h =
    none (λ c. not (is_rows (shape c.expr))) (λ (c : ColumnForm). is_rows (shape c.expr) ≡ true) (λ c e. not_false (is_rows (shape c.expr)) e) (key ∷ by) (neither (has_not_scalar columns) (has_not_rows (key ∷ by)) h).1

built_query : (q : QueryForm) → is_unbuilt_query q ≡ false → HasShapes q
built_query q h =
    let parts = neither (has_unbuilt_parts q) _ h in
    let wrong = neither (has_wrong_shape q) _ parts.1 in
    let columns = neither (list_any is_unbuilt_column q.columns) _ parts.0 in
    let rest = neither (list_any is_unbuilt_column q.by) (list_any is_unbuilt_phrase q.phrases) columns.1 in
    let without = not q.exec && has_list q.columns in
    let with_by = has_not_scalar q.columns || has_not_rows q.by in
    record {
      columns = none is_unbuilt_column (λ (c : ColumnForm). IsWellShaped c.expr) built_column q.columns columns.0;
      keys =
          both (λ (c : ColumnForm). IsWellShaped c.expr) (λ (c : ColumnForm). is_rows (shape c.expr) ≡ true) q.by
          (none is_unbuilt_column (λ (c : ColumnForm). IsWellShaped c.expr) built_column q.by rest.0)
          (key_rows q.by q.exec q.columns wrong.0);
      phrases = none is_unbuilt_phrase (λ (p : Form). IsWellShaped p × (is_rows (shape p) ≡ true)) built_phrase q.phrases rest.1;
      grouped = λ e.
          let h : with_by ≡ false = ap (λ t. if t then without else with_by) (sym e) ∙ wrong.0 in
          none (λ c. not (is_scalar (shape c.expr))) (λ (c : ColumnForm). is_scalar (shape c.expr) ≡ true) (λ c g. not_false (is_scalar (shape c.expr)) g) q.columns (neither (has_not_scalar q.columns) (has_not_rows q.by) h).0;
      selected = λ e f.
          let h : without ≡ false = ap (λ t. if t then without else with_by) (sym e) ∙ wrong.0 in
          let g : has_list q.columns ≡ false = ap (λ t. not t && has_list q.columns) (sym f) ∙ h in
          none (λ c. is_list (shape c.expr)) (λ (c : ColumnForm). is_list (shape c.expr) ≡ false) (λ c e. e) q.columns g;
    }

built_source : (s : SourceForm) → is_unbuilt_source s ≡ false → SourceHasShapes s
built_source (all_of name) h = search
built_source (rows_of q) h = built_query q (neither (not (is_empty q.by)) (is_unbuilt_query q) (neither q.exec _ h).1).1

pub built_request : (r : RequestForm) → is_unbuilt r ≡ false → RequestHasShapes r
built_request (query_form q) h = built_query q h
built_request (aj_form j) h = let two = neither (is_unbuilt_source j.left) (is_unbuilt_source j.right) h in (built_source j.left two.0, built_source j.right two.1)
built_request count_form h = search
built_request day_form h = search
built_request (sub_form s) h = search
