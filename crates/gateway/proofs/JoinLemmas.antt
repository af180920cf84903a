-- The sides of a join that fits are queries that fit.
use Rattle.std.proofs.Common.{◌≡◌, ℕ, Bool, true, false, ◌&&◌, cond, not, List, refl, sym, ap, Option, Some, None, subst}
use Rattle.day_rows.specs.declared.schema.Shape.{Shape}
use Rattle.qsql_request.specs.Forms.{AjForm, QueryForm}
use Rattle.qsql_request.specs.Names.{names_of}
use Rattle.qsql_request.specs.Unbuilt.{is_empty}
use Rattle.qsql_values.specs.Kinds.{column_kind}
use Rattle.qsql_eval.specs.Judgement as e
use Rattle.qsql_eval.specs.Judgement.{Judgement, judgement, first_unknown, table_named, is_typed}
use Rattle.asof_join.specs.Judged as j
use Rattle.asof_join.specs.Judged.{AjJudgement, Found, found, found_in, found_among, absent_key, has_clash, is_typed_join, judged_by_keys, judged_sides, aj_judgement}
use Rattle.asof_join.specs.Sources.{query_of_source, is_typed_source}

abbrev left_or : Shape → AjJudgement → Shape
left_or other (j.joins left right) = left
left_or other judged = other

abbrev right_or : Shape → AjJudgement → Shape
right_or other (j.joins left right) = right
right_or other judged = other

abbrev table_or : Shape → Found → Shape
table_or other (j.has table) = table
table_or other (j.lacks name) = other

both_true : (x y : Bool) → (x && y) ≡ true → (x ≡ true) × (y ≡ true)
both_true true y h = (refl, h)
both_true false y h = absurd cc

-- the tables that the judgement names are those of the sides
by_flags : (x y l r : Shape) (c t : Bool) → cond c j.clash (cond t (j.joins x y) j.mistyped) ≡ j.joins l r → (x ≡ l) × (y ≡ r)
by_flags x y l r true t e = absurd cc
by_flags x y l r false false e = absurd cc
by_flags x y l r false true e = (ap (left_or x) e, ap (right_or y) e)

by_keys : (q : AjForm) (x y l r : Shape) (o : Option (List ℕ)) → judged_by_keys q x y o ≡ j.joins l r → (x ≡ l) × (y ≡ r)
by_keys q x y l r (Some name) e = absurd cc
by_keys q x y l r None e = by_flags x y l r (has_clash q x y) (is_typed_join q x y) e

by_sides : (q : AjForm) (left right : Found) (l r : Shape) → judged_sides q left right ≡ j.joins l r → (left ≡ j.has l) × (right ≡ j.has r)
by_sides q (j.lacks name) right l r e = absurd cc
by_sides q (j.has x) (j.lacks name) l r e = absurd cc
by_sides q (j.has x) (j.has y) l r e =
    let same = by_keys q x y l r (absent_key q x y) e in
    (ap j.has same.0, ap j.has same.1)

-- a query whose names are all there, and that is typed, fits
by_names : (q : QueryForm) (x l : Shape) (o : Option (List ℕ)) → found_among x o ≡ j.has l → is_typed l q ≡ true → e.judged_by_names x q o ≡ e.fits l
by_names q x l (Some name) h typed = absurd cc
by_names q x l None h typed =
    let same : x ≡ l = ap (table_or x) h in
    subst (λ (s : Shape). e.judged_by_type s q ≡ e.fits l) (sym same) (ap (λ (b : Bool). cond b (e.fits l) e.mistyped) typed)

by_table : (q : QueryForm) (l : Shape) (o : Option Shape) → found_in q o ≡ j.has l → is_typed l q ≡ true → e.judged_over q o ≡ e.fits l
by_table q l None h typed = absurd cc
by_table q l (Some x) h typed = by_names q x l (first_unknown (column_kind x) (names_of q)) h typed

source_typed : (table : Shape) (q : QueryForm) → is_typed_source table q ≡ true → is_typed table q ≡ true
source_typed table q h = (both_true (is_empty q.by) (is_typed table q) (both_true (not q.exec) (is_empty q.by && is_typed table q) h).1).1

pub left_fits : (q : AjForm) (schema : List Shape) (l r : Shape) → aj_judgement q schema ≡ j.joins l r → is_typed_source l (query_of_source q.left) ≡ true → judgement (query_of_source q.left) schema ≡ e.fits l
left_fits q schema l r h typed =
    by_table (query_of_source q.left) l (table_named (query_of_source q.left).table schema)
    (by_sides q (found (query_of_source q.left) schema) (found (query_of_source q.right) schema) l r h).0 (source_typed l (query_of_source q.left) typed)

pub right_fits : (q : AjForm) (schema : List Shape) (l r : Shape) → aj_judgement q schema ≡ j.joins l r → is_typed_source r (query_of_source q.right) ≡ true → judgement (query_of_source q.right) schema ≡ e.fits r
right_fits q schema l r h typed =
    by_table (query_of_source q.right) r (table_named (query_of_source q.right).table schema)
    (by_sides q (found (query_of_source q.left) schema) (found (query_of_source q.right) schema) l r h).1 (source_typed r (query_of_source q.right) typed)
