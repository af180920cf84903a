-- Tables of a schema, from an index on.
use Rattle.std.proofs.Common.{◌≡◌, ℕ, ◌+◌, Bool, true, false, cond, List, [], ◌∷◌, drop, refl, ap, ◌∙◌, add-one, zero, suc, Some, slice_get}
use Rattle.std.specs.Str.{bytes_eq}
use Rattle.day_rows.specs.declared.schema.Shape.{Shape}
use Rattle.qsql_eval.specs.Judgement.{table_named}

some_inj : {X : Type 0} (x y : X) → Some x ≡ Some y → x ≡ y
some_inj x y e = cc

pub table_here : (name : List ℕ) (schema : List Shape) (i : ℕ) (table : Shape) → slice_get schema i ≡ Some table → bytes_eq name table.table ≡ true → table_named name (drop i schema) ≡ Some table
table_here name [] zero table is same = is
table_here name [] (suc i) table is same = is
table_here name (first ∷ schema) zero table is same =
    ap (λ (b : Bool). cond b (Some first) (table_named name schema)) (ap (λ (t : Shape). bytes_eq name t.table) (some_inj first table is) ∙ same) ∙ is
table_here name (first ∷ schema) (suc i) table is same = table_here name schema i table is same

next_table : (name : List ℕ) (schema : List Shape) (i : ℕ) (table : Shape) → slice_get schema i ≡ Some table → bytes_eq name table.table ≡ false → table_named name (drop i schema) ≡ table_named name (drop (suc i) schema)
next_table name [] zero table is differs = refl
next_table name [] (suc i) table is differs = refl
next_table name (first ∷ schema) zero table is differs =
    ap (λ (b : Bool). cond b (Some first) (table_named name schema)) (ap (λ (t : Shape). bytes_eq name t.table) (some_inj first table is) ∙ differs)
next_table name (first ∷ schema) (suc i) table is differs = next_table name schema i table is differs

pub table_next : (name : List ℕ) (schema : List Shape) (i : ℕ) (table : Shape) → slice_get schema i ≡ Some table → bytes_eq name table.table ≡ false → table_named name (drop i schema) ≡ table_named name (drop (i + 1) schema)
table_next name schema i table is differs = rw add-one (next_table name schema i table is differs)
