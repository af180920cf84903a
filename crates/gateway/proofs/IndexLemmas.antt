-- The index of a table in a schema.
use Rattle.std.proofs.Common.{◌≡◌, ◌≤◌, ◌+◌, ℕ, Bool, true, false, cond, not, List, [], ◌∷◌, length, drop, refl, ap, ◌∙◌, add-one, zero, suc, Some, slice_get, arith}
use Rattle.std.specs.Str.{bytes_eq}
use Rattle.day_rows.specs.declared.schema.Shape.{Shape}
use Rattle.gateway.specs.Answer.{table_index}

some_inj : {X : Type 0} (x y : X) → Some x ≡ Some y → x ≡ y
some_inj x y e = cc

pub index_here : (name : List ℕ) (schema : List Shape) (i : ℕ) (table : Shape) → slice_get schema i ≡ Some table → bytes_eq name table.table ≡ true → table_index name (drop i schema) ≡ 0
index_here name [] zero table is same = refl
index_here name [] (suc i) table is same = refl
index_here name (first ∷ schema) zero table is same =
    ap (λ (b : Bool). cond (not b) (1 + table_index name schema) 0) (ap (λ (t : Shape). bytes_eq name t.table) (some_inj first table is) ∙ same)
index_here name (first ∷ schema) (suc i) table is same = index_here name schema i table is same

next_index : (name : List ℕ) (schema : List Shape) (i : ℕ) (table : Shape) → slice_get schema i ≡ Some table → bytes_eq name table.table ≡ false → table_index name (drop i schema) ≡ 1 + table_index name (drop (suc i) schema)
next_index name [] zero table is differs = absurd cc
next_index name [] (suc i) table is differs = absurd cc
next_index name (first ∷ schema) zero table is differs =
    ap (λ (b : Bool). cond (not b) (1 + table_index name schema) 0) (ap (λ (t : Shape). bytes_eq name t.table) (some_inj first table is) ∙ differs)
next_index name (first ∷ schema) (suc i) table is differs = next_index name schema i table is differs

pub index_next : (name : List ℕ) (schema : List Shape) (i : ℕ) (table : Shape) → slice_get schema i ≡ Some table → bytes_eq name table.table ≡ false → table_index name (drop (i + 1) schema) + (i + 1) ≡ table_index name (drop i schema) + i
index_next name schema i table is differs =
    let step : table_index name (drop i schema) ≡ 1 + table_index name (drop (i + 1) schema) = rw add-one (next_index name schema i table is differs) in
    omega (arith, step)

pub index_past : (name : List ℕ) (schema : List Shape) (i : ℕ) → length schema ≤ i → table_index name (drop i schema) ≡ 0
index_past name [] zero past = refl
index_past name [] (suc i) past = refl
index_past name (first ∷ schema) zero past = absurd (omega arith)
index_past name (first ∷ schema) (suc i) past = index_past name schema i (omega arith)
