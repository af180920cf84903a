-- Answers to subscriptions.
use Rattle.std.proofs.Common.{◌≡◌, ℕ, suc, ◌≤◌, ◌==◌, ◌||◌, Bool, true, false, cond, Some, None, List, [], ◌∷◌, length, map, refl, ap, subst, arith}
use Rattle.std.specs.List.{find, list_any, AllByRecursion}
use Rattle.std.specs.Str.{bytes_eq}
use Rattle.std.proofs.lemmas.Bool.{eqb-true}
use Rattle.ipc_codec.specs.Reading.{number_of_items}
use Rattle.ipc_codec.specs.Written.{deepest, GridFits, Fits, AllFit, IsPlain}
use Rattle.q_values.specs.Table.{rows_of}
use Rattle.q_values.specs.Tree.{items_of, list}
use Rattle.q_values.specs.declared.kind.Kind.{Kind}
use Rattle.day_rows.specs.Schema.{IsSchema, IsShape}
use Rattle.day_rows.specs.declared.schema.Shape.{Shape}
use Rattle.pubsub.specs.Filters.{is_known, table_names}
use Rattle.pubsub.specs.Told.{columns_from, grid_of}
use Rattle.publications.proofs.ToldLemmas.{wide_grid}
use Rattle.publications.specs.Answer.{pair_tree, answer_tree, subscription_tree}

-- whether a table has this name
abbrev pub is_named : List ℕ → Shape → Bool
is_named name shape = bytes_eq name shape.table

pub answer_all : (schema : List Shape) (name : List ℕ) → (length name == 0) ≡ true → subscription_tree schema name ≡ list (items_of (map pair_tree schema))
answer_all schema [] e = refl
answer_all schema (b ∷ name) e = absurd (omega (arith, eqb-true (length (b ∷ name)) 0 e))

pub answer_one : (schema : List Shape) (name : List ℕ) → (length name == 0) ≡ false → subscription_tree schema name ≡ answer_tree (find (is_named name) schema)
answer_one schema [] e = cc
answer_one schema (b ∷ name) e = refl

pub all_found : {X : Type 0} (P : X → Type 0) (test : X → Bool) (xs : List X) (x : X) → AllByRecursion P xs → find test xs ≡ Some x → P x
all_found P test [] x all e = cc
all_found P test (y ∷ xs) x all e = by_test (all_found P test xs x all.1) (test y) e
  where
    by_test : (find test xs ≡ Some x → P x) → (b : Bool) → cond b (Some y) (find test xs) ≡ Some x → P x
    by_test rest true found = let same : y ≡ x = cc in subst P same all.0
    by_test rest false found = rest found

found_name : (name : List ℕ) (schema : List Shape) → list_any (bytes_eq name) (table_names schema) ≡ true → find (is_named name) schema ≡ None → ⊥
found_name name [] any none = cc
found_name name (s ∷ schema) any none = by_test (found_name name schema) (is_named name s) any none
  where
    by_test : (list_any (bytes_eq name) (table_names schema) ≡ true → find (is_named name) schema ≡ None → ⊥) → (b : Bool) → (b || list_any (bytes_eq name) (table_names schema)) ≡ true → cond b (Some s) (find (is_named name) schema) ≡ None → ⊥
    by_test rest true there gone = cc
    by_test rest false there gone = rest there gone

-- a table that is known is found
pub not_missing : (schema : List Shape) (name : List ℕ) → is_known name (table_names schema) ≡ true → (length name == 0) ≡ false → find (is_named name) schema ≡ None → ⊥
not_missing schema [] known e none = cc
not_missing schema (b ∷ name) known e none = found_name (b ∷ name) schema known none

-- ---- an answer can be written

no_rows : (kinds : List Kind) → rows_of (columns_from 0 kinds []) ≡ 0
no_rows [] = refl
no_rows (kind ∷ kinds) = refl

grid_fits : (shape : Shape) → IsShape shape → GridFits (grid_of shape [])
grid_fits shape is =
    let are = (wide_grid shape [] is).0 in
    record { shape = are; columns = omega (arith, is.few, are.named); rows = omega (arith, no_rows shape.kinds) }

pair_fits : (shape : Shape) → IsShape shape → Fits (pair_tree shape)
pair_fits shape is = (omega arith, (tt, (grid_fits shape is, tt)))

pairs_fit : (schema : List Shape) → AllByRecursion IsShape schema → AllFit (items_of (map pair_tree schema))
pairs_fit [] each = tt
pairs_fit (s ∷ schema) each = (pair_fits s each.0, pairs_fit schema each.1)

pairs_deep : (schema : List Shape) → deepest (items_of (map pair_tree schema)) ≤ 5
pairs_deep [] = omega arith
pairs_deep (s ∷ schema) = omega (arith, pairs_deep schema)

count_pairs : (schema : List Shape) → number_of_items (items_of (map pair_tree schema)) ≡ length schema
count_pairs [] = refl
count_pairs (s ∷ schema) = ap suc (count_pairs schema)

pub pairs_plain : (schema : List Shape) → IsSchema schema → IsPlain (list (items_of (map pair_tree schema)))
pairs_plain schema is = record {
  nested = omega (arith, pairs_deep schema);
  fits = (omega (arith, count_pairs schema, is.few), pairs_fit schema is.each);
}

pub pair_plain : (shape : Shape) → IsShape shape → IsPlain (pair_tree shape)
pair_plain shape is = record { nested = omega arith; fits = pair_fits shape is }
