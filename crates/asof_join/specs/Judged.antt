-- Whether an as-of join fits a schema.
use Rattle.std.specs.Prelude.{ℕ, Bool, not, ◌&&◌, if◌then◌else◌, List, [], ◌∷◌, Option, Some, None}
use Rattle.std.specs.List.{list_all, list_any}
use Rattle.std.specs.Option.{option_or}
use Rattle.std.specs.Str.{bytes_eq}
use Rattle.day_rows.specs.declared.schema.Shape.{Shape}
use Rattle.qsql_request.specs.Forms.{QueryForm, AjForm}
use Rattle.qsql_request.specs.Names.{names_of}
use Rattle.qsql_request.specs.Unbuilt.{is_empty}
use Rattle.qsql_values.specs.Kinds.{column_kind}
use Rattle.qsql_eval.specs.Judgement.{first_unknown, table_named}
use Rattle.qsql_eval.specs.Views.{is_kind}
use Rattle.asof_join.specs.Asof.{added_names}
use Rattle.asof_join.specs.Sources.{query_of_source, shown_names, shown_kind, is_typed_source}

-- what is found of a side: a name that is no table or no column, or else its table
pub data Found : Type 0 where
  lacks : List ℕ → Found
  has : Shape → Found

abbrev pub found_among : Shape → Option (List ℕ) → Found
found_among table (Some name) = lacks name
found_among table None = has table

abbrev pub found_in : QueryForm → Option Shape → Found
found_in q None = lacks q.table
found_in q (Some table) = found_among table (first_unknown (column_kind table) (names_of q))

abbrev pub found : QueryForm → List Shape → Found
found q schema = found_in q (table_named q.table schema)

-- what is found of an as-of join: a name that isn't there, a column of both sides that is no key, a verb that doesn't take
-- its sides or keys of different kinds, or else the tables of its sides
pub data AjJudgement : Type 0 where
  unknown : List ℕ → AjJudgement
  clash : AjJudgement
  mistyped : AjJudgement
  joins : Shape → Shape → AjJudgement

-- the first key that isn't among the names
abbrev pub first_absent : List (List ℕ) → List (List ℕ) → Option (List ℕ)
first_absent names [] = None
first_absent names (key ∷ keys) = if list_any (bytes_eq key) names then first_absent names keys else Some key

-- the first key that the left side doesn't show, or else the first that the right one doesn't show
abbrev pub absent_key : AjForm → Shape → Shape → Option (List ℕ)
absent_key q left right =
    option_or (first_absent (shown_names (query_of_source q.left) left) q.keys) (first_absent (shown_names (query_of_source q.right) right) q.keys)

-- a column that is no key stands in both results, `date` aside
abbrev pub has_clash : AjForm → Shape → Shape → Bool
has_clash q left right =
    list_any (λ (name : List ℕ). list_any (bytes_eq name) (shown_names (query_of_source q.left) left))
    (added_names q.keys (shown_names (query_of_source q.right) right))

-- a key has one kind on both sides
abbrev pub has_one_kind : AjForm → Shape → Shape → List ℕ → Bool
has_one_kind q left right key = is_kind (shown_kind (query_of_source q.left) left key) (shown_kind (query_of_source q.right) right key)

-- there is a key, each side is typed, and each key has one kind
abbrev pub is_typed_join : AjForm → Shape → Shape → Bool
is_typed_join q left right =
    not (is_empty q.keys)
    && (is_typed_source left (query_of_source q.left)
    && (is_typed_source right (query_of_source q.right)
    && list_all (has_one_kind q left right) q.keys))

abbrev pub judged_by_type : AjForm → Shape → Shape → AjJudgement
judged_by_type q left right =
    if has_clash q left right then clash else (if is_typed_join q left right then joins left right else mistyped)

abbrev pub judged_by_keys : AjForm → Shape → Shape → Option (List ℕ) → AjJudgement
judged_by_keys q left right (Some name) = unknown name
judged_by_keys q left right None = judged_by_type q left right

abbrev pub judged_over : AjForm → Shape → Shape → AjJudgement
judged_over q left right = judged_by_keys q left right (absent_key q left right)

abbrev pub judged_sides : AjForm → Found → Found → AjJudgement
judged_sides q (lacks name) right = unknown name
judged_sides q (has left) (lacks name) = unknown name
judged_sides q (has left) (has right) = judged_over q left right

-- the first of these that holds: a name of the left side is unknown, then one of the right side, then a key is no column of
-- the left result, then of the right one; then a column that is no key is in both; then a type is wrong
abbrev pub aj_judgement : AjForm → List Shape → AjJudgement
aj_judgement q schema = judged_sides q (found (query_of_source q.left) schema) (found (query_of_source q.right) schema)
