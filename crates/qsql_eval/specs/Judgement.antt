-- Whether a query fits a schema: its table and columns are there, and each verb takes what it is given.
use Rattle.std.specs.Prelude.{◌≡◌, ℕ, Bool, false, not, ◌&&◌, if◌then◌else◌, List, [], ◌∷◌, map, codes, Option, Some, None}
use Rattle.std.specs.Prelude.{is_some}
use Rattle.std.specs.List.{list_any, list_all}
use Rattle.std.specs.Str.{bytes_eq}
use Rattle.q_values.specs.Kind.{is}
use Rattle.q_values.specs.declared.kind.Kind.{Kind}
use Rattle.q_values.specs.declared.kind.Kind.TheVariants as k
use Rattle.day_rows.specs.declared.schema.Shape.{Shape}
use Rattle.qsql_request.specs.Forms.{Form, ColumnForm, QueryForm}
use Rattle.qsql_request.specs.Names.{names_of}
use Rattle.qsql_request.specs.Unbuilt.{is_empty, column_name, is_unbuilt_query}
use Rattle.qsql_values.specs.Kinds.{column_kind, kind_in}

abbrev pub is_boolean : Option Kind → Bool
is_boolean None = false
is_boolean (Some kind) = is kind k.Boolean

abbrev pub has_kind : (List ℕ → Option Kind) → ColumnForm → Bool
has_kind columns c = is_some (kind_in columns c.expr)

-- each expression has a kind, and each phrase is boolean
abbrev pub has_kinds : (List ℕ → Option Kind) → QueryForm → Bool
has_kinds columns q =
    list_all (has_kind columns) q.columns && (list_all (has_kind columns) q.by && list_all (λ (p : Form). is_boolean (kind_in columns p)) q.phrases)

-- the columns of a `select` that names none: `date` and the table's columns
abbrev pub all_columns : Shape → List (List ℕ)
all_columns table = codes "date" ∷ table.names

-- whether the columns after `by` have this name
abbrev pub is_name_of_by : QueryForm → List ℕ → Bool
is_name_of_by q name = list_any (bytes_eq name) (map column_name q.by)

-- a `select` with `by` that names no columns, whose `by` columns have the names of all of them
abbrev pub has_none_left : Shape → QueryForm → Bool
has_none_left table q =
    not q.exec && (is_empty q.columns && (not (is_empty q.by) && list_all (is_name_of_by q) (all_columns table)))

abbrev pub is_typed : Shape → QueryForm → Bool
is_typed table q = not (is_unbuilt_query q) && (has_kinds (column_kind table) q && not (has_none_left table q))

-- the first name that isn't a column
abbrev pub first_unknown : (List ℕ → Option Kind) → List (List ℕ) → Option (List ℕ)
first_unknown columns [] = None
first_unknown columns (name ∷ names) = if is_some (columns name) then first_unknown columns names else Some name

-- the table of a schema with this name
abbrev pub table_named : List ℕ → List Shape → Option Shape
table_named name [] = None
table_named name (table ∷ schema) = if bytes_eq name table.table then Some table else table_named name schema

-- what is found of a query: a name that is no table or no column, or a verb that doesn't take its sides, or else the query's
-- table
pub data Judgement : Type 0 where
  unknown : List ℕ → Judgement
  mistyped : Judgement
  fits : Shape → Judgement

abbrev pub judged_by_type : Shape → QueryForm → Judgement
judged_by_type table q = if is_typed table q then fits table else mistyped

abbrev pub judged_by_names : Shape → QueryForm → Option (List ℕ) → Judgement
judged_by_names table q (Some name) = unknown name
judged_by_names table q None = judged_by_type table q

abbrev pub judged_over : QueryForm → Option Shape → Judgement
judged_over q None = unknown q.table
judged_over q (Some table) = judged_by_names table q (first_unknown (column_kind table) (names_of q))

-- the first of these that holds: the table is unknown, then a column in the order of the text, then a type is wrong
abbrev pub judgement : QueryForm → List Shape → Judgement
judgement q schema = judged_over q (table_named q.table schema)

-- a query fits its table
abbrev pub IsFit : Shape → QueryForm → Type 0
IsFit table q = judged_over q (Some table) ≡ fits table
