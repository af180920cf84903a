-- The two sides of an as-of join as queries, and the columns that these show.
use Rattle.std.specs.Prelude.{◌≡◌, ℕ, Bool, false, not, ◌&&◌, if◌then◌else◌, List, [], map, length, Option, Some, None, unwrap_or, All}
use Rattle.q_values.specs.Contents.{Contents}
use Rattle.q_values.specs.Table as t
use Rattle.q_values.specs.Tree.{Grid}
use Rattle.q_values.specs.declared.kind.Kind.{Kind}
use Rattle.day_rows.specs.declared.schema.Shape.{Shape}
use Rattle.qsql_request.specs.Forms.{ColumnForm, QueryForm, SourceForm, all_of, rows_of}
use Rattle.qsql_request.specs.Unbuilt.{column_name, is_empty}
use Rattle.qsql_values.specs.Beside.{beside}
use Rattle.qsql_values.specs.Kinds.{column_kind, kind_in}
use Rattle.qsql_eval.specs.Judgement.{all_columns, is_typed}

-- a side as a query: a table's name stands for `select` of all of it
abbrev pub query_of_source : SourceForm → QueryForm
query_of_source (all_of name) = record { exec = false; first = None; columns = []; by = []; table = name; phrases = [] }
query_of_source (rows_of q) = q

-- the names of the columns that a `select` without `by` shows
abbrev pub shown_names : QueryForm → Shape → List (List ℕ)
shown_names q table = if is_empty q.columns then all_columns table else map column_name q.columns

-- their kinds; none where a verb doesn't take its sides
abbrev pub shown_kinds : QueryForm → Shape → List (Option Kind)
shown_kinds q table =
    if is_empty q.columns then map (column_kind table) (all_columns table) else map (λ (c : ColumnForm). kind_in (column_kind table) c.expr) q.columns

-- the kind of the column with this name
abbrev pub shown_kind : QueryForm → Shape → List ℕ → Option Kind
shown_kind q table name = unwrap_or (beside name (shown_names q table) (shown_kinds q table)) None

-- a `select` without `by`, of which each verb takes what it is given
abbrev pub is_typed_source : Shape → QueryForm → Bool
is_typed_source table q = not q.exec && (is_empty q.by && is_typed table q)

-- a table with the columns that a query shows
pub record IsSource (table : Shape) (q : QueryForm) (grid : Grid) : Type 0 where
  pub names : grid.names ≡ shown_names q table
  pub kinds : map (λ (c : Contents). Some c.kind) grid.columns ≡ shown_kinds q table
  pub even : All (λ (c : Contents). length c.atoms ≡ t.rows_of grid.columns) grid.columns
