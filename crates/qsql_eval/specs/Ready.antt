-- Queries that can be answered over rows.
use Rattle.std.specs.Prelude.{◌≡◌, ◌<◌, ℕ, Bool, true, false, List, [], length, is_some, All}
use Rattle.std.specs.List.{list_all}
use Rattle.day_rows.specs.declared.schema.Shape.{Shape}
use Rattle.qsql_request.specs.Forms.{ColumnForm}
use Rattle.qsql_request.specs.Shapes.{shape, is_scalar, is_list}
use Rattle.qsql_request.specs.Views.{form, query_of}
use Rattle.qsql_request.specs.declared.request.Col.{Col}
use Rattle.qsql_request.specs.declared.request.Query.{Query}
use Rattle.qsql_values.specs.Frames.{Frame, kind_beside}
use Rattle.qsql_values.specs.Ready.{IsReady}
use Rattle.qsql_groups.specs.Ready.{IsKey, IsValue}
use Rattle.qsql_eval.specs.Judgement.{all_columns}
use Rattle.qsql_eval.specs.Meaning.{other_names}

-- each column is one atom
abbrev pub are_scalars : List ColumnForm → Bool
are_scalars cs = list_all (λ (c : ColumnForm). is_scalar (shape c.expr)) cs

-- a query without `by` of a table has what its value needs over these rows
pub record IsAnswerable (frame : Frame) (table : Shape) (q : Query) : Type 0 where
  pub ready : All (λ (c : Col). IsReady frame (form c.expr)) q.columns
  pub flat : q.exec ≡ false → All (λ (c : Col). is_list (shape (form c.expr)) ≡ false) q.columns
  pub every : q.columns ≡ [] → All (λ (name : List ℕ). is_some (kind_beside frame name) ≡ true) (all_columns table)

-- a query with `by` of a table has what its value needs over these rows
pub record IsGroupable (frame : Frame) (table : Shape) (q : Query) : Type 0 where
  pub some : 0 < length q.by
  pub keys : All (λ (c : Col). IsKey frame (form c.expr)) q.by
  pub values : All (λ (c : Col). IsValue frame (form c.expr)) q.columns
  pub pair : q.exec ≡ true → (length q.by ≡ 1) × (length q.columns ≡ 1)
  pub every : q.exec ≡ false → q.columns ≡ [] → All (λ (name : List ℕ). is_some (kind_beside frame name) ≡ true) (all_columns table)
  pub left : q.exec ≡ false → q.columns ≡ [] → 0 < length (other_names (all_columns table) (query_of q))
