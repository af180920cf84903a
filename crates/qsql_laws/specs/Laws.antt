-- The shapes in requests that are built.
use Rattle.std.specs.Prelude.{◌≡◌, ⊤, true, false, All}
use Rattle.qsql_request.specs.Forms.{Form, constant, column, one, two, ColumnForm, QueryForm, SourceForm, all_of, rows_of, RequestForm, query_form}
use Rattle.qsql_request.specs.Forms.{aj_form, count_form, day_form, sub_form}
use Rattle.qsql_request.specs.Shapes.{shape, is_list, is_scalar, is_rows}
use Rattle.qsql_request.specs.Unbuilt.{is_empty, is_unbuilt, is_wrong_right}

-- no verb has a list at its left, or at its right what it can't take
abbrev pub IsWellShaped : Form → Type 0
IsWellShaped (constant value) = ⊤
IsWellShaped (column name) = ⊤
IsWellShaped (one verb side) = IsWellShaped side
IsWellShaped (two verb left right) = (is_list (shape left) ≡ false) × (is_wrong_right verb right ≡ false) × IsWellShaped left × IsWellShaped right

-- what a query's columns, keys and phrases are
pub record HasShapes (q : QueryForm) : Type 0 where
  pub columns : All (λ (c : ColumnForm). IsWellShaped c.expr) q.columns
  pub keys : All (λ (c : ColumnForm). IsWellShaped c.expr × (is_rows (shape c.expr) ≡ true)) q.by
  pub phrases : All (λ (p : Form). IsWellShaped p × (is_rows (shape p) ≡ true)) q.phrases
  pub grouped : is_empty q.by ≡ false → All (λ (c : ColumnForm). is_scalar (shape c.expr) ≡ true) q.columns
  pub selected : is_empty q.by ≡ true → q.exec ≡ false → All (λ (c : ColumnForm). is_list (shape c.expr) ≡ false) q.columns

-- the same of a side of an as-of join
abbrev pub SourceHasShapes : SourceForm → Type 0
SourceHasShapes (all_of name) = ⊤
SourceHasShapes (rows_of q) = HasShapes q

-- the same of each query in a request
abbrev pub RequestHasShapes : RequestForm → Type 0
RequestHasShapes (query_form q) = HasShapes q
RequestHasShapes (aj_form j) = SourceHasShapes j.left × SourceHasShapes j.right
RequestHasShapes count_form = ⊤
RequestHasShapes day_form = ⊤
RequestHasShapes (sub_form s) = ⊤

-- a request that is built has shapes that fit
abbrev pub BuiltIsWellShaped : Type 0
BuiltIsWellShaped = (r : RequestForm) → is_unbuilt r ≡ false → RequestHasShapes r
