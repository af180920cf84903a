-- Expressions that a query with `by` can have.
use Rattle.std.specs.Prelude.{◌≡◌, true}
use Rattle.qsql_request.specs.Forms.{Form}
use Rattle.qsql_request.specs.Shapes.{shape, is_scalar, is_rows}
use Rattle.qsql_values.specs.Frames.{Frame}
use Rattle.qsql_values.specs.Ready.{IsReady}

-- a column after `by`, with an item for each row
pub record IsKey (frame : Frame) (e : Form) : Type 0 where
  pub ready : IsReady frame e
  pub rows : is_rows (shape e) ≡ true

-- a column of a query with `by`, with one item for each group
pub record IsValue (frame : Frame) (e : Form) : Type 0 where
  pub ready : IsReady frame e
  pub scalar : is_scalar (shape e) ≡ true
