-- Expressions that can be evaluated over rows.
use Rattle.std.specs.Prelude.{◌≡◌, true, false, is_some}
use Rattle.qsql_request.specs.Forms.{Form}
use Rattle.qsql_request.specs.Unbuilt.{has_unbuilt}
use Rattle.qsql_values.specs.Frames.{Frame, kind_beside}
use Rattle.qsql_values.specs.Kinds.{kind_in}

-- an expression is built, and each verb in it takes its sides over these rows
pub record IsReady (frame : Frame) (e : Form) : Type 0 where
  pub kind : is_some (kind_in (kind_beside frame) e) ≡ true
  pub built : has_unbuilt e ≡ false
