-- What dates that are left out have to do with the value of a query.
use Rattle.std.specs.Prelude.{◌≡◌, ℕ, ℤ, List, map, codes}
use Rattle.qsql_request.specs.Forms.{QueryForm}
use Rattle.qsql_values.specs.ByRow.{frame_where}
use Rattle.qsql_values.specs.Frames.{Frame, column_in}
use Rattle.qsql_dates.specs.Dates.{date_column, keeps}
use Rattle.qsql_eval.specs.Meaning.{meaning}

-- over rows with these dates, the value of a query is the same where the rows of the dates that it doesn't keep were left out
-- before; `all` is the columns of a `select` that names none
abbrev pub OtherDatesHaveNoPart : Type 0
OtherDatesHaveNoPart =
    (all : List (List ℕ)) (q : QueryForm) (frame : Frame) (dates : List ℤ) → column_in frame (codes "date") ≡ date_column dates
    → meaning all q (frame_where (map (keeps q.phrases) dates) frame) ≡ meaning all q frame
