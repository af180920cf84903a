-- What dates that are left out have to do with the rows that phrases keep.
use Rattle.std.specs.Prelude.{◌≡◌, ℤ, List, codes, map}
use Rattle.qsql_request.specs.Forms.{Form}
use Rattle.qsql_values.specs.ByRow.{frame_where}
use Rattle.qsql_values.specs.Frames.{Frame, column_in}
use Rattle.qsql_values.specs.Values.{kept}
use Rattle.qsql_dates.specs.Dates.{date_column, keeps}

-- of rows with these dates, phrases keep the same where the rows of the dates that they don't keep were left out before
abbrev pub OtherDatesHaveNoPart : Type 0
OtherDatesHaveNoPart =
    (phrases : List Form) (frame : Frame) (dates : List ℤ) → column_in frame (codes "date") ≡ date_column dates
    → kept phrases (frame_where (map (keeps phrases) dates) frame) ≡ kept phrases frame
