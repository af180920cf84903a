-- Rows, and the columns that they are made of.
use Rattle.std.specs.Prelude.{◌≡◌, ℕ, Bool, List, map, length, Some}
use Rattle.q_values.specs.Contents.{Contents}
use Rattle.q_values.specs.Table.{rows_of}
use Rattle.qsql_values.specs.Beside.{beside}
use Rattle.qsql_values.specs.Frames.{AreColumns, column_in, frame_of}
use Rattle.q_filter.specs.Places.{places_from}
use Rattle.qsql_values.specs.Places.{column_at}
use Rattle.qsql_values.specs.Values.{selected}

-- a column read from the rows of columns is the column of that name
abbrev pub ColumnsAreRead : Type 0
ColumnsAreRead =
    (names : List (List ℕ)) (columns : List Contents) (name : List ℕ) (column : Contents) → AreColumns names columns
    → beside name names columns ≡ Some column → column_in (frame_of names columns) name ≡ column

-- the rows of columns that keep the items at some indices are the rows at these indices
abbrev pub RowsAreKept : Type 0
RowsAreKept =
    (names : List (List ℕ)) (columns : List Contents) (flags : List Bool) → AreColumns names columns → length flags ≡ rows_of columns
    → (frame_of names (map (column_at (places_from 0 flags)) columns)).rows ≡ selected flags (frame_of names columns).rows
