-- Rows of a table.
use Rattle.std.specs.Prelude.{◌≡◌, ◌==◌, ◌<◌, ℕ, Bool, List, [], ◌∷◌, map, length, replicate, Option, Some, None, unwrap_or, All}
use Rattle.std.specs.List.{list_all}
use Rattle.std.specs.Simd.Lanes.{zip2}
use Rattle.q_values.specs.Contents.{Contents}
use Rattle.q_values.specs.Lists.{gathered}
use Rattle.q_values.specs.Table.{rows_of}
use Rattle.q_values.specs.declared.atom.Atom.{Atom}
use Rattle.q_values.specs.declared.kind.Kind.{Kind}
use Rattle.q_values.specs.declared.kind.Kind.TheVariants as k
use Rattle.day_rows.specs.Rows.{absent}
use Rattle.qsql_values.specs.Beside.{beside}

-- rows with named columns: each row has a field for each name, and the fields of a column have one kind
pub record Frame : Type 0 where
  pub names : List (List ℕ)
  pub kinds : List Kind
  pub rows : List (List Atom)

-- a row's field in the column with this name
abbrev pub field_in : List (List ℕ) → List ℕ → List Atom → Atom
field_in names name row = unwrap_or (beside name names row) absent

-- a column, read from the rows: its kind, and each row's field
abbrev pub column_in : Frame → List ℕ → Contents
column_in frame name = record { kind = unwrap_or (beside name frame.names frame.kinds) k.Boolean; atoms = map (field_in frame.names name) frame.rows }

-- n rows, whose fields are the items of these columns
abbrev pub rows_beside : ℕ → List Contents → List (List Atom)
rows_beside n [] = replicate n []
rows_beside n (column ∷ columns) = zip2 (λ (x : Atom) (row : List Atom). x ∷ row) column.atoms (rows_beside n columns)

-- the rows of named columns
abbrev pub frame_of : List (List ℕ) → List Contents → Frame
frame_of names columns = record { names = names; kinds = map (λ (c : Contents). c.kind) columns; rows = rows_beside (rows_of columns) columns }

-- the rows at some indices
abbrev pub rows_at : List ℕ → Frame → Frame
rows_at places frame = record frame { rows = gathered frame.rows places }

-- the rows at some indices, where there are such, or else all rows
abbrev pub part_at : Option (List ℕ) → Frame → Frame
part_at None frame = frame
part_at (Some places) frame = rows_at places frame

-- the indices are those of some of n rows
abbrev pub AreWithin : ℕ → Option (List ℕ) → Type 0
AreWithin n None = Unit {0}
AreWithin n (Some places) = All (λ (p : ℕ). p < n) places

-- a name for each column, and columns of one length
pub record AreColumns (names : List (List ℕ)) (columns : List Contents) : Type 0 where
  pub named : length names ≡ length columns
  pub even : All (λ (c : Contents). length c.atoms ≡ rows_of columns) columns

-- named columns of one length, and the indices of some of their rows
pub record AreRows (names : List (List ℕ)) (columns : List Contents) (places : Option (List ℕ)) : Type 0 where
  pub even : AreColumns names columns
  pub within : AreWithin (rows_of columns) places

-- the kind of a frame's column
abbrev pub kind_beside : Frame → List ℕ → Option Kind
kind_beside frame name = beside name frame.names frame.kinds

-- columns of this length
abbrev pub are_of_size : ℕ → List Contents → Bool
are_of_size size columns = list_all (λ (c : Contents). length c.atoms == size) columns
