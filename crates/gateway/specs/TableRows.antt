-- The rows of a table as queries see them: in the documented order, with their date and their number within it.
use Rattle.std.specs.Prelude.{ℕ, ℤ, pos, ◌+◌, List, [], ◌∷◌, map, codes, length}
use Rattle.std.specs.List.{flat_map, range_with_len}
use Rattle.q_values.specs.Contents.{Contents}
use Rattle.q_values.specs.declared.atom.Atom.{Atom}
use Rattle.q_values.specs.declared.atom.Atom.TheVariants as a
use Rattle.q_values.specs.declared.kind.Kind.{Kind}
use Rattle.q_values.specs.declared.kind.Kind.TheVariants as k
use Rattle.day_rows.specs.Chronicle.{view}
use Rattle.day_rows.specs.Rows.{Row, column_of}
use Rattle.day_rows.specs.declared.entry.Entry.{Entry}
use Rattle.day_rows.specs.declared.schema.Shape.{Shape}
use Rattle.plant_memory.specs.Chronicle.{dates_of, rows_at}
use Rattle.qsql_request.specs.Forms.{Form}
use Rattle.qsql_values.specs.ByRow.{frame_where}
use Rattle.qsql_values.specs.Frames.{Frame, frame_of}
use Rattle.qsql_dates.specs.Dates.{keeps}

-- the virtual column `date`: the date of each row (KX, partitioned tables)
abbrev pub dates_of_rows : List Row → Contents
dates_of_rows rows = record { kind = k.Date; atoms = map (λ (row : Row). a.Date row.date) rows }

-- the numbers from 0 of n rows
abbrev pub numbers_to : ℕ → List Atom
numbers_to n = map (λ (i : ℕ). a.Long (pos i)) (range_with_len 0 n)

-- the virtual column `i` of the rows on the dates with these indices: the rows of each date are numbered from 0
abbrev pub numbers_on : List ℕ → ℤ → List Entry → ℕ → Contents
numbers_on dates first entries table =
    record { kind = k.Long; atoms = flat_map (λ (k : ℕ). numbers_to (length (rows_at first entries k table))) dates }

-- the indices of all dates
abbrev pub every_date : ℤ → List Entry → List ℕ
every_date first entries = range_with_len 0 (length (dates_of first entries))

abbrev pub row_numbers : ℤ → List Entry → ℕ → Contents
row_numbers first entries table = numbers_on (every_date first entries) first entries table

-- the columns of a table, read from its rows
abbrev pub columns_from : ℕ → List Kind → List Row → List Contents
columns_from index [] rows = []
columns_from index (kind ∷ kinds) rows = column_of kind index rows ∷ columns_from (index + 1) kinds rows

-- every row of a table in the documented order, with `date` and `i`
abbrev pub table_rows : ℤ → List Entry → ℕ → Shape → Frame
table_rows first entries index table =
    frame_of (codes "date" ∷ codes "i" ∷ table.names)
    (dates_of_rows (view first entries index) ∷ row_numbers first entries index ∷ columns_from 0 table.kinds (view first entries index))

-- of the rows of a table, those of the dates that some phrases keep
abbrev pub kept_rows : List Form → ℤ → List Entry → ℕ → Shape → Frame
kept_rows phrases first entries index table =
    frame_where (map (λ (row : Row). keeps phrases row.date) (view first entries index)) (table_rows first entries index table)
