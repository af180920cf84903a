-- The rows of updates: one for each index of their columns.
use Rattle.std.specs.Prelude.{ℕ, ℤ, ◌+◌, ◌==◌, false, if◌then◌else◌, List, [], ◌∷◌, ◌++◌, map, slice_index_or}
use Rattle.std.specs.List.{range_with_len}
use Rattle.q_values.specs.Contents.{Contents}
use Rattle.q_values.specs.Table.{rows_of}
use Rattle.q_values.specs.declared.atom.Atom.{Atom}
use Rattle.q_values.specs.declared.atom.Atom.TheVariants as a
use Rattle.q_values.specs.declared.kind.Kind.{Kind}
use Rattle.day_rows.specs.declared.entry.Entry.{Entry}
use Rattle.day_rows.specs.declared.entry.Entry.TheVariants as e

-- a row of a table: its date, its number within table and date (from 0), and an atom for each column
pub record Row : Type 0 where
  pub date : ℤ
  pub arrival : ℕ
  pub fields : List Atom

-- the atom that is read past the end of a column or a row; no row of an update reads it
abbrev pub absent : Atom
absent = a.Boolean false

abbrev pub atom_at : ℕ → Contents → Atom
atom_at index column = slice_index_or column.atoms index absent

-- the atoms at each index of the columns
abbrev pub lines_of : List Contents → List (List Atom)
lines_of columns = map (λ index. map (atom_at index) columns) (range_with_len 0 (rows_of columns))

-- lines as rows of a date, numbered from `arrival` on
abbrev pub numbered : ℤ → ℕ → List (List Atom) → List Row
numbered date arrival [] = []
numbered date arrival (line ∷ lines) = record { date = date; arrival = arrival; fields = line } ∷ numbered date (arrival + 1) lines

-- the rows of a table, where this date is open and already has `count` of them
abbrev pub rows_from : ℤ → ℕ → List Entry → ℕ → List Row
rows_from date count [] table = []
rows_from date count (e.Upd by to columns ∷ entries) table =
    if to == table then numbered date count (lines_of columns) ++ rows_from date (count + rows_of columns) entries table else rows_from date count entries table
rows_from date count (e.Roll by next ∷ entries) table = rows_from next 0 entries table
rows_from date count (e.Fault by ∷ entries) table = rows_from date count entries table

-- each row of each update of a table, in the order of the entries; `first` is the date that is open before them
abbrev pub rows : ℤ → List Entry → ℕ → List Row
rows first = rows_from first 0

-- the atom of a row in the column with this index
abbrev pub field : ℕ → Row → Atom
field column row = slice_index_or row.fields column absent

-- a row's symbol: the second column of each table is `sym`
abbrev pub symbol_of : Row → Atom
symbol_of = field 1

-- a column, read from the rows
abbrev pub column_of : Kind → ℕ → List Row → Contents
column_of kind column shown = record { kind = kind; atoms = map (field column) shown }
