-- A table's columns, joined from consecutive updates.
use Rattle.std.specs.Prelude.{ℕ, ◌==◌, if◌then◌else◌, List, [], Option, Some, None, slice_get}
use Rattle.std.specs.List.{flat_map}
use Rattle.q_values.specs.Contents.{Contents}
use Rattle.q_values.specs.Table.{rows_of}
use Rattle.q_values.specs.declared.atom.Atom.{Atom}
use Rattle.day_rows.specs.declared.entry.Entry.{Entry}
use Rattle.day_rows.specs.declared.entry.Entry.TheVariants as e

abbrev pub atoms_of : Option Contents → List Atom
atoms_of None = []
atoms_of (Some column) = column.atoms

-- the atoms of a column in an update of a table
abbrev pub atoms_in : ℕ → ℕ → Entry → List Atom
atoms_in table column (e.Upd by to columns) = if to == table then atoms_of (slice_get columns column) else []
atoms_in table column (e.Roll by date) = []
atoms_in table column (e.Fault by) = []

-- the number of a table's rows in an entry
abbrev pub rows_in : ℕ → Entry → ℕ
rows_in table (e.Upd by to columns) = if to == table then rows_of columns else 0
rows_in table (e.Roll by date) = 0
rows_in table (e.Fault by) = 0

-- a table's column in the order of arrival
abbrev pub joined : ℕ → ℕ → List Entry → List Atom
joined table column = flat_map (atoms_in table column)
