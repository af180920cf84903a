-- Rows grouped by the columns after `by`.
use Rattle.std.specs.Prelude.{◌≡◌, ◌<◌, ℕ, ◌-◌, List, map, length, slice_index, unwrap_or, All}
use Rattle.std.specs.List.{flat_map, range_with_len}
use Rattle.q_values.specs.Contents.{Contents}
use Rattle.q_values.specs.Table.{rows_of}
use Rattle.q_values.specs.declared.atom.Atom.{Atom}
use Rattle.q_values.specs.declared.kind.Kind.TheVariants as k
use Rattle.q_keys.specs.Keys.{key_rows, codes_in, firsts_in, rows_of_group}
use Rattle.qsql_request.specs.Forms.{Form, ColumnForm}
use Rattle.qsql_values.specs.Frames.{Frame, AreColumns, kind_beside, rows_at}
use Rattle.qsql_values.specs.Kinds.{kind_in}
use Rattle.qsql_values.specs.Places.{column_at}
use Rattle.qsql_values.specs.Values.{items_in, val}

-- rows in groups: the key columns with one item for each group, the number of each row's group, and the index of each group's
-- first row
pub record Groups : Type 0 where
  pub rows : Frame
  pub keys : List Contents
  pub codes : List ℕ
  pub firsts : List ℕ

-- the key columns, with an item for each row: the values of the columns after `by`
abbrev pub key_columns : List ColumnForm → Frame → List Contents
key_columns by frame = map (λ (c : ColumnForm). items_in (val frame c.expr)) by

-- rows grouped by keys, an item of each key column for each row: the keys of a group are those of its first row
abbrev pub groups_of : Frame → List Contents → List (List Atom) → Groups
groups_of frame keys rows = record { rows = frame; keys = map (column_at (firsts_in rows)) keys; codes = codes_in rows; firsts = firsts_in rows }

-- rows grouped by key columns: the rows with equal keys make a group, and the groups are in ascending order of their keys
abbrev pub groups_by : Frame → List Contents → Groups
groups_by frame keys = groups_of frame keys (key_rows (rows_of keys) keys)

-- rows grouped by the columns after `by`
abbrev pub groups : List ColumnForm → Frame → Groups
groups by frame = groups_by frame (key_columns by frame)

-- the rows of each group, in order, by their indices
abbrev pub parts : List ℕ → ℕ → List (List ℕ)
parts codes count = map (λ (g : ℕ). rows_of_group g codes) (range_with_len 0 count)

abbrev pub parts_of : Groups → List (List ℕ)
parts_of g = parts g.codes (length g.firsts)

-- what rows in groups are made of: columns of one length, the number of a group for each row, indices of rows, and keys with an
-- item for each group
pub record AreGroups (names : List (List ℕ)) (columns keys : List Contents) (codes firsts : List ℕ) : Type 0 where
  pub even : AreColumns names columns
  pub size : length codes ≡ rows_of columns
  pub keyed : All (λ (c : Contents). length c.atoms ≡ length firsts) keys
  pub low : All (λ (c : ℕ). c < length firsts) codes
  pub within : All (λ (f : ℕ). f < rows_of columns) firsts

-- the index of a group's last row
abbrev pub last_row : List ℕ → ℕ
last_row part = slice_index part (length part - 1)

-- the last row of each group
abbrev pub last_rows : Groups → Frame
last_rows g = rows_at (map last_row (parts_of g)) g.rows

-- the items of an expression's value over some rows
abbrev pub items_over : Frame → Form → List ℕ → List Atom
items_over frame e part = (items_in (val (rows_at part frame) e)).atoms

-- the values of an expression over the rows of each group, in the kind that the expression has
abbrev pub value_by_group : Groups → Form → Contents
value_by_group g e = record { kind = unwrap_or (kind_in (kind_beside g.rows) e) k.Boolean; atoms = flat_map (items_over g.rows e) (parts_of g) }
