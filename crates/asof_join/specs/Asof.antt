-- The as-of join (KX, aj): beside each row of the left table the row of the right one that held then.
use Rattle.std.specs.Prelude.{ℕ, ◌-◌, Bool, not, ◌&&◌, List, [], ◌++◌, map, take, length, codes, Option, None, unwrap_or, slice_index_or}
use Rattle.std.specs.List.{filter, last_or, list_all, list_any, range_with_len}
use Rattle.std.specs.Ordering.{is_gt}
use Rattle.std.specs.Simd.Lanes.{zip2}
use Rattle.std.specs.Str.{bytes_eq}
use Rattle.q_values.specs.Contents.{Contents}
use Rattle.q_values.specs.Order.{atom_cmp}
use Rattle.q_values.specs.Table.{rows_of}
use Rattle.q_values.specs.Tree.{Grid}
use Rattle.q_values.specs.declared.atom.Atom.{Atom}
use Rattle.q_values.specs.declared.kind.Kind.TheVariants as k
use Rattle.q_keys.specs.Keys.{key_rows, same_key}
use Rattle.q_verbs.specs.Aggregates.{null_of}
use Rattle.day_rows.specs.Rows.{absent}
use Rattle.qsql_values.specs.Beside.{beside}
use Rattle.q_grouped.specs.Steps.{item_or}

-- rows as the join looks at them: each row's items in the key columns but the last, and its last key
pub record KeyedRows : Type 0 where
  pub heads : List (List Atom)
  pub lasts : List Atom

abbrev pub head_at : KeyedRows → ℕ → List Atom
head_at rows index = slice_index_or rows.heads index []

abbrev pub last_at : KeyedRows → ℕ → Atom
last_at rows index = slice_index_or rows.lasts index absent

-- the row at the index is equal to a key in all but the last, and there isn't above it
abbrev pub is_match : KeyedRows → List Atom → Atom → ℕ → Bool
is_match rows head last index = same_key (head_at rows index) head && not (is_gt (atom_cmp (last_at rows index) last))

-- the indices of the rows that match a key
abbrev pub matching : KeyedRows → List Atom → Atom → List ℕ
matching rows head last = filter (is_match rows head last) (range_with_len 0 (length rows.lasts))

-- none of these rows has a greater last key than the row at the index
abbrev pub has_greatest : KeyedRows → List ℕ → ℕ → Bool
has_greatest rows others index = list_all (λ (other : ℕ). not (is_gt (atom_cmp (last_at rows other) (last_at rows index)))) others

-- the index of the row that holds at a key: of the rows that match it, the last of those with the greatest last key
abbrev pub row_as_of : KeyedRows → List Atom → Atom → Option ℕ
row_as_of rows head last = last_or None (filter (has_greatest rows (matching rows head last)) (matching rows head last))

-- for each row of the left side the index of the row of the right one that holds at its keys
abbrev pub rows_as_of : KeyedRows → KeyedRows → List (Option ℕ)
rows_as_of left right = zip2 (row_as_of right) left.heads left.lasts

-- the keys but the last
abbrev pub head_names : List (List ℕ) → List (List ℕ)
head_names keys = take (length keys - 1) keys

abbrev pub last_name : List (List ℕ) → List ℕ
last_name keys = slice_index_or keys (length keys - 1) []

-- a table's column with this name
abbrev pub column_named : Grid → List ℕ → Contents
column_named grid name = unwrap_or (beside name grid.names grid.columns) (record { kind = k.Boolean; atoms = [] })

-- the rows of a table, looked at by these keys
abbrev pub keyed_rows : List (List ℕ) → Grid → KeyedRows
keyed_rows keys grid = record {
  heads = key_rows (rows_of grid.columns) (map (column_named grid) (head_names keys));
  lasts = (column_named grid (last_name keys)).atoms;
}

-- a column's items at these indices, and the null of its kind where there is none
abbrev pub column_as_of : List (Option ℕ) → Contents → Contents
column_as_of found column = record { kind = column.kind; atoms = map (item_or (null_of column.kind) column.atoms) found }

-- the columns of the right table that the join adds: those that are no keys, other than `date`
abbrev pub is_added : List (List ℕ) → List ℕ → Bool
is_added keys name = not (list_any (bytes_eq name) keys) && not (bytes_eq name (codes "date"))

abbrev pub added_names : List (List ℕ) → List (List ℕ) → List (List ℕ)
added_names keys names = filter (is_added keys) names

-- the columns that the join adds, where these rows of the right table were found
abbrev pub added_columns : List (List ℕ) → Grid → List (Option ℕ) → List Contents
added_columns keys right found = map (λ (name : List ℕ). column_as_of found (column_named right name)) (added_names keys right.names)

-- the as-of join: the left table, and beside it the other columns of the right one, at the rows that hold at the keys
abbrev pub asof : List (List ℕ) → Grid → Grid → Grid
asof keys left right = record {
  names = left.names ++ added_names keys right.names;
  columns = left.columns ++ added_columns keys right (rows_as_of (keyed_rows keys left) (keyed_rows keys right));
}
