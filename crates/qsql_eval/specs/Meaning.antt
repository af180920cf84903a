-- The value of a query.
use Rattle.std.specs.Prelude.{ℕ, ℤ, pos, negsuc, ◌-◌, suc, Bool, false, not, if◌then◌else◌}
use Rattle.std.specs.Prelude.{List, [], ◌∷◌, map, length, take, drop, replicate, Option, Some, None}
use Rattle.std.specs.List.{list_all, filter, flat_map}
use Rattle.q_values.specs.Atom.{kind_of}
use Rattle.q_values.specs.Contents.{Contents}
use Rattle.q_values.specs.Kind.{is}
use Rattle.q_values.specs.Tree.{Grid, Tree, atom, vector, list, dict, table, keyed, identity, items_of}
use Rattle.q_values.specs.declared.atom.Atom.TheVariants as a
use Rattle.q_values.specs.declared.kind.Kind.{Kind}
use Rattle.q_values.specs.declared.kind.Kind.TheVariants as k
use Rattle.qsql_request.specs.Forms.{ColumnForm, QueryForm}
use Rattle.qsql_request.specs.Shapes.{is_atom}
use Rattle.qsql_request.specs.Unbuilt.{column_name, is_empty}
use Rattle.qsql_values.specs.Frames.{Frame, column_in}
use Rattle.qsql_values.specs.Values.{items_in, val, kept}
use Rattle.qsql_groups.specs.Groups.{Groups, groups, last_rows, value_by_group}
use Rattle.qsql_eval.specs.Judgement.{is_name_of_by}

-- the values of columns, in order
abbrev pub values_of : Frame → List ColumnForm → List Tree
values_of frame = map (λ (c : ColumnForm). val frame c.expr)

-- the rows that `[n]` leaves: the first n, or the last n where it is negative, or all where there are fewer
abbrev pub limited : {X : Type 0} → Option ℤ → List X → List X
limited None xs = xs
limited (Some (pos n)) xs = take n xs
limited (Some (negsuc n)) xs = drop (length xs - suc n) xs

-- a column of n rows: an atom is in each of them
abbrev pub spread : ℕ → Tree → Contents
spread n (atom x) = record { kind = kind_of x; atoms = replicate n x }
spread n value = items_in value

-- the number of rows of these columns: one where all are atoms
abbrev pub row_count : Frame → List Tree → ℕ
row_count frame values = if list_all is_atom values then 1 else length frame.rows

abbrev pub limited_column : Option ℤ → Contents → Contents
limited_column first c = record c { atoms = limited first c.atoms }

abbrev pub grid_of : Option ℤ → List (List ℕ) → List Contents → Tree
grid_of first names columns = table (record { names = names; columns = map (limited_column first) columns })

abbrev pub grid_of_columns : Option ℤ → Frame → List ColumnForm → Tree
grid_of_columns first frame cs = grid_of first (map column_name cs) (map (spread (row_count frame (values_of frame cs))) (values_of frame cs))

-- `select`: a table of its columns, or of all columns where it names none
abbrev pub selection : List (List ℕ) → QueryForm → Frame → Tree
selection all q frame = if is_empty q.columns then grid_of q.first all (map (column_in frame) all) else grid_of_columns q.first frame q.columns

abbrev pub is_atom_of : Kind → Tree → Bool
is_atom_of kind (atom x) = is (kind_of x) kind
is_atom_of kind value = false

-- the kind of values that are all atoms of one kind
abbrev pub one_kind : List Tree → Option Kind
one_kind [] = None
one_kind (value ∷ values) = if list_all (is_atom_of (items_in value).kind) (value ∷ values) then Some (items_in value).kind else None

-- values together: a vector where all are atoms of one kind, else a list
abbrev pub together_of : Option Kind → List Tree → Tree
together_of None values = list (items_of values)
together_of (Some kind) values = vector (record { kind = kind; atoms = flat_map (λ (t : Tree). (items_in t).atoms) values })

abbrev pub together : List Tree → Tree
together values = together_of (one_kind values) values

abbrev pub names_vector : List (List ℕ) → Tree
names_vector names = vector (record { kind = k.Symbol; atoms = map (λ (name : List ℕ). a.Symbol name) names })

-- `exec`: the value of its one column, or else a dictionary from the names to the values
abbrev pub execution_of : List (List ℕ) → List Tree → Tree
execution_of names [] = dict (names_vector names) (together [])
execution_of names (value ∷ []) = value
execution_of names (value ∷ other ∷ values) = dict (names_vector names) (together (value ∷ other ∷ values))

abbrev pub execution : QueryForm → Frame → Tree
execution q frame = execution_of (map column_name q.columns) (values_of frame q.columns)

-- the key columns of a table with `by`
abbrev pub key_grid : List ColumnForm → Groups → Grid
key_grid by g = record { names = map column_name by; columns = g.keys }

-- columns with one item for each group
abbrev pub group_columns : List ColumnForm → Groups → List Contents
group_columns cs g = map (λ (c : ColumnForm). value_by_group g c.expr) cs

-- the columns that a `select` with `by` shows where it names none: those that the columns after `by` don't name
abbrev pub other_names : List (List ℕ) → QueryForm → List (List ℕ)
other_names all q = filter (λ (name : List ℕ). not (is_name_of_by q name)) all

-- the last row of each group, in columns with these names
abbrev pub last_grid : List (List ℕ) → Groups → Grid
last_grid names g = record { names = names; columns = map (column_in (last_rows g)) names }

abbrev pub column_grid : List ColumnForm → Groups → Grid
column_grid cs g = record { names = map column_name cs; columns = group_columns cs g }

-- the other columns of a table with `by`: those of the query, or else the last row of each group
abbrev pub value_grid : List (List ℕ) → QueryForm → Groups → Grid
value_grid all q g = if is_empty q.columns then last_grid (other_names all q) g else column_grid q.columns g

-- `exec` with `by`: a dictionary from the keys to the values
abbrev pub dictionary_of : List Contents → List Contents → Tree
dictionary_of (key ∷ []) (value ∷ []) = dict (vector key) (vector value)
dictionary_of keys values = identity

-- the value of a query with `by` over its groups: a keyed table, or the dictionary of an `exec`
abbrev pub value_over_groups : List (List ℕ) → QueryForm → Groups → Tree
value_over_groups all q g =
    if q.exec then dictionary_of g.keys (group_columns q.columns g) else keyed (key_grid q.by g) (value_grid all q g)

-- the value of a query without `by`
abbrev pub value_over_rows : List (List ℕ) → QueryForm → Frame → Tree
value_over_rows all q frame = if q.exec then execution q frame else selection all q frame

abbrev pub value_over_kept : List (List ℕ) → QueryForm → Frame → Tree
value_over_kept all q frame = if is_empty q.by then value_over_rows all q frame else value_over_groups all q (groups q.by frame)

-- the value of a query over rows of its table; `all` is the columns of a `select` that names none
abbrev pub meaning : List (List ℕ) → QueryForm → Frame → Tree
meaning all q frame = value_over_kept all q (kept q.phrases frame)
