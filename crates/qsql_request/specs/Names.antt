-- The columns that a query names, in the order of its text.
use Rattle.std.specs.Prelude.{ℕ, List, [], ◌∷◌, ◌++◌}
use Rattle.std.specs.List.{flat_map}
use Rattle.qsql_request.specs.Forms.{Form, constant, column, one, two, ColumnForm, QueryForm}

-- the columns that an expression names, each as often as it does
abbrev pub names_in : Form → List (List ℕ)
names_in (constant value) = []
names_in (column name) = name ∷ []
names_in (one verb side) = names_in side
names_in (two verb left right) = names_in left ++ names_in right

abbrev pub names_in_columns : List ColumnForm → List (List ℕ)
names_in_columns = flat_map (λ (c : ColumnForm). names_in c.expr)

abbrev pub names_in_phrases : List Form → List (List ℕ)
names_in_phrases = flat_map names_in

-- the columns that a query names: those of its columns, then after `by`, then after `where`
abbrev pub names_of : QueryForm → List (List ℕ)
names_of q = names_in_columns q.columns ++ (names_in_columns q.by ++ names_in_phrases q.phrases)
