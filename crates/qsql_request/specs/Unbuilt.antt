-- Which forms are not built, as far as that can be seen without a schema, and the names of columns.
use Rattle.std.specs.Prelude.{ℕ, ◌==◌, ◌||◌, ◌&&◌, not, Bool, true, false, if◌then◌else◌, List, [], ◌∷◌, ◌++◌, map, codes, Option, Some, None}
use Rattle.std.specs.List.{list_any}
use Rattle.std.specs.Str.{bytes_eq}
use Rattle.q_values.specs.Tree.{Tree, atom, vector}
use Rattle.q_values.specs.Contents.{Contents}
use Rattle.q_values.specs.declared.atom.Atom.{Atom}
use Rattle.q_values.specs.declared.atom.Atom.TheVariants as a
use Rattle.q_values.specs.declared.kind.Kind.{Kind}
use Rattle.q_values.specs.declared.kind.Kind.TheVariants as k
use Rattle.q_verbs.specs.declared.verb.Verb.{Verb}
use Rattle.q_verbs.specs.declared.verb.Verb.TheVariants as v
use Rattle.qsql_request.specs.Forms.{Form, constant, column, one, two, ColumnForm, QueryForm, SourceForm, all_of, rows_of, RequestForm, query_form}
use Rattle.qsql_request.specs.Forms.{aj_form, count_form, day_form, sub_form}
use Rattle.qsql_request.specs.Shapes.{shape, is_list, is_scalar, is_rows}

-- `[`, which a pattern may not have
abbrev pub is_bracket : Atom → Bool
is_bracket (a.Character b) = b == 91
is_bracket _ = false

abbrev pub is_character : Kind → Bool
is_character k.Character = true
is_character _ = false

abbrev pub is_pattern_atom : Atom → Bool
is_pattern_atom (a.Character b) = not (b == 91)
is_pattern_atom _ = false

-- characters without `[`
abbrev pub is_pattern_contents : Contents → Bool
is_pattern_contents c = is_character c.kind && not (list_any is_bracket c.atoms)

abbrev pub is_pattern_value : Tree → Bool
is_pattern_value (atom x) = is_pattern_atom x
is_pattern_value (vector c) = is_pattern_contents c
is_pattern_value _ = false

abbrev pub is_pattern : Form → Bool
is_pattern (constant value) = is_pattern_value value
is_pattern _ = false

abbrev pub takes_list : Verb → Bool
takes_list v.In = true
takes_list v.Within = true
takes_list _ = false

abbrev pub is_like : Verb → Bool
is_like v.Like = true
is_like _ = false

-- a right side that a verb can't take: for `like` anything but a pattern, for `in` and `within` nothing, and else a list
abbrev pub is_wrong_right : Verb → Form → Bool
is_wrong_right verb right = if is_like verb then not (is_pattern right) else is_list (shape right) && not (takes_list verb)

-- an expression with a list as a side of a verb that takes none, or a `like` without a pattern
abbrev pub has_unbuilt : Form → Bool
has_unbuilt (constant value) = false
has_unbuilt (column name) = false
has_unbuilt (one verb side) = has_unbuilt side
has_unbuilt (two verb left right) = is_list (shape left) || (is_wrong_right verb right || (has_unbuilt left || has_unbuilt right))

-- the virtual column with the row numbers
abbrev pub is_row_number : List ℕ → Bool
is_row_number name = bytes_eq name (codes "i")

-- the names that an expression mentions, other than `i`
abbrev pub mentioned : Form → List (List ℕ)
mentioned (constant value) = []
mentioned (column name) = if is_row_number name then [] else name ∷ []
mentioned (one verb side) = mentioned side
mentioned (two verb left right) = mentioned left ++ mentioned right

abbrev pub map_option : {X Y : Type 0} → (X → Y) → Option X → Option Y
map_option f None = None
map_option f (Some x) = Some (f x)

abbrev pub head_of : {X : Type 0} → List X → Option X
head_of [] = None
head_of (x ∷ xs) = Some x

-- whether one of the names differs from this one
abbrev pub has_other : List ℕ → List (List ℕ) → Bool
has_other name [] = false
has_other name (other ∷ names) = not (bytes_eq name other) || has_other name names

-- whether there are two different names
abbrev pub are_two : List (List ℕ) → Bool
are_two [] = false
are_two (name ∷ names) = has_other name names

-- an unnamed column has the first name that it mentions, or `x`
abbrev pub only_name : List (List ℕ) → List ℕ
only_name [] = codes "x"
only_name (name ∷ names) = name

abbrev pub name_or : Option (List ℕ) → List ℕ → List ℕ
name_or (Some name) other = name
name_or None other = other

-- the name of a result column
abbrev pub column_name : ColumnForm → List ℕ
column_name c = name_or c.name (only_name (mentioned c.expr))

abbrev pub is_none : {X : Type 0} → Option X → Bool
is_none (Some x) = false
is_none None = true

abbrev pub is_empty : {X : Type 0} → List X → Bool
is_empty [] = true
is_empty (x ∷ xs) = false

abbrev pub is_one : {X : Type 0} → List X → Bool
is_one [] = false
is_one (x ∷ xs) = is_empty xs

-- an unnamed column that mentions two names
abbrev pub is_nameless : ColumnForm → Bool
is_nameless c = is_none c.name && are_two (mentioned c.expr)

abbrev pub is_unbuilt_column : ColumnForm → Bool
is_unbuilt_column c = has_unbuilt c.expr || is_nameless c

-- a name that occurs twice
abbrev pub has_twice : List (List ℕ) → Bool
has_twice [] = false
has_twice (name ∷ names) = list_any (bytes_eq name) names || has_twice names

-- a name that both lists have
abbrev pub are_shared : List (List ℕ) → List (List ℕ) → Bool
are_shared names others = list_any (λ name. list_any (bytes_eq name) others) names

-- two columns with the same name, including those after `by`
abbrev pub have_one_name : List (List ℕ) → List (List ℕ) → Bool
have_one_name by columns = (has_twice by || has_twice columns) || are_shared by columns

-- a phrase without a value for each row
abbrev pub is_unbuilt_phrase : Form → Bool
is_unbuilt_phrase e = has_unbuilt e || not (is_rows (shape e))

abbrev pub has_list : List ColumnForm → Bool
has_list cs = list_any (λ c. is_list (shape c.expr)) cs

abbrev pub has_not_scalar : List ColumnForm → Bool
has_not_scalar cs = list_any (λ c. not (is_scalar (shape c.expr))) cs

abbrev pub has_not_rows : List ColumnForm → Bool
has_not_rows cs = list_any (λ c. not (is_rows (shape c.expr))) cs

-- a column that doesn't fit: with `by` one that isn't a single value, or else a list in a `select`
abbrev pub has_wrong_shape : QueryForm → Bool
has_wrong_shape q =
    if is_empty q.by then not q.exec && has_list q.columns
    else has_not_scalar q.columns || has_not_rows q.by

-- an `exec` without columns, or one with `by` that has more than one column before or after it
abbrev pub is_wrong_exec : QueryForm → Bool
is_wrong_exec q = q.exec && (is_empty q.columns || (not (is_empty q.by) && not (is_one q.columns && is_one q.by)))

-- `[n]` with `exec` or with `by`
abbrev pub is_wrong_first : QueryForm → Bool
is_wrong_first q = not (is_none q.first) && (q.exec || not (is_empty q.by))

abbrev pub has_unbuilt_parts : QueryForm → Bool
has_unbuilt_parts q = list_any is_unbuilt_column q.columns || (list_any is_unbuilt_column q.by || list_any is_unbuilt_phrase q.phrases)

abbrev pub is_unbuilt_query : QueryForm → Bool
is_unbuilt_query q =
    has_unbuilt_parts q || (has_wrong_shape q || (is_wrong_exec q || (is_wrong_first q || have_one_name (map column_name q.by) (map column_name q.columns))))

-- a side of an as-of join that is a query with `by`, an `exec`, or not built itself
abbrev pub is_unbuilt_source : SourceForm → Bool
is_unbuilt_source (all_of name) = false
is_unbuilt_source (rows_of q) = q.exec || (not (is_empty q.by) || is_unbuilt_query q)

-- what is not built, as far as that can be seen without a schema
abbrev pub is_unbuilt : RequestForm → Bool
is_unbuilt (query_form q) = is_unbuilt_query q
is_unbuilt (aj_form j) = is_unbuilt_source j.left || is_unbuilt_source j.right
is_unbuilt count_form = false
is_unbuilt day_form = false
is_unbuilt (sub_form s) = false
