-- The kind of an expression.
use Rattle.std.specs.Prelude.{ℕ, ◌==◌, Bool, true, false, not, ◌&&◌, if◌then◌else◌, List, length, codes, Option, Some, None}
use Rattle.std.specs.Prelude.{option_and_then}
use Rattle.std.specs.Str.{bytes_eq}
use Rattle.q_values.specs.Atom.{kind_of}
use Rattle.q_values.specs.Tree.{Tree, atom, vector}
use Rattle.q_values.specs.declared.kind.Kind.{Kind}
use Rattle.q_values.specs.declared.kind.Kind.TheVariants as k
use Rattle.q_verbs.specs.Kinds.{result_kind_of, result_kind1_of}
use Rattle.q_verbs.specs.declared.verb.Verb.{Verb}
use Rattle.q_verbs.specs.declared.verb.Verb.TheVariants as v
use Rattle.day_rows.specs.declared.schema.Shape.{Shape}
use Rattle.qsql_request.specs.Forms.{Form, constant, column, one, two}
use Rattle.qsql_values.specs.Beside.{beside}

-- the kind of a table's column: each table has the columns `date` and `i` too
abbrev pub column_kind : Shape → List ℕ → Option Kind
column_kind table name =
    if bytes_eq name (codes "date") then Some k.Date
    else (if bytes_eq name (codes "i") then Some k.Long
    else beside name table.names table.kinds)

abbrev pub literal_kind : Tree → Option Kind
literal_kind (atom x) = Some (kind_of x)
literal_kind (vector c) = Some c.kind
literal_kind _ = None

abbrev pub is_within : Verb → Bool
is_within v.Within = true
is_within _ = false

abbrev pub is_vector_of_two : Tree → Bool
is_vector_of_two (vector c) = length c.atoms == 2
is_vector_of_two _ = false

-- a vector literal of two items, which `within` wants at its right
abbrev pub are_ends : Form → Bool
are_ends (constant value) = is_vector_of_two value
are_ends _ = false

abbrev pub kind_of_both : Verb → Option Kind → Option Kind → Option Kind
kind_of_both verb None right = None
kind_of_both verb (Some left) None = None
kind_of_both verb (Some left) (Some right) = result_kind_of verb left right

-- the kind of an expression over columns of these kinds; none where a verb in it doesn't take its sides
abbrev pub kind_in : (List ℕ → Option Kind) → Form → Option Kind
kind_in columns (constant value) = literal_kind value
kind_in columns (column name) = columns name
kind_in columns (one verb side) = option_and_then (result_kind1_of verb) (kind_in columns side)
kind_in columns (two verb left right) =
    if is_within verb && not (are_ends right) then None else kind_of_both verb (kind_in columns left) (kind_in columns right)
