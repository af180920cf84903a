-- Shapes: whether an expression has a value for each row, a single value, or a list.
use Rattle.std.specs.Prelude.{Bool, true, false}
use Rattle.q_values.specs.Tree.{Tree, atom}
use Rattle.q_verbs.specs.declared.verb.Verb.{Verb}
use Rattle.q_verbs.specs.declared.verb.Verb.TheVariants as v
use Rattle.q_verbs.specs.declared.verb.Verb1.{Verb1}
use Rattle.q_verbs.specs.declared.verb.Verb1.TheVariants as u
use Rattle.qsql_request.specs.declared.shapes.Shape.{Shape}
use Rattle.qsql_request.specs.declared.shapes.Shape.TheVariants as s
use Rattle.qsql_request.specs.Forms.{Form, constant, column, one, two}

abbrev pub is_atom : Tree → Bool
is_atom (atom x) = true
is_atom _ = false

abbrev pub literal_shape : Bool → Shape
literal_shape true = s.Scalar
literal_shape false = s.List

-- `distinct` gives a list, `not` and `neg` keep the shape, each other verb with one side gives one value
abbrev pub shape_of_one : Verb1 → Shape → Shape
shape_of_one u.Not side = side
shape_of_one u.Neg side = side
shape_of_one u.Distinct side = s.List
shape_of_one _ side = s.Scalar

-- `in`, `within` and `like` have the shape of their left side
abbrev pub is_test : Verb → Bool
is_test v.In = true
is_test v.Within = true
is_test v.Like = true
is_test _ = false

abbrev pub is_scalar : Shape → Bool
is_scalar s.Scalar = true
is_scalar _ = false

abbrev pub is_list : Shape → Bool
is_list s.List = true
is_list _ = false

abbrev pub is_rows : Shape → Bool
is_rows s.Rows = true
is_rows _ = false

abbrev pub joined : Bool → Bool → Shape
joined true true = s.Scalar
joined _ _ = s.Rows

abbrev pub shape_of_two : Bool → Shape → Shape → Shape
shape_of_two true left right = left
shape_of_two false left right = joined (is_scalar left) (is_scalar right)

abbrev pub shape : Form → Shape
shape (constant value) = literal_shape (is_atom value)
shape (column name) = s.Rows
shape (one verb side) = shape_of_one verb (shape side)
shape (two verb left right) = shape_of_two (is_test verb) (shape left) (shape right)
