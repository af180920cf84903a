-- Expressions whose item at a row comes of that row alone, so that they may be evaluated before other phrases are applied.
use Rattle.std.specs.Prelude.{Bool, true, false, ◌&&◌, if◌then◌else◌, List}
use Rattle.std.specs.Simd.Lanes.{zip2}
use Rattle.q_values.specs.Tree.{Tree, vector}
use Rattle.q_verbs.specs.declared.verb.Verb1.{Verb1}
use Rattle.q_verbs.specs.declared.verb.Verb1.TheVariants as u
use Rattle.qsql_request.specs.Forms.{Form, constant, column, one, two}
use Rattle.qsql_request.specs.Shapes.{is_atom, is_test}
use Rattle.qsql_values.specs.Frames.{Frame}
use Rattle.qsql_values.specs.Values.{selected}

-- it names no column, so it has one value over all rows
abbrev pub is_fixed : Form → Bool
is_fixed (constant value) = true
is_fixed (column name) = false
is_fixed (one verb side) = is_fixed side
is_fixed (two verb left right) = is_fixed left && is_fixed right

abbrev pub is_by_item : Verb1 → Bool
is_by_item u.Not = true
is_by_item u.Neg = true
is_by_item _ = false

-- it has no aggregate, no `distinct`, and no column at the right of a test
abbrev pub is_by_row : Form → Bool
is_by_row (constant value) = is_atom value
is_by_row (column name) = true
is_by_row (one verb side) = is_by_item verb && is_by_row side
is_by_row (two verb left right) = is_by_row left && (if is_test verb then is_fixed right else is_by_row right)

-- a value over some of the rows, from that over all: its items at the rows where it is true
abbrev pub picked : List Bool → Tree → Tree
picked flags (vector c) = vector (record c { atoms = selected flags c.atoms })
picked flags value = value

-- where both are true
abbrev pub both : List Bool → List Bool → List Bool
both = zip2 (λ (x y : Bool). x && y)

-- the rows of a frame where it is true
abbrev pub frame_where : List Bool → Frame → Frame
frame_where flags frame = record frame { rows = selected flags frame.rows }
