-- Expressions that are evaluated for all groups at once.
use Rattle.std.specs.Prelude.{◌≡◌, ◌<◌, ℕ, Bool, true, false, ◌&&◌, if◌then◌else◌, List, length, replicate, Some, All, slice_index_or}
use Rattle.q_values.specs.Atom.{kind_of}
use Rattle.q_values.specs.Contents.{Contents}
use Rattle.q_values.specs.Tree.{Tree, atom, vector}
use Rattle.q_values.specs.declared.atom.Atom.{Atom}
use Rattle.q_verbs.specs.declared.verb.Verb1.{Verb1}
use Rattle.q_verbs.specs.declared.verb.Verb1.TheVariants as u
use Rattle.day_rows.specs.Rows.{absent}
use Rattle.q_keys.specs.Keys.{KeyGrouping, rows_of_group}
use Rattle.qsql_request.specs.Forms.{Form, constant, column, one, two}
use Rattle.qsql_request.specs.Shapes.{shape, is_atom, is_rows, is_test}
use Rattle.qsql_request.specs.declared.shapes.Shape.{Shape}
use Rattle.qsql_request.specs.declared.shapes.Shape.TheVariants as s
use Rattle.qsql_values.specs.ByRow.{is_by_row, is_fixed}
use Rattle.qsql_values.specs.Frames.{Frame, kind_beside, rows_at}
use Rattle.qsql_values.specs.Kinds.{kind_in}
use Rattle.qsql_values.specs.Operands.{kind_of_tree}
use Rattle.qsql_values.specs.Places.{column_at}
use Rattle.qsql_values.specs.Values.{val, items_in}

-- a verb with one side is evaluated at once over a side that is: `not` and `neg` by item, an aggregate over rows, `distinct` never
abbrev pub is_one_pass_verb : Verb1 → Bool → Bool
is_one_pass_verb u.Not rows = true
is_one_pass_verb u.Neg rows = true
is_one_pass_verb u.Distinct rows = false
is_one_pass_verb _ rows = rows

-- it has no `distinct`, no aggregate of a single value, and no test of aggregates or with rows at its right
abbrev pub is_one_pass : Form → Bool
is_one_pass (constant value) = is_atom value
is_one_pass (column name) = true
is_one_pass (one verb side) = is_one_pass_verb verb (is_rows (shape side)) && is_one_pass side
is_one_pass (two verb left right) = if is_test verb then is_by_row left && is_fixed right else is_one_pass left && is_one_pass right

-- the value over the rows of group g, from the value for all groups: an atom is the same for each, a column has an item for each
-- row or for each group
abbrev pub of_group : Bool → ℕ → List ℕ → Tree → Tree
of_group true g codes (vector c) = vector (column_at (rows_of_group g codes) c)
of_group false g codes (vector c) = atom (slice_index_or c.atoms g absent)
of_group by_row g codes value = value

-- a column has an item for each row, or for each group where it isn't by row; an atom isn't by row
abbrev pub HasItems : ℕ → ℕ → Bool → Tree → Type 0
HasItems rows groups true (vector c) = length c.atoms ≡ rows
HasItems rows groups false (vector c) = length c.atoms ≡ groups
HasItems rows groups false (atom x) = Unit {0}
HasItems rows groups by_row value = ⊥

-- its items have its kind
abbrev pub IsOfOneKind : Tree → Type 0
IsOfOneKind (vector c) = All (λ (x : Atom). kind_of x ≡ c.kind) c.atoms
IsOfOneKind value = Unit {0}

-- a value for all groups has these values for each of them
pub record IsForGroups (groups : KeyGrouping) (values : ℕ → Tree) (by_row : Bool) (value : Tree) : Type 0 where
  pub items : HasItems (length groups.codes) (length groups.firsts) by_row value
  pub each : (g : ℕ) → g < length groups.firsts → values g ≡ of_group by_row g groups.codes value

-- the value of an expression over the rows of group g
abbrev pub val_of : Frame → List ℕ → Form → ℕ → Tree
val_of frame codes e g = val (rows_at (rows_of_group g codes) frame) e

abbrev pub shape_by : Bool → Shape
shape_by true = s.Rows
shape_by false = s.Scalar

-- a value for all groups has the values of an expression over the rows of each group
pub record IsByGroup (frame : Frame) (groups : KeyGrouping) (e : Form) (by_row : Bool) (value : Tree) : Type 0 where
  pub values : IsForGroups groups (val_of frame groups.codes e) by_row value
  pub kind : kind_in (kind_beside frame) e ≡ Some (kind_of_tree value)
  pub shape : shape e ≡ shape_by by_row

-- a column with an item for each group becomes one with an item for each row, where that is wanted
abbrev pub lent_to : Bool → Bool → List ℕ → Tree → Tree
lent_to true false codes (vector c) = vector (column_at codes c)
lent_to wanted by_row codes value = value

-- an item for each of n groups: an atom stands for each
abbrev pub per_group : ℕ → Tree → Contents
per_group n (atom x) = record { kind = kind_of x; atoms = replicate n x }
per_group n value = items_in value
