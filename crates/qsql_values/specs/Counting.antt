-- `count` of a column, which is the number of rows.
use Rattle.std.specs.Prelude.{ℕ, pos, Bool, true, false, ◌&&◌, Some}
use Rattle.q_values.specs.declared.atom.Atom.{Atom}
use Rattle.q_values.specs.declared.kind.Kind.TheVariants as k
use Rattle.q_verbs.specs.Numbers.{written}
use Rattle.q_verbs.specs.declared.verb.Verb1.{Verb1}
use Rattle.q_verbs.specs.declared.verb.Verb1.TheVariants as u
use Rattle.qsql_request.specs.Forms.{Form, constant, column, one, two}

abbrev pub is_column : Form → Bool
is_column (constant value) = false
is_column (column name) = true
is_column (one verb side) = false
is_column (two verb left right) = false

abbrev pub is_count : Verb1 → Bool
is_count u.Count = true
is_count _ = false

-- `count` of a column
abbrev pub is_row_count : Form → Bool
is_row_count (constant value) = false
is_row_count (column name) = false
is_row_count (one verb side) = is_count verb && is_column side
is_row_count (two verb left right) = false

-- a number of rows, as `count` gives it
abbrev pub count_atom : ℕ → Atom
count_atom n = written k.Long (Some (pos n))
