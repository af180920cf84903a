-- The rows of a table that phrases keep, and a query over them.
use Rattle.std.specs.Prelude.{◌≡◌, ℕ, ℤ, true, false, List, [], ◌∷◌, map, codes, Option, Some, None, is_some, All}
use Rattle.q_values.specs.Contents.{Contents}
use Rattle.q_values.specs.declared.kind.Kind.TheVariants as k
use Rattle.day_rows.specs.declared.entry.Entry.{Entry}
use Rattle.day_rows.specs.declared.schema.Shape.{Shape}
use Rattle.qsql_request.specs.Forms.{Form, QueryForm}
use Rattle.qsql_request.specs.Names.{names_in}
use Rattle.qsql_request.specs.Unbuilt.{is_unbuilt_phrase}
use Rattle.qsql_values.specs.Frames.{Frame, frame_of}
use Rattle.qsql_values.specs.Kinds.{column_kind, kind_in}
use Rattle.qsql_values.specs.Places.{column_at}
use Rattle.gateway.specs.DateRows.{columns_on}
use Rattle.gateway.specs.Needs.{is_wanted, chosen}

-- a query without its phrases
abbrev pub after_phrases : QueryForm → QueryForm
after_phrases q = record q { phrases = [] }

-- the items of a column at some indices, where there are such, or else all
abbrev pub column_part : Option (List ℕ) → Contents → Contents
column_part None = λ (column : Contents). column
column_part (Some places) = column_at places

-- the names of the columns of a table's rows: `date`, `i`, and those of the table
abbrev pub table_names : Shape → List (List ℕ)
table_names table = codes "date" ∷ codes "i" ∷ table.names

-- the rows of a table on these dates, with all of their columns
abbrev pub table_rows_on : List ℕ → ℤ → List Entry → ℕ → Shape → Frame
table_rows_on dates first entries index table = frame_of (table_names table) (columns_on dates first entries index table)

-- of the columns of these rows those that are wanted, at some indices
abbrev pub part_columns : Option (List ℕ) → List (List ℕ) → List ℕ → ℤ → List Entry → ℕ → Shape → List Contents
part_columns places needs dates first entries index table =
    map (column_part places) (chosen (is_wanted needs) (table_names table) (columns_on dates first entries index table))

-- a phrase of a query that fits the table: it is boolean and built, and the columns that it names are there
pub record IsPhraseOf (table : Shape) (phrase : Form) : Type 0 where
  pub kind : kind_in (column_kind table) phrase ≡ Some k.Boolean
  pub built : is_unbuilt_phrase phrase ≡ false
  pub known : All (λ (name : List ℕ). is_some (column_kind table name) ≡ true) (names_in phrase)
