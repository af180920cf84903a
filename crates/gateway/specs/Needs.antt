-- The columns of a table that a query needs.
use Rattle.std.specs.Prelude.{◌≡◌, ℕ, Bool, if◌then◌else◌, List, [], ◌∷◌, length, codes, All}
use Rattle.std.specs.List.{list_any}
use Rattle.std.specs.Str.{bytes_eq}
use Rattle.q_values.specs.Contents.{Contents}
use Rattle.day_rows.specs.declared.schema.Shape.{Shape}
use Rattle.qsql_request.specs.Forms.{QueryForm}
use Rattle.qsql_values.specs.Frames.{Frame, column_in, kind_beside}
use Rattle.qsql_eval.specs.Judgement.{all_columns}
use Rattle.qsql_eval.specs.Meaning.{meaning}
use Rattle.qsql_eval.specs.Views.{needed}

-- the columns that are read: those that are needed, or `date` where none is
abbrev pub wanted : List (List ℕ) → List (List ℕ)
wanted [] = codes "date" ∷ []
wanted (name ∷ names) = name ∷ names

abbrev pub is_wanted : List (List ℕ) → List ℕ → Bool
is_wanted names name = list_any (bytes_eq name) (wanted names)

-- of columns with these names, those that are wanted
abbrev pub chosen : (List ℕ → Bool) → List (List ℕ) → List Contents → List Contents
chosen is_chosen [] columns = []
chosen is_chosen (name ∷ names) [] = []
chosen is_chosen (name ∷ names) (column ∷ columns) =
    if is_chosen name then column ∷ chosen is_chosen names columns else chosen is_chosen names columns

-- two lists of rows have the same column of this name
pub record SameColumn (f g : Frame) (name : List ℕ) : Type 0 where
  pub kind : kind_beside f name ≡ kind_beside g name
  pub column : column_in f name ≡ column_in g name

-- two lists of rows, of one length, have the same columns of these names
pub record AreSame (f g : Frame) (names : List (List ℕ)) : Type 0 where
  pub size : length f.rows ≡ length g.rows
  pub columns : All (SameColumn f g) names

-- the value of a query is determined by the columns that it needs
abbrev pub NeededColumnsSuffice : Type 0
NeededColumnsSuffice =
    (table : Shape) (q : QueryForm) (f g : Frame) → AreSame f g (needed q table)
    → meaning (all_columns table) q f ≡ meaning (all_columns table) q g
