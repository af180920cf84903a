-- The names of the columns that a query needs.
use Rattle.std.specs.Prelude.{ℕ, Bool, if◌then◌else◌, List, [], ◌++◌}
use Rattle.day_rows.specs.declared.schema.Shape.{Shape}
use Rattle.qsql_eval.specs.Judgement.{all_columns}

-- the names of columns and, where a query is to show all, those of every column of its table
abbrev pub names_or_all : List (List ℕ) → Bool → Shape → List (List ℕ)
names_or_all names every table = names ++ (if every then all_columns table else [])
