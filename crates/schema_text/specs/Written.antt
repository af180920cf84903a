-- The written form of a schema: a line for each table, without blanks and attributes.
use Rattle.std.specs.Prelude.{ℕ, List, [], ◌∷◌, ◌++◌, codes}
use Rattle.q_values.specs.declared.kind.Kind.{Kind}
use Rattle.q_values.specs.declared.kind.Kind.TheVariants as k
use Rattle.day_rows.specs.declared.schema.Shape.{Shape}

-- the name of a kind; no column is of characters (KX, Datatypes reference)
abbrev pub kind_name : Kind → List ℕ
kind_name k.Boolean = codes "boolean"
kind_name k.Byte = codes "byte"
kind_name k.Short = codes "short"
kind_name k.Integer = codes "int"
kind_name k.Long = codes "long"
kind_name k.Character = codes "char"
kind_name k.Symbol = codes "symbol"
kind_name k.Timestamp = codes "timestamp"
kind_name k.Month = codes "month"
kind_name k.Date = codes "date"
kind_name k.Timespan = codes "timespan"
kind_name k.Minute = codes "minute"
kind_name k.Second = codes "second"
kind_name k.Time = codes "time"

-- what stands after a column's name: its kind, and the text after the column
abbrev pub column_rest : Kind → List ℕ → List ℕ
column_rest kind rest = codes ":`" ++ (kind_name kind ++ (codes "$()" ++ rest))

-- the columns after the first, each after a ";", then the end of the line and the text after it
abbrev pub later_columns : List (List ℕ) → List Kind → List ℕ → List ℕ
later_columns (name ∷ names) (kind ∷ kinds) rest = codes ";" ++ (name ++ column_rest kind (later_columns names kinds rest))
later_columns _ _ rest = codes ")\n" ++ rest

-- the columns of a table, and the text after its line
abbrev pub columns_then : List (List ℕ) → List Kind → List ℕ → List ℕ
columns_then (name ∷ names) (kind ∷ kinds) rest = name ++ column_rest kind (later_columns names kinds rest)
columns_then _ _ rest = rest

-- the written form
abbrev pub written : List Shape → List ℕ
written [] = []
written (table ∷ tables) = table.table ++ (codes ":([]" ++ columns_then table.names table.kinds (written tables))
