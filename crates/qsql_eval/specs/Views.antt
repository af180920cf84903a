-- When a query is refused, and when rows have the columns that it needs.
use Rattle.std.specs.Prelude.{◌≡◌, ℕ, Bool, false, if◌then◌else◌, List, [], ◌++◌, Option, Some, None}
use Rattle.std.specs.List.{list_all}
use Rattle.q_values.specs.Kind.{is}
use Rattle.q_values.specs.declared.kind.Kind.{Kind}
use Rattle.day_rows.specs.declared.schema.Shape.{Shape}
use Rattle.qsql_request.specs.Forms.{QueryForm}
use Rattle.qsql_request.specs.Names.{names_of}
use Rattle.qsql_request.specs.Unbuilt.{is_empty}
use Rattle.qsql_values.specs.Frames.{Frame, kind_beside}
use Rattle.qsql_values.specs.Kinds.{column_kind}
use Rattle.qsql_eval.specs.Judgement.{Judgement, unknown, mistyped, all_columns}
use Rattle.qsql_eval.specs.declared.typed.CheckRefusal.{CheckRefusal}
use Rattle.qsql_eval.specs.declared.typed.CheckRefusal.TheVariants.{NoName, WrongType, NoMemory}

-- when `check` refuses a query of which this was found
abbrev pub RefusesQuery : Judgement → CheckRefusal → Type 0
RefusesQuery found (NoName name) = found ≡ unknown name
RefusesQuery found WrongType = found ≡ mistyped
RefusesQuery found NoMemory = Unit {0}

-- the columns that a query needs: those that it names, and where it is to show all columns, these
abbrev pub needed : QueryForm → Shape → List (List ℕ)
needed q table = names_of q ++ (if is_empty q.columns then all_columns table else [])

-- a column is there, and has the kind that is wanted
abbrev pub is_kind : Option Kind → Option Kind → Bool
is_kind None there = false
is_kind (Some kind) None = false
is_kind (Some kind) (Some other) = is kind other

abbrev pub has_column : Shape → (List ℕ → Option Kind) → List ℕ → Bool
has_column table there name = is_kind (column_kind table name) (there name)

-- rows have the columns that a query needs, each of the kind that its table gives it
abbrev pub has_columns : Shape → QueryForm → Frame → Bool
has_columns table q frame = list_all (has_column table (kind_beside frame)) (needed q table)

-- the name is refused, or memory ran out
abbrev pub NamesOrMemory : List ℕ → CheckRefusal → Type 0
NamesOrMemory name (NoName other) = other ≡ name
NamesOrMemory name WrongType = ⊥
NamesOrMemory name NoMemory = Unit {0}
