-- Why an update is refused: each cause in the order in which they are judged.
use Rattle.std.specs.Prelude.{ℕ, ℤ, ◌+◌, not, Bool, if◌then◌else◌, List, [], ◌∷◌, ◌++◌, length, Option, Some, None}
use Rattle.std.specs.List.{list_any}
use Rattle.std.specs.Str.{bytes_eq}
use Rattle.q_values.specs.Tree.{Tree}
use Rattle.q_values.specs.declared.kind.Kind.{Kind}
use Rattle.day_rows.specs.Chronicle.{date_of}
use Rattle.day_rows.specs.Day.{total_rows}
use Rattle.day_rows.specs.declared.entry.Entry.{Entry}
use Rattle.day_rows.specs.declared.schema.Shape.{Shape}
use Rattle.plant_memory.specs.Chronicle.{time_of_day, today}
use Rattle.plant_memory.specs.Frame.{Frame}
use Rattle.plant_memory.specs.Items.{timed, have_matching_lengths, is_of_kind}
use Rattle.plant_memory.specs.Limit.{is_beyond}
use Rattle.plant_memory.specs.Verdict.{Verdict, accepts, refuses, is_next_day, is_past_next_day}
use Rattle.plant_memory.specs.declared.refusal.UpdRefusal.{UpdRefusal}
use Rattle.plant_memory.specs.declared.refusal.UpdRefusal.TheVariants as r

abbrev pub is_table : List ℕ → List Shape → Bool
is_table name = list_any (λ (shape : Shape). bytes_eq shape.table name)

-- the kinds of the columns of the table with this name
abbrev pub kinds_of : List ℕ → List Shape → List Kind
kinds_of name [] = []
kinds_of name (shape ∷ shapes) = if bytes_eq shape.table name then shape.kinds else kinds_of name shapes

-- for each column, whether its item is of another kind; the first column has the index `i`
abbrev pub wrong_types : ℕ → List Kind → List Tree → List (UpdRefusal × Bool)
wrong_types i [] items = []
wrong_types i (kind ∷ kinds) [] = []
wrong_types i (kind ∷ kinds) (item ∷ items) = (r.WrongType i, not (is_of_kind kind item)) ∷ wrong_types (i + 1) kinds items

-- the number of rows of the date that the update would stand in
abbrev pub rows_before : ℤ → List Entry → ℤ → ℕ
rows_before date chronicle now = if is_next_day date now then 0 else total_rows (today chronicle)

-- each cause with whether it holds, for items that have their time
abbrev pub causes_of : Frame → List Entry → List ℕ → List Tree → ℤ → List (UpdRefusal × Bool)
causes_of frame chronicle name items now =
    (r.NoTable name, not (is_table name frame.schema))
    ∷ (r.Length, not (have_matching_lengths (length (kinds_of name frame.schema)) items))
    ∷ wrong_types 0 (kinds_of name frame.schema) items
    ++ (r.MoreThanOneDay, is_past_next_day (date_of frame.first chronicle) now)
    ∷ (r.Limit, is_beyond frame.limits (rows_before (date_of frame.first chronicle) chronicle now) name items)
    ∷ []

-- each cause with whether it holds, for an update of a table with these items at this moment
abbrev pub causes : Frame → List Entry → List ℕ → List Tree → ℤ → List (UpdRefusal × Bool)
causes frame chronicle name items now = causes_of frame chronicle name (timed (time_of_day now) items) now

-- the refusal of the first cause that holds
abbrev pub first_cause : List (UpdRefusal × Bool) → Option UpdRefusal
first_cause [] = None
first_cause (cause ∷ causes) = if cause.1 then Some cause.0 else first_cause causes

-- the refusal of a verdict, if it is one
abbrev pub refusal_of : Verdict → Option UpdRefusal
refusal_of (accepts entries) = None
refusal_of (refuses why) = Some why
