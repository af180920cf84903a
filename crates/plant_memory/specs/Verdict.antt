-- What becomes of an update: the first refusal that holds, in this order, or the entries that it adds.
use Rattle.std.specs.Prelude.{ℕ, ℤ, pos, ◌+◌, ◌+ℤ◌, Bool, true, false, if◌then◌else◌, List, [], ◌∷◌, ◌++◌, length, Option, Some, None, int_lt}
use Rattle.std.specs.Ordering.{int_eq}
use Rattle.std.specs.Str.{bytes_eq}
use Rattle.q_values.specs.Tree.{Tree}
use Rattle.q_values.specs.declared.kind.Kind.{Kind}
use Rattle.q_values.specs.declared.limits.Limits.{Limits}
use Rattle.day_rows.specs.Chronicle.{date_of}
use Rattle.day_rows.specs.Day.{total_rows}
use Rattle.day_rows.specs.declared.entry.Entry.{Entry}
use Rattle.day_rows.specs.declared.entry.Entry.TheVariants as e
use Rattle.day_rows.specs.declared.schema.Shape.{Shape}
use Rattle.plant_memory.specs.Chronicle.{moment_date, time_of_day, today}
use Rattle.plant_memory.specs.Frame.{Frame}
use Rattle.plant_memory.specs.Items.{timed, have_matching_lengths, wrong_from, columns_of}
use Rattle.plant_memory.specs.Limit.{is_beyond}
use Rattle.plant_memory.specs.declared.refusal.UpdRefusal.{UpdRefusal}
use Rattle.plant_memory.specs.declared.refusal.UpdRefusal.TheVariants as r

-- either the first refusal that holds, or the entries to add
pub data Verdict : Type 0 where
  accepts : List Entry → Verdict
  refuses : UpdRefusal → Verdict

-- the moment's date is the day after this date
abbrev pub is_next_day : ℤ → ℤ → Bool
is_next_day date now = int_eq (moment_date now) (date +ℤ pos 1)

-- it is a later day than that
abbrev pub is_past_next_day : ℤ → ℤ → Bool
is_past_next_day date now = int_lt (date +ℤ pos 1) (moment_date now)

-- the roll that is due before an update: to the next date, where the moment is there
abbrev pub roll_due : Bool → ℕ → ℤ → List Entry
roll_due true by date = e.Roll by (date +ℤ pos 1) ∷ []
roll_due false by date = []

-- the index of the table with this name, and the kinds of its columns; the first of the tables has the index `i`
abbrev pub table_from : ℕ → List ℕ → List Shape → Option (ℕ × List Kind)
table_from i name [] = None
table_from i name (shape ∷ shapes) = if bytes_eq shape.table name then Some (i, shape.kinds) else table_from (i + 1) name shapes

-- the date and the limits are judged last; `rows` is the number of rows of the open date
abbrev pub dated : Limits → ℕ → ℤ → ℕ → ℤ → List ℕ → ℕ → List Tree → Verdict
dated limits by date rows now name table items =
    let rolls = is_next_day date now in
    if is_past_next_day date now then refuses r.MoreThanOneDay
    else if is_beyond limits (if rolls then 0 else rows) name items then refuses r.Limit
    else accepts (roll_due rolls by date ++ e.Upd by table (columns_of items) ∷ [])

-- the kinds are judged, and then the rest
abbrev pub kinds_judged : Option ℕ → Verdict → Verdict
kinds_judged (Some column) rest = refuses (r.WrongType column)
kinds_judged None rest = rest

-- the items, with their time, are judged for a table of this name
abbrev pub items_judged : Limits → ℕ → ℤ → ℕ → ℤ → List ℕ → ℕ × List Kind → List Tree → Verdict
items_judged limits by date rows now name table items =
    if have_matching_lengths (length table.1) items then kinds_judged (wrong_from 0 table.1 items) (dated limits by date rows now name table.0 items)
    else refuses r.Length

abbrev pub table_judged : List ℕ → Option (ℕ × List Kind) → (ℕ × List Kind → Verdict) → Verdict
table_judged name None judged = refuses (r.NoTable name)
table_judged name (Some table) judged = judged table

-- what becomes of an update, where this date is open and has `rows` rows
abbrev pub ruling : List Shape → Limits → ℕ → ℤ → ℕ → List ℕ → List Tree → ℤ → Verdict
ruling schema limits by date rows name items now =
    table_judged name (table_from 0 name schema) (λ table. items_judged limits by date rows now name table (timed (time_of_day now) items))

-- what becomes of an update that the pass `by` asks for, of a table with these items at this moment
abbrev pub verdict : Frame → ℕ → List Entry → List ℕ → List Tree → ℤ → Verdict
verdict frame by chronicle name items now =
    ruling frame.schema frame.limits by (date_of frame.first chronicle) (total_rows (today chronicle)) name items now
