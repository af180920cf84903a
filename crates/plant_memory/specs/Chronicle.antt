-- What a chronicle shows: its dates, the entries of its open date, the numbers of its passes.
use Rattle.std.specs.Prelude.{ℕ, ℤ, ◌+◌, ◌==◌, if◌then◌else◌, Option, Some, None, List, [], ◌∷◌, drop, max, filter, slice_index_or}
use Rattle.std.specs.Int.{int_div_euclid, int_rem_euclid}
use Rattle.std.specs.Ordering.{int_eq}
use Rattle.q_values.specs.Time.{day_nanoseconds}
use Rattle.day_rows.specs.Chronicle.{view}
use Rattle.day_rows.specs.Rows.{Row}
use Rattle.day_rows.specs.declared.entry.Entry.{Entry}
use Rattle.day_rows.specs.declared.entry.Entry.TheVariants as e

-- the date of a moment: the days since 2000.01.01, rounded down
abbrev pub moment_date : ℤ → ℤ
moment_date now = int_div_euclid now day_nanoseconds

-- the time of day of a moment, in nanoseconds
abbrev pub time_of_day : ℤ → ℤ
time_of_day now = int_rem_euclid now day_nanoseconds

-- the index after the last roll, where the first of the entries has the index `i`; or the index found so far
abbrev pub after_roll_from : ℕ → ℕ → List Entry → ℕ
after_roll_from i found [] = found
after_roll_from i found (e.Upd by table columns ∷ entries) = after_roll_from (i + 1) found entries
after_roll_from i found (e.Roll by date ∷ entries) = after_roll_from (i + 1) (i + 1) entries
after_roll_from i found (e.Fault by ∷ entries) = after_roll_from (i + 1) found entries

-- the index of the first entry after the last roll, or 0 where there is no roll
abbrev pub index_after_roll : List Entry → ℕ
index_after_roll = after_roll_from 0 0

-- the entries after the last roll: those of the open date
abbrev pub today : List Entry → List Entry
today entries = drop (index_after_roll entries) entries

-- the number of the pass that made an entry
abbrev pub by_of : Entry → ℕ
by_of (e.Upd by table columns) = by
by_of (e.Roll by date) = by
by_of (e.Fault by) = by

-- the index of the last fault that a pass made, where the first of the entries has the index `i`; or the one found so far
abbrev pub last_fault_from : ℕ → ℕ → Option ℕ → List Entry → Option ℕ
last_fault_from by i found [] = found
last_fault_from by i found (e.Upd own table columns ∷ entries) = last_fault_from by (i + 1) found entries
last_fault_from by i found (e.Roll own date ∷ entries) = last_fault_from by (i + 1) found entries
last_fault_from by i found (e.Fault own ∷ entries) = last_fault_from by (i + 1) (if own == by then Some i else found) entries

-- the index of the last fault that a pass made
abbrev pub last_fault : ℕ → List Entry → Option ℕ
last_fault by = last_fault_from by 0 None

-- the greatest pass number of the entries, 0 where there are none
abbrev pub top_by : List Entry → ℕ
top_by [] = 0
top_by (entry ∷ entries) = max (by_of entry) (top_by entries)

-- the first date, and the date that each roll opens
abbrev pub dates_of : ℤ → List Entry → List ℤ
dates_of first [] = first ∷ []
dates_of first (e.Upd by table columns ∷ entries) = dates_of first entries
dates_of first (e.Roll by date ∷ entries) = first ∷ dates_of date entries
dates_of first (e.Fault by ∷ entries) = dates_of first entries

-- the number of updates among entries
abbrev pub update_count : List Entry → ℕ
update_count [] = 0
update_count (e.Upd by table columns ∷ entries) = update_count entries + 1
update_count (e.Roll by date ∷ entries) = update_count entries
update_count (e.Fault by ∷ entries) = update_count entries

-- the rows of one date
abbrev pub on_date : ℤ → List Row → List Row
on_date date = filter (λ row. int_eq row.date date)

-- the date with this index
abbrev pub date_at : ℤ → List Entry → ℕ → ℤ
date_at first entries k = slice_index_or (dates_of first entries) k first

-- the rows of a table on the date with the index `k`, in the documented order
abbrev pub rows_at : ℤ → List Entry → ℕ → ℕ → List Row
rows_at first entries k table = on_date (date_at first entries k) (view first entries table)
