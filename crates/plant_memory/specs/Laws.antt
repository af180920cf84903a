-- What holds of every chronicle.
use Rattle.std.specs.Prelude.{◌≡◌, ℕ, ℤ, List}
use Rattle.std.specs.List.{flat_map}
use Rattle.day_rows.specs.Chronicle.{view, DatesAscend}
use Rattle.day_rows.specs.declared.entry.Entry.{Entry}
use Rattle.q_values.specs.Tree.{Tree}
use Rattle.plant_memory.specs.Causes.{causes, first_cause, refusal_of}
use Rattle.plant_memory.specs.Frame.{Frame}
use Rattle.plant_memory.specs.Verdict.{verdict}
use Rattle.plant_memory.specs.Chronicle.{dates_of, on_date}

-- where the dates ascend, the view of a table is the rows of its dates, date by date
abbrev pub ViewIsItsDates : Type 0
ViewIsItsDates =
    (first : ℤ) (table : ℕ) (entries : List Entry) → DatesAscend first entries
    → view first entries table ≡ flat_map (λ date. on_date date (view first entries table)) (dates_of first entries)

-- an update is refused with the first cause that holds, and accepted exactly where none does
abbrev pub FirstCauseRefuses : Type 0
FirstCauseRefuses =
    (frame : Frame) (by : ℕ) (chronicle : List Entry) (name : List ℕ) (items : List Tree) (now : ℤ)
    → refusal_of (verdict frame by chronicle name items now) ≡ first_cause (causes frame chronicle name items now)
