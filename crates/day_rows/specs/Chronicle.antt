-- A chronicle: the list of updates, rolls and faults that a plant stands for, and its rows in the documented order.
use Rattle.std.specs.Prelude.{◌≡◌, ℕ, ℤ, Bool, true, false, if◌then◌else◌, List, [], ◌∷◌, ◌++◌, filter, IsPermutation}
use Rattle.std.specs.List.{AllByRecursion}
use Rattle.std.specs.declared.cmp.Ordering.{Ordering}
use Rattle.std.specs.declared.cmp.Ordering.TheVariants.{Less}
use Rattle.std.specs.Ordering.{ordering_then, is_lt, nat_cmp, int_cmp}
use Rattle.q_values.specs.Order.{atom_cmp}
use Rattle.day_rows.specs.Rows.{Row, rows, symbol_of}
use Rattle.day_rows.specs.Sorted.{in_order}
use Rattle.day_rows.specs.declared.entry.Entry.{Entry}
use Rattle.day_rows.specs.declared.entry.Entry.TheVariants as e

-- the date of a chronicle: that of the last roll, or the first date
abbrev pub date_of : ℤ → List Entry → ℤ
date_of first [] = first
date_of first (e.Upd by table columns ∷ entries) = date_of first entries
date_of first (e.Roll by date ∷ entries) = date_of date entries
date_of first (e.Fault by ∷ entries) = date_of first entries

abbrev pub is_logged : Entry → Bool
is_logged (e.Upd by table columns) = true
is_logged (e.Roll by date) = true
is_logged (e.Fault by) = false

-- the log: the chronicle without its faults
abbrev pub log : List Entry → List Entry
log = filter is_logged

-- rows of an ended date: by symbol, then by arrival
abbrev pub ended_cmp : Row → Row → Ordering
ended_cmp a b = ordering_then (atom_cmp (symbol_of a) (symbol_of b)) (nat_cmp a.arrival b.arrival)

-- the documented order, where this date is open: by date; within an earlier date by symbol and arrival, and within the
-- open date by arrival (KX, partitioned tables)
abbrev pub documented_cmp : ℤ → Row → Row → Ordering
documented_cmp open_date a b =
    ordering_then (int_cmp a.date b.date) (if is_lt (int_cmp a.date open_date) then ended_cmp a b else nat_cmp a.arrival b.arrival)

-- the rows of a table in the documented order
abbrev pub view : ℤ → List Entry → ℕ → List Row
view first entries table = in_order (documented_cmp (date_of first entries)) (rows first entries table)

-- the entry does not end the open date
abbrev pub KeepsDate : Entry → Type 0
KeepsDate (e.Upd by table columns) = Unit {0}
KeepsDate (e.Roll by date) = ⊥
KeepsDate (e.Fault by) = Unit {0}

-- each roll opens a later date than the one that it ends; this is the first
abbrev pub DatesAscend : ℤ → List Entry → Type 0
DatesAscend date [] = Unit {0}
DatesAscend date (e.Upd by table columns ∷ entries) = DatesAscend date entries
DatesAscend date (e.Roll by next ∷ entries) = (int_cmp date next ≡ Less) × DatesAscend next entries
DatesAscend date (e.Fault by ∷ entries) = DatesAscend date entries

-- while a date is open, its rows are seen by arrival
abbrev pub OpenDateByArrival : Type 0
OpenDateByArrival = (date : ℤ) (table : ℕ) (today : List Entry) → AllByRecursion KeepsDate today → view date today table ≡ rows date today table

-- once a date has ended, its rows are seen by symbol and arrival, followed by the rows of the later dates
abbrev pub EndedDateBySymbol : Type 0
EndedDateBySymbol =
    (date next : ℤ) (by table : ℕ) (ended later : List Entry) → AllByRecursion KeepsDate ended → int_cmp date next ≡ Less → DatesAscend next later
    → view date (ended ++ e.Roll by next ∷ later) table ≡ in_order ended_cmp (rows date ended table) ++ view next later table

-- the view has each row exactly once
abbrev pub EachRowOnce : Type 0
EachRowOnce = (first : ℤ) (table : ℕ) (entries : List Entry) → IsPermutation (rows first entries table) (view first entries table)
