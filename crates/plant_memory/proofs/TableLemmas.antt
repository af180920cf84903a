-- Each update of a chronicle is of one of the tables.
use Rattle.std.proofs.Common.{ℕ, ℤ, zero, suc, List, [], ◌∷◌, take, drop}
use Rattle.std.specs.List.{AllByRecursion}
use Rattle.q_values.specs.declared.kind.Kind.{Kind}
use Rattle.day_rows.proofs.BlockLemmas.{all-take}
use Rattle.day_rows.proofs.DayLemmas.{all-append}
use Rattle.day_rows.specs.Day.{Day, IsUpdate}
use Rattle.day_rows.specs.declared.entry.Entry.{Entry}
use Rattle.day_rows.specs.declared.entry.Entry.TheVariants as e
use Rattle.plant_memory.specs.Faults.{woven}
use Rattle.plant_memory.specs.History.{Past, IsOfTables, chronicle_of, Follow}
use Rattle.plant_memory.specs.declared.faults.Mark.{Mark}

pub all-drop : {X : Type 0} (P : X → Type 0) (n : ℕ) (xs : List X) → AllByRecursion P xs → AllByRecursion P (drop n xs)
all-drop P zero xs all = all
all-drop P (suc n) [] all = tt
all-drop P (suc n) (x ∷ xs) all = all-drop P n xs all.1

pub updates-tables : (tables : List (List Kind)) (us : List Entry) → AllByRecursion (IsUpdate tables) us → AllByRecursion (IsOfTables tables) us
updates-tables tables [] all = tt
updates-tables tables (e.Upd by table columns ∷ us) all = (all.0, updates-tables tables us all.1)
updates-tables tables (e.Roll by date ∷ us) all = (tt, updates-tables tables us all.1)
updates-tables tables (e.Fault by ∷ us) all = (tt, updates-tables tables us all.1)

pub woven-tables : (tables : List (List Kind)) (marks : List Mark) (us : List Entry) → AllByRecursion (IsOfTables tables) us → AllByRecursion (IsOfTables tables) (woven marks us)
woven-tables tables [] us all = all
woven-tables tables (m ∷ marks) us all =
    all-append (IsOfTables tables) (take m.gap us) (e.Fault m.by ∷ woven marks (drop m.gap us)) (all-take (IsOfTables tables) m.gap us all)
    (tt, woven-tables tables marks (drop m.gap us) (all-drop (IsOfTables tables) m.gap us all))

pub chronicle-tables : (tables : List (List Kind)) (date : ℤ) (pasts : List Past) (current : Day) (marks : List Mark) → Follow tables date pasts current
    → AllByRecursion (IsOfTables tables) (chronicle_of pasts (woven marks current.updates))
chronicle-tables tables date [] current marks h =
    woven-tables tables marks current.updates (updates-tables tables current.updates (rw h.1 at h.2.updates))
chronicle-tables tables date (past ∷ pasts) current marks h =
    all-append (IsOfTables tables) (woven past.marks past.day.updates) (e.Roll past.by past.next ∷ chronicle_of pasts (woven marks current.updates))
    (woven-tables tables past.marks past.day.updates (updates-tables tables past.day.updates (rw h.1 at h.2.updates)))
    (tt, chronicle-tables tables past.next pasts current marks h.4)
