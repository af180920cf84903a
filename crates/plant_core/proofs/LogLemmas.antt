-- The log: the chronicle without its faults.
use Rattle.std.proofs.Common.{◌≡◌, ℕ, ℤ, zero, suc, pos, ◌+◌, ◌≤◌, ◌+ℤ◌, Bool, true, false, cond, List, [], ◌∷◌, ◌++◌, length, drop, refl, sym, ap, ◌∙◌, arith, append_assoc}
use Rattle.std.specs.Ordering.{int_cmp}
use Rattle.std.specs.declared.cmp.Ordering.TheVariants.{Less}
use Rattle.std.proofs.lemmas.List.{append-nil, drop-append-le, drop_all, length-append}
use Rattle.std.proofs.lemmas.List.Elements.{filter-append}
use Rattle.std.proofs.lemmas.List.Sums.{sum_by-append}
use Rattle.day_rows.specs.Chronicle.{date_of, log, is_logged, DatesAscend}
use Rattle.day_rows.specs.Day.{IsUpdate, entry_rows, total_rows}
use Rattle.day_rows.specs.declared.entry.Entry.{Entry}
use Rattle.day_rows.specs.declared.entry.Entry.TheVariants as e
use Rattle.q_values.specs.declared.kind.Kind.{Kind}
use Rattle.outside_api.specs.Counts.{counted, next_count}
use Rattle.date_logs.specs.Restart.{open_rows, open_rows_from}
use Rattle.plant_core.specs.Plant.{fault_count}
use Rattle.plant_memory.specs.Chronicle.{after_roll_from, today}
use Rattle.plant_memory.specs.Verdict.{roll_due}

-- an update, a roll or a fault at the end
pub log-update : (tables : List (List Kind)) (es : List Entry) (entry : Entry) → IsUpdate tables entry → log (es ++ entry ∷ []) ≡ log es ++ entry ∷ []
log-update tables es (e.Upd by table columns) is = filter-append is_logged es (e.Upd by table columns ∷ [])
log-update tables es (e.Roll by date) is = absurd is
log-update tables es (e.Fault by) is = absurd is

pub log-roll : (es : List Entry) (by : ℕ) (date : ℤ) → log (es ++ e.Roll by date ∷ []) ≡ log es ++ e.Roll by date ∷ []
log-roll es by date = filter-append is_logged es (e.Roll by date ∷ [])

pub log-fault : (es : List Entry) (by : ℕ) → log (es ++ e.Fault by ∷ []) ≡ log es
log-fault es by = filter-append is_logged es (e.Fault by ∷ []) ∙ append-nil (log es)

pub date-update : (tables : List (List Kind)) (first : ℤ) (es : List Entry) (entry : Entry) → IsUpdate tables entry → date_of first (es ++ entry ∷ []) ≡ date_of first es
date-update tables first [] (e.Upd by table columns) is = refl
date-update tables first [] (e.Roll by date) is = absurd is
date-update tables first [] (e.Fault by) is = absurd is
date-update tables first (e.Upd by table columns ∷ es) entry is = date-update tables first es entry is
date-update tables first (e.Roll by date ∷ es) entry is = date-update tables date es entry is
date-update tables first (e.Fault by ∷ es) entry is = date-update tables first es entry is

pub date-fault : (first : ℤ) (es : List Entry) (by : ℕ) → date_of first (es ++ e.Fault by ∷ []) ≡ date_of first es
date-fault first [] by = refl
date-fault first (e.Upd own table columns ∷ es) by = date-fault first es by
date-fault first (e.Roll own date ∷ es) by = date-fault date es by
date-fault first (e.Fault own ∷ es) by = date-fault first es by

pub date-roll : (first : ℤ) (es : List Entry) (by : ℕ) (date : ℤ) → date_of first (es ++ e.Roll by date ∷ []) ≡ date
date-roll first [] by date = refl
date-roll first (e.Upd own table columns ∷ es) by date = date-roll first es by date
date-roll first (e.Roll own other ∷ es) by date = date-roll other es by date
date-roll first (e.Fault own ∷ es) by date = date-roll first es by date

pub ascend-update : (tables : List (List Kind)) (first : ℤ) (es : List Entry) (entry : Entry) → IsUpdate tables entry → DatesAscend first es → DatesAscend first (es ++ entry ∷ [])
ascend-update tables first [] (e.Upd by table columns) is up = tt
ascend-update tables first [] (e.Roll by date) is up = absurd is
ascend-update tables first [] (e.Fault by) is up = absurd is
ascend-update tables first (e.Upd by table columns ∷ es) entry is up = ascend-update tables first es entry is up
ascend-update tables first (e.Roll by date ∷ es) entry is up = (up.0, ascend-update tables date es entry is up.1)
ascend-update tables first (e.Fault by ∷ es) entry is up = ascend-update tables first es entry is up

pub ascend-fault : (first : ℤ) (es : List Entry) (by : ℕ) → DatesAscend first es → DatesAscend first (es ++ e.Fault by ∷ [])
ascend-fault first [] by up = tt
ascend-fault first (e.Upd own table columns ∷ es) by up = ascend-fault first es by up
ascend-fault first (e.Roll own date ∷ es) by up = (up.0, ascend-fault date es by up.1)
ascend-fault first (e.Fault own ∷ es) by up = ascend-fault first es by up

pub ascend-roll : (first : ℤ) (es : List Entry) (by : ℕ) (date : ℤ) → int_cmp (date_of first es) date ≡ Less → DatesAscend first es → DatesAscend first (es ++ e.Roll by date ∷ [])
ascend-roll first [] by date less up = (less, tt)
ascend-roll first (e.Upd own table columns ∷ es) by date less up = ascend-roll first es by date less up
ascend-roll first (e.Roll own other ∷ es) by date less up = (up.0, ascend-roll other es by date less up.1)
ascend-roll first (e.Fault own ∷ es) by date less up = ascend-roll first es by date less up

-- the faults
pub faults-update : (tables : List (List Kind)) (es : List Entry) (entry : Entry) → IsUpdate tables entry → fault_count (es ++ entry ∷ []) ≡ fault_count es
faults-update tables [] (e.Upd by table columns) is = refl
faults-update tables [] (e.Roll by date) is = absurd is
faults-update tables [] (e.Fault by) is = absurd is
faults-update tables (e.Upd by table columns ∷ es) entry is = faults-update tables es entry is
faults-update tables (e.Roll by date ∷ es) entry is = faults-update tables es entry is
faults-update tables (e.Fault by ∷ es) entry is = ap (λ n. n + 1) (faults-update tables es entry is)

pub faults-roll : (es : List Entry) (by : ℕ) (date : ℤ) → fault_count (es ++ e.Roll by date ∷ []) ≡ fault_count es
faults-roll [] by date = refl
faults-roll (e.Upd own table columns ∷ es) by date = faults-roll es by date
faults-roll (e.Roll own other ∷ es) by date = faults-roll es by date
faults-roll (e.Fault own ∷ es) by date = ap (λ n. n + 1) (faults-roll es by date)

pub faults-fault : (es : List Entry) (by : ℕ) → fault_count (es ++ e.Fault by ∷ []) ≡ fault_count es + 1
faults-fault [] by = refl
faults-fault (e.Upd own table columns ∷ es) by = faults-fault es by
faults-fault (e.Roll own other ∷ es) by = faults-fault es by
faults-fault (e.Fault own ∷ es) by = ap (λ n. n + 1) (faults-fault es by)

counted-more : (count n : ℕ) → counted count (n + 1) ≡ next_count (counted count n)
counted-more count zero = refl
counted-more count (suc n) =
    let one : suc n + 1 ≡ suc (n + 1) = omega arith in
    ap (λ k. counted count k) one ∙ counted-more (next_count count) n

next-rises : (a b : ℕ) → a ≤ b → next_count a ≤ next_count b
next-rises a b less = omega arith

-- one fault more, and one counted
pub faults-counted : (origin before after n : ℕ) → counted origin n ≤ before → after ≡ counted before 1 → counted origin (n + 1) ≤ after
faults-counted origin before after n less more =
    rw (more, counted-more origin n) (next-rises (counted origin n) before less)

-- the rows of the open date
total-one : (entry : Entry) → total_rows (entry ∷ []) ≡ entry_rows entry
total-one entry = let one : total_rows (entry ∷ []) ≡ 0 + entry_rows entry = refl in omega (arith, one)

total-push : (es : List Entry) (entry : Entry) → total_rows (es ++ entry ∷ []) ≡ total_rows es + entry_rows entry
total-push es entry = sum_by-append entry_rows es (entry ∷ []) ∙ ap (λ n. total_rows es + n) (total-one entry)

drop-push : (found : ℕ) (front : List Entry) (entry : Entry) → found ≤ length front → total_rows (drop found (front ++ entry ∷ [])) ≡ total_rows (drop found front) + entry_rows entry
drop-push found front entry within = ap total_rows (drop-append-le found front (entry ∷ []) within) ∙ total-push (drop found front) entry

rows-from : (front es : List Entry) (found : ℕ) → found ≤ length front → total_rows (drop (after_roll_from (length front) found es) (front ++ es)) ≡ open_rows_from (total_rows (drop found front)) (log es)
rows-from front [] found within = ap (λ l. total_rows (drop found l)) (append-nil front)
rows-from front (e.Upd by table columns ∷ es) found within =
    let entry = e.Upd by table columns in
    let there = rows-from (front ++ entry ∷ []) es found (omega (arith, within, length-append front (entry ∷ []))) in
    ap (λ n. total_rows (drop (after_roll_from n found es) (front ++ entry ∷ es))) (sym (length-append front (entry ∷ [])))
    ∙ ap (λ l. total_rows (drop (after_roll_from (length (front ++ entry ∷ [])) found es) l)) (sym (append_assoc front (entry ∷ []) es))
    ∙ there ∙ ap (λ n. open_rows_from n (log es)) (drop-push found front entry within)
rows-from front (e.Fault by ∷ es) found within =
    let entry = e.Fault by in
    let there = rows-from (front ++ entry ∷ []) es found (omega (arith, within, length-append front (entry ∷ []))) in
    let same : total_rows (drop found front) + 0 ≡ total_rows (drop found front) = omega arith in
    ap (λ n. total_rows (drop (after_roll_from n found es) (front ++ entry ∷ es))) (sym (length-append front (entry ∷ [])))
    ∙ ap (λ l. total_rows (drop (after_roll_from (length (front ++ entry ∷ [])) found es) l)) (sym (append_assoc front (entry ∷ []) es))
    ∙ there ∙ ap (λ n. open_rows_from n (log es)) (drop-push found front entry within ∙ same)
rows-from front (e.Roll by date ∷ es) found within =
    let entry = e.Roll by date in
    let there = rows-from (front ++ entry ∷ []) es (length front + 1) (omega (arith, length-append front (entry ∷ []))) in
    let none : drop (length front + 1) (front ++ entry ∷ []) ≡ [] = drop_all (length front + 1) (front ++ entry ∷ []) (omega (arith, length-append front (entry ∷ []))) in
    ap (λ n. total_rows (drop (after_roll_from n (length front + 1) es) (front ++ entry ∷ es))) (sym (length-append front (entry ∷ [])))
    ∙ ap (λ l. total_rows (drop (after_roll_from (length (front ++ entry ∷ [])) (length front + 1) es) l)) (sym (append_assoc front (entry ∷ []) es))
    ∙ there ∙ ap (λ l. open_rows_from (total_rows l) (log es)) none

-- the log's open date has the rows of the chronicle's
pub rows-today : (es : List Entry) → total_rows (today es) ≡ open_rows (log es)
rows-today es = rows-from [] es 0 (omega arith)

rows-rolled : (n : ℕ) (es : List Entry) (by : ℕ) (date : ℤ) → open_rows_from n (es ++ e.Roll by date ∷ []) ≡ 0
rows-rolled n [] by date = refl
rows-rolled n (e.Upd own table columns ∷ es) by date = rows-rolled (n + entry_rows (e.Upd own table columns)) es by date
rows-rolled n (e.Roll own other ∷ es) by date = rows-rolled 0 es by date
rows-rolled n (e.Fault own ∷ es) by date = rows-rolled n es by date

-- the rows before an update, after the roll where one was due
pub rows-before : (rolls : Bool) (by : ℕ) (date : ℤ) (before entries : List Entry) (rows : ℕ) → entries ≡ before ++ roll_due rolls by date → cond rolls 0 (total_rows (today before)) + rows ≤ 4294967295
    → open_rows (log entries) + rows ≤ 4294967295
rows-before true by date before entries rows is few =
    let none : open_rows (log entries) ≡ 0 = ap (λ l. open_rows (log l)) is ∙ ap open_rows (log-roll before by (date +ℤ pos 1)) ∙ rows-rolled 0 (log before) by (date +ℤ pos 1) in
    omega (arith, none, few)
rows-before false by date before entries rows is few =
    let same : open_rows (log entries) ≡ total_rows (today before) = ap (λ l. open_rows (log l)) (is ∙ append-nil before) ∙ sym (rows-today before) in
    omega (arith, same, few)
