-- What entries at the end of a chronicle leave of its date, and of the entries of its open date.
use Rattle.std.proofs.Common.{◌≡◌, ℕ, ℤ, pos, ◌+◌, ◌<◌, ◌≤◌, ◌∷◌, ◌++◌, [], List, length, drop, refl, sym, ap, ◌∙◌, arith, true, false, Bool, cond, Option, Some, None}
use Rattle.std.specs.Prelude.{◌+ℤ◌, ◌<ℤ◌, is_some}
use Rattle.std.specs.Cmp.{int_cmp_is}
use Rattle.std.specs.List.{AllByRecursion}
use Rattle.std.specs.declared.cmp.Ordering.TheVariants.{Less}
use Rattle.std.proofs.lemmas.List.{length-append, drop_all, drop-append-le}
use Rattle.std.proofs.lemmas.List.Sums.{sum_by-append}
use Rattle.q_values.specs.Contents.{Contents}
use Rattle.q_values.specs.Table.{rows_of}
use Rattle.day_rows.specs.Chronicle.{date_of, KeepsDate, DatesAscend}
use Rattle.day_rows.specs.Day.{Opened, entry_rows, total_rows}
use Rattle.day_rows.specs.declared.entry.Entry.{Entry}
use Rattle.day_rows.specs.declared.entry.Entry.TheVariants as e
use Rattle.day_rows.specs.declared.schema.Shape.{Shape}
use Rattle.tick_log.specs.Chunk.{IsChunk}
use Rattle.tick_log.proofs.Made.{length-chunk}
use Rattle.plant_memory.specs.Chronicle.{after_roll_from, index_after_roll, today}
use Rattle.plant_memory.specs.Memory.{PreparedView, due}
use Rattle.plant_memory.specs.Verdict.{roll_due}
use Rattle.plant_memory.proofs.HistoryLemmas.{date_of-kept, after_roll-kept}

pub date_of-rolled : (first date : ℤ) (by : ℕ) (es : List Entry) → date_of first (es ++ e.Roll by date ∷ []) ≡ date
date_of-rolled first date by [] = refl
date_of-rolled first date by (e.Upd own table columns ∷ es) = date_of-rolled first date by es
date_of-rolled first date by (e.Roll own other ∷ es) = date_of-rolled other date by es
date_of-rolled first date by (e.Fault own ∷ es) = date_of-rolled first date by es

after_roll-rolled : (place found : ℕ) (date : ℤ) (by : ℕ) (es : List Entry) → after_roll_from place found (es ++ e.Roll by date ∷ []) ≡ place + length es + 1
after_roll-rolled place found date by [] = omega arith
after_roll-rolled place found date by (e.Upd own table columns ∷ es) = let h = after_roll-rolled (place + 1) found date by es in omega arith
after_roll-rolled place found date by (e.Roll own other ∷ es) = let h = after_roll-rolled (place + 1) (place + 1) date by es in omega arith
after_roll-rolled place found date by (e.Fault own ∷ es) = let h = after_roll-rolled (place + 1) found date by es in omega arith

pub today-rolled : (date : ℤ) (by : ℕ) (es : List Entry) → today (es ++ e.Roll by date ∷ []) ≡ []
today-rolled date by es =
    let whole = es ++ e.Roll by date ∷ [] in
    let enough : length whole ≤ index_after_roll whole = omega (arith, after_roll-rolled 0 0 date by es, length-append es (e.Roll by date ∷ [])) in
    drop_all (index_after_roll whole) whole enough

-- entries that keep the date, at the end
pub date_of-more : (first : ℤ) (es more : List Entry) → AllByRecursion KeepsDate more → date_of first (es ++ more) ≡ date_of first es
date_of-more first [] more keep = date_of-kept first more keep
date_of-more first (e.Upd by table columns ∷ es) more keep = date_of-more first es more keep
date_of-more first (e.Roll by date ∷ es) more keep = date_of-more date es more keep
date_of-more first (e.Fault by ∷ es) more keep = date_of-more first es more keep

after_roll-more : (place found : ℕ) (es more : List Entry) → AllByRecursion KeepsDate more → after_roll_from place found (es ++ more) ≡ after_roll_from place found es
after_roll-more place found [] more keep = after_roll-kept place found more keep
after_roll-more place found (e.Upd by table columns ∷ es) more keep = after_roll-more (place + 1) found es more keep
after_roll-more place found (e.Roll by date ∷ es) more keep = after_roll-more (place + 1) (place + 1) es more keep
after_roll-more place found (e.Fault by ∷ es) more keep = after_roll-more (place + 1) found es more keep

after_roll-within : (place found : ℕ) (es : List Entry) → found ≤ place + length es → after_roll_from place found es ≤ place + length es
after_roll-within place found [] within = within
after_roll-within place found (e.Upd by table columns ∷ es) within = let h = after_roll-within (place + 1) found es (omega (arith, within)) in omega (arith, h)
after_roll-within place found (e.Roll by date ∷ es) within = let h = after_roll-within (place + 1) (place + 1) es (omega arith) in omega (arith, h)
after_roll-within place found (e.Fault by ∷ es) within = let h = after_roll-within (place + 1) found es (omega (arith, within)) in omega (arith, h)

pub today-more : (es more : List Entry) → AllByRecursion KeepsDate more → today (es ++ more) ≡ today es ++ more
today-more es more keep =
    let within : index_after_roll es ≤ length es = let h = after_roll-within 0 0 es (omega arith) in omega (arith, h) in
    ap (λ n. drop n (es ++ more)) (after_roll-more 0 0 es more keep) ∙ drop-append-le (index_after_roll es) es more within

-- an update at the end
pub date_of-updated : (first : ℤ) (by table : ℕ) (columns : List Contents) (es : List Entry) → date_of first (es ++ e.Upd by table columns ∷ []) ≡ date_of first es
date_of-updated first by table columns es = date_of-more first es (e.Upd by table columns ∷ []) (tt, tt)

pub total_rows-updated : (by table : ℕ) (columns : List Contents) (es : List Entry) → total_rows (today (es ++ e.Upd by table columns ∷ [])) ≡ total_rows (today es) + rows_of columns
total_rows-updated by table columns es =
    let joined = sum_by-append entry_rows (today es) (e.Upd by table columns ∷ []) in
    ap total_rows (today-more es (e.Upd by table columns ∷ []) (tt, tt)) ∙ omega (arith, joined)

-- a fault at the end
pub date_of-failed : (first : ℤ) (by : ℕ) (es : List Entry) → date_of first (es ++ e.Fault by ∷ []) ≡ date_of first es
date_of-failed first by es = date_of-more first es (e.Fault by ∷ []) (tt, tt)

pub total_rows-failed : (by : ℕ) (es : List Entry) → total_rows (today (es ++ e.Fault by ∷ [])) ≡ total_rows (today es)
total_rows-failed by es =
    let joined = sum_by-append entry_rows (today es) (e.Fault by ∷ []) in
    ap total_rows (today-more es (e.Fault by ∷ []) (tt, tt)) ∙ omega (arith, joined)

-- a later date at the end
pub ascend-rolled : (first date : ℤ) (by : ℕ) (es : List Entry) → DatesAscend first es → date_of first es <ℤ date → DatesAscend first (es ++ e.Roll by date ∷ [])
ascend-rolled first date by [] up later = (sym (int_cmp_is first date Less later), tt)
ascend-rolled first date by (e.Upd own table columns ∷ es) up later = ascend-rolled first date by es up later
ascend-rolled first date by (e.Roll own other ∷ es) up later = (up.0, ascend-rolled other date by es up.1 later)
ascend-rolled first date by (e.Fault own ∷ es) up later = ascend-rolled first date by es up later

-- a log record has bytes
pub chunk-some : (schema : List Shape) (before : ℕ) (bytes : List ℕ) (entry : Entry) → IsChunk schema before bytes entry → 0 < length bytes
chunk-some schema before bytes (e.Upd by table columns) is = let spelled = is.2.spelled in omega (arith, ap length spelled, length-chunk by is.0.table columns)
chunk-some schema before bytes (e.Roll by date) is = absurd is
chunk-some schema before bytes (e.Fault by) is = absurd is

-- the next date that is made where a roll is due
pub fresh-rolls : (rolls : Bool) (made : Opened) (fresh : Option Opened) → fresh ≡ cond rolls (Some made) None → is_some fresh ≡ rolls
fresh-rolls true made fresh is = ap is_some is
fresh-rolls false made fresh is = ap is_some is

pub fresh-opened : (rolls : Bool) (made : Opened) (fresh : Option Opened) (opened : Opened) → fresh ≡ cond rolls (Some made) None → fresh ≡ Some opened → opened ≡ made
fresh-opened true made fresh opened is found = let same : Some opened ≡ Some made = sym found ∙ is in cc
fresh-opened false made fresh opened is found = absurd (let same : Some opened ≡ None = sym found ∙ is in cc)

-- what a caller does before it commits an update that a roll is due before: it commits the roll to the next date
pub follows-rolled : (update : PreparedView) (before after : List Entry) (by : ℕ) (date : ℤ) → update.rolls ≡ true → update.entries ≡ before → after ≡ before ++ e.Roll by date ∷ [] → by ≡ update.by → date ≡ date_of update.frame.first update.entries +ℤ pos 1
    → after ≡ update.entries ++ due update
follows-rolled update before after by date rolls same made own next = made ∙ (λ i. sym same i ++ e.Roll (own i) (next i) ∷ []) ∙ rw rolls refl

-- after a roll that was due
roll_made : (before entries : List Entry) (by : ℕ) (date : ℤ) (fresh : Option Opened) (opened : Opened) → fresh ≡ Some opened → entries ≡ before ++ roll_due (is_some fresh) by date → entries ≡ before ++ e.Roll by (date +ℤ pos 1) ∷ []
roll_made before entries by date fresh opened is follows = follows ∙ ap (λ o. before ++ roll_due (is_some o) by date) is

pub date_after : (first : ℤ) (before entries : List Entry) (by : ℕ) (date : ℤ) (fresh : Option Opened) (opened : Opened) → fresh ≡ Some opened → entries ≡ before ++ roll_due (is_some fresh) by date → date_of first entries ≡ date +ℤ pos 1
date_after first before entries by date fresh opened is follows = ap (date_of first) (roll_made before entries by date fresh opened is follows) ∙ date_of-rolled first (date +ℤ pos 1) by before

pub today_after : (before entries : List Entry) (by : ℕ) (date : ℤ) (fresh : Option Opened) (opened : Opened) → fresh ≡ Some opened → entries ≡ before ++ roll_due (is_some fresh) by date → today entries ≡ []
today_after before entries by date fresh opened is follows = ap today (roll_made before entries by date fresh opened is follows) ∙ today-rolled (date +ℤ pos 1) by before
