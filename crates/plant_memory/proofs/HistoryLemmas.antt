-- The dates of a plant.
use Rattle.std.proofs.Common.{◌≡◌, ℕ, ℤ, suc, ◌+◌, ◌-◌, ◌<◌, ◌≤◌, ◌∷◌, ◌++◌, [], List, length, drop, map, refl, sym, ap, ◌∙◌, subst, arith, append_assoc, max}
use Rattle.std.specs.List.{AllByRecursion}
use Rattle.std.specs.Ordering.{int_cmp}
use Rattle.std.specs.declared.cmp.Ordering.TheVariants.{Less}
use Rattle.std.proofs.lemmas.List.{length-append}
use Rattle.q_values.specs.declared.kind.Kind.{Kind}
use Rattle.day_rows.specs.Chronicle.{date_of, KeepsDate, DatesAscend}
use Rattle.day_rows.specs.Day.{Day, IsDay, IsUpdate}
use Rattle.day_rows.specs.declared.entry.Entry.{Entry}
use Rattle.day_rows.specs.declared.entry.Entry.TheVariants as e
use Rattle.plant_memory.specs.Chronicle.{after_roll_from, index_after_roll, today, by_of, top_by, dates_of, update_count}
use Rattle.std.proofs.Common.{◌^◌, pos, negsuc}
use Rattle.std.specs.Prelude.{◌<ℤ◌, ◌≤ℤ◌}
use Rattle.std.proofs.lemmas.Int.{ints}
use Rattle.std.specs.Cmp.{int_cmp_is}
use Rattle.std.proofs.lemmas.List.Sums.{sum_by-append}
use Rattle.day_rows.specs.Day.{entry_rows, total_rows}
use Rattle.plant_memory.specs.Faults.{woven, covered}
use Rattle.plant_memory.specs.History.{Past, chronicle_of, Follow, IsHistory}
use Rattle.plant_memory.specs.declared.faults.Mark.{Mark}
use Rattle.plant_memory.proofs.FaultLemmas.{woven-keeps, length-woven, update_count-woven, woven-update, woven-fault, woven-none, woven-begun, covered-begun, covered-fault}

-- updates keep the date
pub keeps : (tables : List (List Kind)) (es : List Entry) → AllByRecursion (IsUpdate tables) es → AllByRecursion KeepsDate es
keeps tables [] all = tt
keeps tables (e.Upd by table columns ∷ es) all = (tt, keeps tables es all.1)
keeps tables (e.Roll by date ∷ es) all = absurd all.0
keeps tables (e.Fault by ∷ es) all = absurd all.0

pub day_keeps : (day : Day) (marks : List Mark) → IsDay day → AllByRecursion KeepsDate (woven marks day.updates)
day_keeps day marks is = woven-keeps marks day.updates (keeps day.kinds day.updates is.updates)

pub counted_updates : (tables : List (List Kind)) (es : List Entry) → AllByRecursion (IsUpdate tables) es → update_count es ≡ length es
counted_updates tables [] all = refl
counted_updates tables (e.Upd by table columns ∷ es) all = let h = counted_updates tables es all.1 in omega arith
counted_updates tables (e.Roll by date ∷ es) all = absurd all.0
counted_updates tables (e.Fault by ∷ es) all = absurd all.0

pub date_of-kept : (date : ℤ) (es : List Entry) → AllByRecursion KeepsDate es → date_of date es ≡ date
date_of-kept date [] all = refl
date_of-kept date (e.Upd by table columns ∷ es) all = date_of-kept date es all.1
date_of-kept date (e.Roll by next ∷ es) all = absurd all.0
date_of-kept date (e.Fault by ∷ es) all = date_of-kept date es all.1

pub date_of-roll : (date next : ℤ) (by : ℕ) (es later : List Entry) → AllByRecursion KeepsDate es → date_of date (es ++ e.Roll by next ∷ later) ≡ date_of next later
date_of-roll date next by [] later all = refl
date_of-roll date next by (e.Upd own table columns ∷ es) later all = date_of-roll date next by es later all.1
date_of-roll date next by (e.Roll own other ∷ es) later all = absurd all.0
date_of-roll date next by (e.Fault own ∷ es) later all = date_of-roll date next by es later all.1

pub dates_of-kept : (date : ℤ) (es : List Entry) → AllByRecursion KeepsDate es → dates_of date es ≡ date ∷ []
dates_of-kept date [] all = refl
dates_of-kept date (e.Upd by table columns ∷ es) all = dates_of-kept date es all.1
dates_of-kept date (e.Roll by next ∷ es) all = absurd all.0
dates_of-kept date (e.Fault by ∷ es) all = dates_of-kept date es all.1

pub dates_of-roll : (date next : ℤ) (by : ℕ) (es later : List Entry) → AllByRecursion KeepsDate es → dates_of date (es ++ e.Roll by next ∷ later) ≡ date ∷ dates_of next later
dates_of-roll date next by [] later all = refl
dates_of-roll date next by (e.Upd own table columns ∷ es) later all = dates_of-roll date next by es later all.1
dates_of-roll date next by (e.Roll own other ∷ es) later all = absurd all.0
dates_of-roll date next by (e.Fault own ∷ es) later all = dates_of-roll date next by es later all.1

ascend-kept : (date : ℤ) (es : List Entry) → AllByRecursion KeepsDate es → DatesAscend date es
ascend-kept date [] all = tt
ascend-kept date (e.Upd by table columns ∷ es) all = ascend-kept date es all.1
ascend-kept date (e.Roll by next ∷ es) all = absurd all.0
ascend-kept date (e.Fault by ∷ es) all = ascend-kept date es all.1

ascend-roll : (date next : ℤ) (by : ℕ) (es later : List Entry) → AllByRecursion KeepsDate es → int_cmp date next ≡ Less → DatesAscend next later → DatesAscend date (es ++ e.Roll by next ∷ later)
ascend-roll date next by [] later all less up = (less, up)
ascend-roll date next by (e.Upd own table columns ∷ es) later all less up = ascend-roll date next by es later all.1 less up
ascend-roll date next by (e.Roll own other ∷ es) later all less up = absurd all.0
ascend-roll date next by (e.Fault own ∷ es) later all less up = ascend-roll date next by es later all.1 less up

pub after_roll-kept : (place found : ℕ) (es : List Entry) → AllByRecursion KeepsDate es → after_roll_from place found es ≡ found
after_roll-kept place found [] all = refl
after_roll-kept place found (e.Upd by table columns ∷ es) all = after_roll-kept (place + 1) found es all.1
after_roll-kept place found (e.Roll by next ∷ es) all = absurd all.0
after_roll-kept place found (e.Fault by ∷ es) all = after_roll-kept (place + 1) found es all.1

after_roll-roll : (place found : ℕ) (next : ℤ) (by : ℕ) (es later : List Entry) → AllByRecursion KeepsDate es → after_roll_from place found (es ++ e.Roll by next ∷ later) ≡ after_roll_from (place + length es + 1) (place + length es + 1) later
after_roll-roll place found next by [] later all = let same : place + 1 ≡ place + 0 + 1 = omega arith in ap (λ n. after_roll_from n n later) same
after_roll-roll place found next by (e.Upd own table columns ∷ es) later all =
    let same : (place + 1) + length es + 1 ≡ place + suc (length es) + 1 = omega arith in
    after_roll-roll (place + 1) found next by es later all.1 ∙ ap (λ n. after_roll_from n n later) same
after_roll-roll place found next by (e.Roll own other ∷ es) later all = absurd all.0
after_roll-roll place found next by (e.Fault own ∷ es) later all =
    let same : (place + 1) + length es + 1 ≡ place + suc (length es) + 1 = omega arith in
    after_roll-roll (place + 1) found next by es later all.1 ∙ ap (λ n. after_roll_from n n later) same

-- the entries of the ended dates
abbrev pub ended_length : List Past → ℕ
ended_length [] = 0
ended_length (past ∷ pasts) = length (woven past.marks past.day.updates) + 1 + ended_length pasts

drop-front : {X : Type 0} (xs ys : List X) (n : ℕ) → drop (length xs + n) (xs ++ ys) ≡ drop n ys
drop-front [] ys n = let same : 0 + n ≡ n = omega arith in rw same refl
drop-front (x ∷ xs) ys n = let same : suc (length xs) + n ≡ suc (length xs + n) = omega arith in rw same (drop-front xs ys n)

pub last_day : (kinds : List (List Kind)) (first : ℤ) (pasts : List Past) (current : Day) → Follow kinds first pasts current → IsDay current
last_day kinds first [] current h = h.2
last_day kinds first (past ∷ pasts) current h = last_day kinds past.next pasts current h.4

pub chronicle-append : (pasts : List Past) (current more : List Entry) → chronicle_of pasts (current ++ more) ≡ chronicle_of pasts current ++ more
chronicle-append [] current more = refl
chronicle-append (past ∷ pasts) current more =
    ap (λ l. woven past.marks past.day.updates ++ e.Roll past.by past.next ∷ l) (chronicle-append pasts current more)
    ∙ sym (append_assoc (woven past.marks past.day.updates) (e.Roll past.by past.next ∷ chronicle_of pasts current) more)

pub chronicle-push : (pasts : List Past) (current : List Entry) (entry : Entry) → chronicle_of pasts (current ++ entry ∷ []) ≡ chronicle_of pasts current ++ entry ∷ []
chronicle-push pasts current entry = chronicle-append pasts current (entry ∷ [])

pub chronicle-roll : (pasts : List Past) (past : Past) → chronicle_of (pasts ++ past ∷ []) [] ≡ chronicle_of pasts (woven past.marks past.day.updates) ++ e.Roll past.by past.next ∷ []
chronicle-roll [] past = refl
chronicle-roll (other ∷ pasts) past =
    ap (λ l. woven other.marks other.day.updates ++ e.Roll other.by other.next ∷ l) (chronicle-roll pasts past) ∙ sym (append_assoc (woven other.marks other.day.updates) (e.Roll other.by other.next ∷ chronicle_of pasts (woven past.marks past.day.updates)) (e.Roll past.by past.next ∷ []))

pub date_of-chronicle : (kinds : List (List Kind)) (first : ℤ) (pasts : List Past) (current : Day) (marks : List Mark) → Follow kinds first pasts current → date_of first (chronicle_of pasts (woven marks current.updates)) ≡ current.date
date_of-chronicle kinds first [] current marks h = date_of-kept first (woven marks current.updates) (day_keeps current marks h.2) ∙ sym h.0
date_of-chronicle kinds first (past ∷ pasts) current marks h = date_of-roll first past.next past.by (woven past.marks past.day.updates) (chronicle_of pasts (woven marks current.updates)) (day_keeps past.day past.marks h.2) ∙ date_of-chronicle kinds past.next pasts current marks h.4

pub dates_of-chronicle : (kinds : List (List Kind)) (first : ℤ) (pasts : List Past) (current : Day) (marks : List Mark) → Follow kinds first pasts current → dates_of first (chronicle_of pasts (woven marks current.updates)) ≡ first ∷ map (λ past. past.next) pasts
dates_of-chronicle kinds first [] current marks h = dates_of-kept first (woven marks current.updates) (day_keeps current marks h.2)
dates_of-chronicle kinds first (past ∷ pasts) current marks h =
    dates_of-roll first past.next past.by (woven past.marks past.day.updates) (chronicle_of pasts (woven marks current.updates)) (day_keeps past.day past.marks h.2) ∙ ap (λ l. first ∷ l) (dates_of-chronicle kinds past.next pasts current marks h.4)

pub ascend-chronicle : (kinds : List (List Kind)) (first : ℤ) (pasts : List Past) (current : Day) (marks : List Mark) → Follow kinds first pasts current → DatesAscend first (chronicle_of pasts (woven marks current.updates))
ascend-chronicle kinds first [] current marks h = ascend-kept first (woven marks current.updates) (day_keeps current marks h.2)
ascend-chronicle kinds first (past ∷ pasts) current marks h = ascend-roll first past.next past.by (woven past.marks past.day.updates) (chronicle_of pasts (woven marks current.updates)) (day_keeps past.day past.marks h.2) h.3 (ascend-chronicle kinds past.next pasts current marks h.4)

after_roll-chronicle_from : (place : ℕ) (kinds : List (List Kind)) (first : ℤ) (pasts : List Past) (current : Day) (marks : List Mark) → Follow kinds first pasts current → after_roll_from place place (chronicle_of pasts (woven marks current.updates)) ≡ place + ended_length pasts
after_roll-chronicle_from place kinds first [] current marks h = after_roll-kept place place (woven marks current.updates) (day_keeps current marks h.2) ∙ (let same : place ≡ place + 0 = omega arith in same)
after_roll-chronicle_from place kinds first (past ∷ pasts) current marks h =
    let same : (place + length (woven past.marks past.day.updates) + 1) + ended_length pasts ≡ place + (length (woven past.marks past.day.updates) + 1 + ended_length pasts) = omega arith in
    after_roll-roll place place past.next past.by (woven past.marks past.day.updates) (chronicle_of pasts (woven marks current.updates)) (day_keeps past.day past.marks h.2) ∙ after_roll-chronicle_from (place + length (woven past.marks past.day.updates) + 1) kinds past.next pasts current marks h.4 ∙ same

pub after_roll-chronicle : (kinds : List (List Kind)) (first : ℤ) (pasts : List Past) (current : Day) (marks : List Mark) → Follow kinds first pasts current → index_after_roll (chronicle_of pasts (woven marks current.updates)) ≡ ended_length pasts
after_roll-chronicle kinds first pasts current marks h = after_roll-chronicle_from 0 kinds first pasts current marks h ∙ (let same : 0 + ended_length pasts ≡ ended_length pasts = omega arith in same)

drop-chronicle : (pasts : List Past) (current : List Entry) → drop (ended_length pasts) (chronicle_of pasts current) ≡ current
drop-chronicle [] current = refl
drop-chronicle (past ∷ pasts) current =
    let same : length (woven past.marks past.day.updates) + 1 + ended_length pasts ≡ length (woven past.marks past.day.updates) + suc (ended_length pasts) = omega arith in
    rw same (drop-front (woven past.marks past.day.updates) (e.Roll past.by past.next ∷ chronicle_of pasts current) (suc (ended_length pasts)) ∙ drop-chronicle pasts current)

pub today-chronicle : (kinds : List (List Kind)) (first : ℤ) (pasts : List Past) (current : Day) (marks : List Mark) → Follow kinds first pasts current → today (chronicle_of pasts (woven marks current.updates)) ≡ woven marks current.updates
today-chronicle kinds first pasts current marks h = ap (λ n. drop n (chronicle_of pasts (woven marks current.updates))) (after_roll-chronicle kinds first pasts current marks h) ∙ drop-chronicle pasts (woven marks current.updates)

pub length-chronicle : (pasts : List Past) (current : List Entry) → length (chronicle_of pasts current) ≡ ended_length pasts + length current
length-chronicle [] current = omega arith
length-chronicle (past ∷ pasts) current =
    let h = length-chronicle pasts current in
    rw (length-append (woven past.marks past.day.updates) (e.Roll past.by past.next ∷ chronicle_of pasts current)) (omega arith)

pub top_by-append : (xs ys : List Entry) → top_by (xs ++ ys) ≡ max (top_by xs) (top_by ys)
top_by-append [] ys = omega arith
top_by-append (x ∷ xs) ys = let h = top_by-append xs ys in omega arith

pub top_by-push : (es : List Entry) (entry : Entry) → top_by (es ++ entry ∷ []) ≡ max (top_by es) (by_of entry)
top_by-push es entry = let h = top_by-append es (entry ∷ []) in omega (arith, h)

-- the open day with one more update, or another open day
pub follow-current : (kinds : List (List Kind)) (first : ℤ) (pasts : List Past) (current other : Day) → other.date ≡ current.date → other.kinds ≡ current.kinds → IsDay other → Follow kinds first pasts current → Follow kinds first pasts other
follow-current kinds first [] current other date same is h = (date ∙ h.0, same ∙ h.1, is)
follow-current kinds first (past ∷ pasts) current other date same is h = (h.0, h.1, h.2, h.3, follow-current kinds past.next pasts current other date same is h.4)

-- the open day has ended
pub follow-ended : (kinds : List (List Kind)) (first : ℤ) (pasts : List Past) (past : Past) (current : Day) → Follow kinds first pasts past.day → current.date ≡ past.next → current.kinds ≡ kinds → IsDay current → int_cmp past.day.date past.next ≡ Less → Follow kinds first (pasts ++ past ∷ []) current
follow-ended kinds first [] past current h date same is less = (h.0, h.1, h.2, subst (λ d. int_cmp d past.next ≡ Less) h.0 less, (date, same, is))
follow-ended kinds first (other ∷ pasts) past current h date same is less = (h.0, h.1, h.2, h.3, follow-ended kinds other.next pasts past current h.4 date same is less)

-- the updates after the last fault are among the entries
pub since_within : (first : ℤ) (pasts : List Past) (current : Day) (marks : List Mark) (since count at rows top : ℕ) → IsHistory first pasts current marks since count at rows top → since ≤ length (chronicle_of pasts (woven marks current.updates))
since_within first pasts current marks since count at rows top h = omega (arith, h.since_is, length-chronicle pasts (woven marks current.updates), length-woven marks current.updates)

-- one more update
pub history-pushed : (first : ℤ) (pasts : List Past) (current other : Day) (marks : List Mark) (entry : Entry) (since count at rows top after more : ℕ) → IsHistory first pasts current marks since count at rows top → other ≡ record current { updates = current.updates ++ entry ∷ [] } → IsDay other
    → after ≡ max top (by_of entry) → more ≡ entry_rows entry → by_of entry + 1 < 2 ^ 64 → IsHistory first pasts other marks (since + 1) (count + 1) at (rows + more) after
history-pushed first pasts current other marks entry since count at rows top after more h grown is after_is more_is few =
    let updates : other.updates ≡ current.updates ++ entry ∷ [] = ap (λ (d : Day). d.updates) grown in
    let kinds : other.kinds ≡ current.kinds = ap (λ (d : Day). d.kinds) grown in
    let follow = follow-current current.kinds first pasts current other (ap (λ (d : Day). d.date) grown) kinds is h.follow in
    let within : covered marks ≤ length current.updates = omega (arith, h.since_is) in
    let today_is : woven marks other.updates ≡ woven marks current.updates ++ entry ∷ [] = ap (woven marks) updates ∙ woven-update marks current.updates entry within in
    let whole : chronicle_of pasts (woven marks other.updates) ≡ chronicle_of pasts (woven marks current.updates) ++ entry ∷ [] = ap (chronicle_of pasts) today_is ∙ chronicle-push pasts (woven marks current.updates) entry in
    let date = ap (λ (d : Day). d.date) grown in
    record {
      follow = subst (λ ks. Follow ks first pasts other) (sym kinds) follow;
      early = subst (λ d. negsuc 106751 ≤ℤ d) (sym date) h.early;
      late = subst (λ d. d ≤ℤ pos 106751) (sym date) h.late;
      since_is = omega (arith, h.since_is, ap length updates, length-append current.updates (entry ∷ []));
      count_is = omega (arith, h.count_is, ap length whole, length-append (chronicle_of pasts (woven marks current.updates)) (entry ∷ []));
      opened_is = h.opened_is ∙ after_roll-chronicle current.kinds first pasts current marks h.follow ∙ sym (after_roll-chronicle current.kinds first pasts other marks follow);
      rows_is = let joined = sum_by-append entry_rows current.updates (entry ∷ []) in omega (arith, h.rows_is, ap total_rows updates, joined, more_is);
      top_is = after_is ∙ ap (λ n. max n (by_of entry)) h.top_is ∙ sym (ap top_by whole ∙ top_by-push (chronicle_of pasts (woven marks current.updates)) entry);
      few = omega (arith, after_is, h.few, few);
    }

-- the chronicle with one more update
pub entries-pushed : (pasts : List Past) (marks : List Mark) (us : List Entry) (entry : Entry) (since : ℕ) → covered marks + since ≡ length us → chronicle_of pasts (woven marks (us ++ entry ∷ [])) ≡ chronicle_of pasts (woven marks us) ++ entry ∷ []
entries-pushed pasts marks us entry since all = let within : covered marks ≤ length us = omega (arith, all) in ap (chronicle_of pasts) (woven-update marks us entry within) ∙ chronicle-push pasts (woven marks us) entry

-- the chronicle with one more fault
pub entries-failed : (pasts : List Past) (marks after : List Mark) (us : List Entry) (by since : ℕ) → after ≡ marks ++ record { by = by; gap = since } ∷ [] → covered marks + since ≡ length us → chronicle_of pasts (woven after us) ≡ chronicle_of pasts (woven marks us) ++ e.Fault by ∷ []
entries-failed pasts marks after us by since is all = ap (λ ms. chronicle_of pasts (woven ms us)) is ∙ ap (chronicle_of pasts) (woven-fault marks us by since all) ∙ chronicle-push pasts (woven marks us) (e.Fault by)

-- one more fault
pub history-failed : (first : ℤ) (pasts : List Past) (current : Day) (marks more : List Mark) (by since later count at rows top after : ℕ) → IsHistory first pasts current marks since count at rows top → more ≡ marks ++ record { by = by; gap = since } ∷ [] → later ≡ 0
    → after ≡ max top by → by + 1 < 2 ^ 64 → IsHistory first pasts current more later (count + 1) at rows after
history-failed first pasts current marks more by since later count at rows top after h is none after_is few =
    let whole : chronicle_of pasts (woven more current.updates) ≡ chronicle_of pasts (woven marks current.updates) ++ e.Fault by ∷ [] = entries-failed pasts marks more current.updates by since is h.since_is in
    record {
      follow = h.follow;
      early = h.early;
      late = h.late;
      since_is = let all = ap covered is ∙ covered-fault marks (record { by = by; gap = since }) in omega (arith, h.since_is, all, none);
      count_is = omega (arith, h.count_is, ap length whole, length-append (chronicle_of pasts (woven marks current.updates)) (e.Fault by ∷ []));
      opened_is = h.opened_is ∙ after_roll-chronicle current.kinds first pasts current marks h.follow ∙ sym (after_roll-chronicle current.kinds first pasts current more h.follow);
      rows_is = h.rows_is;
      top_is = after_is ∙ ap (λ n. max n by) h.top_is ∙ sym (ap top_by whole ∙ top_by-push (chronicle_of pasts (woven marks current.updates)) (e.Fault by));
      few = omega (arith, after_is, h.few, few);
    }

-- a day of the same tables, without updates
begun_day : (day other : Day) → IsDay day → other.kinds ≡ day.kinds → other.updates ≡ [] → IsDay other
begun_day day other is kinds none = record {
  few = rw kinds is.few;
  tables = rw kinds is.tables;
  updates = rw none tt;
  bounded = let empty : total_rows other.updates ≡ 0 = ap total_rows none in omega (arith, empty);
}

-- the open date has ended, and the next is open
pub history-rolled : (first : ℤ) (pasts : List Past) (past : Past) (other : Day) (since count at rows top after : ℕ) → IsHistory first pasts past.day past.marks since count at rows top → other.date ≡ past.next → other.kinds ≡ past.day.kinds → other.updates ≡ [] → past.day.date <ℤ past.next → past.next ≤ℤ pos 106751
    → after ≡ max top past.by → past.by + 1 < 2 ^ 64 → IsHistory first (pasts ++ past ∷ []) other [] 0 (count + 1) (count + 1) 0 after
history-rolled first pasts past other since count at rows top after h date kinds none later last after_is few =
    let own = last_day past.day.kinds first pasts past.day h.follow in
    let less : int_cmp past.day.date past.next ≡ Less = sym (int_cmp_is past.day.date past.next Less later) in
    let early : negsuc 106751 ≤ℤ past.next = let before = h.early in omega (arith, ints, before, later) in
    let follow = follow-ended past.day.kinds first pasts past other h.follow date kinds (begun_day past.day other own kinds none) less in
    let whole : chronicle_of (pasts ++ past ∷ []) other.updates ≡ chronicle_of pasts (woven past.marks past.day.updates) ++ e.Roll past.by past.next ∷ [] = ap (chronicle_of (pasts ++ past ∷ [])) none ∙ chronicle-roll pasts past in
    let size : count + 1 ≡ length (chronicle_of (pasts ++ past ∷ []) other.updates) = omega (arith, h.count_is, ap length whole, length-append (chronicle_of pasts (woven past.marks past.day.updates)) (e.Roll past.by past.next ∷ [])) in
    let empty : length other.updates ≡ 0 = ap length none in
    record {
      follow = subst (λ ks. Follow ks first (pasts ++ past ∷ []) other) (sym kinds) follow;
      early = subst (λ d. negsuc 106751 ≤ℤ d) (sym date) early;
      late = subst (λ d. d ≤ℤ pos 106751) (sym date) last;
      since_is = omega (arith, empty);
      count_is = size;
      opened_is = let after = after_roll-chronicle past.day.kinds first (pasts ++ past ∷ []) other [] follow in omega (arith, size, after, length-chronicle (pasts ++ past ∷ []) other.updates, empty);
      rows_is = sym (ap total_rows none);
      top_is = after_is ∙ ap (λ n. max n past.by) h.top_is ∙ sym (ap top_by whole ∙ top_by-push (chronicle_of pasts (woven past.marks past.day.updates)) (e.Roll past.by past.next));
      few = omega (arith, after_is, h.few, few);
    }

-- the chronicle with the updates of a day that takes the place of an open day without entries
pub entries-adopted : (pasts : List Past) (marks : List Mark) (us more : List Entry) → woven marks us ≡ [] → chronicle_of pasts (woven marks more) ≡ chronicle_of pasts (woven marks us) ++ more
entries-adopted pasts marks us more none = ap (chronicle_of pasts) (woven-begun marks us more none) ∙ chronicle-append pasts [] more ∙ ap (λ es. chronicle_of pasts es ++ more) (sym none)

-- a day of updates has taken the place of an open day without entries
pub history-adopted : (first : ℤ) (pasts : List Past) (current other : Day) (marks : List Mark) (since count at rows top more held after : ℕ) → IsHistory first pasts current marks since count at rows top → woven marks current.updates ≡ []
    → other.date ≡ current.date → other.kinds ≡ current.kinds → IsDay other → more ≡ length other.updates → held ≡ total_rows other.updates → after ≡ max top (top_by other.updates) → top_by other.updates + 1 < 2 ^ 64
    → IsHistory first pasts other marks (since + more) (count + more) at held after
history-adopted first pasts current other marks since count at rows top more held after h none date kinds is more_is held_is after_is few =
    let follow = follow-current current.kinds first pasts current other date kinds is h.follow in
    let whole = entries-adopted pasts marks current.updates other.updates none in
    let empty : length current.updates ≡ 0 = ap length (woven-none marks current.updates none) in
    record {
      follow = subst (λ ks. Follow ks first pasts other) (sym kinds) follow;
      early = subst (λ d. negsuc 106751 ≤ℤ d) (sym date) h.early;
      late = subst (λ d. d ≤ℤ pos 106751) (sym date) h.late;
      since_is = omega (arith, h.since_is, covered-begun marks current.updates none, empty, more_is);
      count_is = omega (arith, h.count_is, more_is, ap length whole, length-append (chronicle_of pasts (woven marks current.updates)) other.updates);
      opened_is = h.opened_is ∙ after_roll-chronicle current.kinds first pasts current marks h.follow ∙ sym (after_roll-chronicle current.kinds first pasts other marks follow);
      rows_is = held_is;
      top_is = after_is ∙ ap (λ n. max n (top_by other.updates)) h.top_is ∙ sym (ap top_by whole ∙ top_by-append (chronicle_of pasts (woven marks current.updates)) other.updates);
      few = omega (arith, after_is, h.few, few);
    }

-- days of one date, of the same tables, with the same updates
pub same_day : (some other : Day) → some.date ≡ other.date → some.kinds ≡ other.kinds → some.updates ≡ other.updates → some ≡ other
same_day some other date kinds updates = λ i. record { date = date i; kinds = kinds i; updates = updates i }

-- the updates of the open date are the entries after the last roll, without the faults
pub record IsToday (entries : List Entry) (count at faults : ℕ) : Type 0 where
  pub below : at ≤ count
  pub few : faults ≤ count - at
  pub updates : (count - at) - faults ≡ update_count (today entries)

pub today_counted : (first : ℤ) (pasts : List Past) (current : Day) (marks : List Mark) (since count at rows top : ℕ) → IsHistory first pasts current marks since count at rows top → IsToday (chronicle_of pasts (woven marks current.updates)) count at (length marks)
today_counted first pasts current marks since count at rows top h =
    let after = after_roll-chronicle current.kinds first pasts current marks h.follow in
    let size = length-chronicle pasts (woven marks current.updates) in
    let own = length-woven marks current.updates in
    let all = counted_updates current.kinds current.updates (last_day current.kinds first pasts current h.follow).updates in
    let same = ap update_count (today-chronicle current.kinds first pasts current marks h.follow) ∙ update_count-woven marks current.updates in
    record {
      below = omega (arith, h.count_is, h.opened_is, after, size);
      few = omega (arith, h.count_is, h.opened_is, after, size, own);
      updates = omega (arith, h.count_is, h.opened_is, after, size, own, all, same);
    }

pub entries-rolled : (pasts after : List Past) (past : Past) (updates whole : List Entry) (date : ℤ) → after ≡ pasts ++ past ∷ [] → updates ≡ [] → chronicle_of pasts (woven past.marks past.day.updates) ≡ whole → past.next ≡ date
    → chronicle_of after updates ≡ whole ++ e.Roll past.by date ∷ []
entries-rolled pasts after past updates whole date after_is none was next =
    (λ i. chronicle_of (after_is i) (none i)) ∙ chronicle-roll pasts past ∙ (λ i. was i ++ e.Roll past.by (next i) ∷ [])
