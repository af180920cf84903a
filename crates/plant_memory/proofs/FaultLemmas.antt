-- The faults of a date, between its updates.
use Rattle.std.proofs.Common.{◌≡◌, ℕ, ℤ, zero, suc, ◌+◌, ◌≤◌, ◌∷◌, ◌++◌, [], List, length, take, drop, refl, sym, ap, ap₂, ◌∙◌, arith, append_assoc}
use Rattle.std.specs.List.{AllByRecursion}
use Rattle.std.specs.Prelude.{◌==◌, cond}
use Rattle.std.proofs.lemmas.List.{length-append, length-drop, take-append-drop, take-append-le, drop-append-le, take_all, drop_all}
use Rattle.std.proofs.lemmas.List.Sums.{sum_by-append}
use Rattle.day_rows.proofs.BlockLemmas.{all-take}
use Rattle.day_rows.proofs.DayLemmas.{all-append}
use Rattle.day_rows.specs.Chronicle.{KeepsDate}
use Rattle.day_rows.specs.Day.{entry_rows, total_rows}
use Rattle.day_rows.specs.Rows.{rows_from, numbered, lines_of}
use Rattle.q_values.specs.Table.{rows_of}
use Rattle.day_rows.specs.declared.entry.Entry.{Entry}
use Rattle.day_rows.specs.declared.entry.Entry.TheVariants as e
use Rattle.plant_memory.specs.Chronicle.{update_count}
use Rattle.plant_memory.specs.Faults.{woven, covered}
use Rattle.plant_memory.specs.declared.faults.Mark.{Mark}

all-drop : {X : Type 0} (P : X → Type 0) (i : ℕ) (xs : List X) → AllByRecursion P xs → AllByRecursion P (drop i xs)
all-drop P zero xs all = all
all-drop P (suc i) [] all = tt
all-drop P (suc i) (x ∷ xs) all = all-drop P i xs all.1

-- no fault ends the date
pub woven-keeps : (marks : List Mark) (us : List Entry) → AllByRecursion KeepsDate us → AllByRecursion KeepsDate (woven marks us)
woven-keeps [] us all = all
woven-keeps (m ∷ ms) us all =
    all-append KeepsDate (take m.gap us) (e.Fault m.by ∷ woven ms (drop m.gap us)) (all-take KeepsDate m.gap us all) (tt, woven-keeps ms (drop m.gap us) (all-drop KeepsDate m.gap us all))

pub length-woven : (marks : List Mark) (us : List Entry) → length (woven marks us) ≡ length us + length marks
length-woven [] us = omega arith
length-woven (m ∷ ms) us =
    let rest = length-woven ms (drop m.gap us) in
    let parts : length us ≡ length (take m.gap us) + length (drop m.gap us) = ap length (sym (take-append-drop m.gap us)) ∙ length-append (take m.gap us) (drop m.gap us) in
    let whole = length-append (take m.gap us) (e.Fault m.by ∷ woven ms (drop m.gap us)) in
    omega (arith, rest, parts, whole)

pub total_rows-woven : (marks : List Mark) (us : List Entry) → total_rows (woven marks us) ≡ total_rows us
total_rows-woven [] us = refl
total_rows-woven (m ∷ ms) us =
    let rest = total_rows-woven ms (drop m.gap us) in
    let parts : total_rows us ≡ total_rows (take m.gap us) + total_rows (drop m.gap us) = ap total_rows (sym (take-append-drop m.gap us)) ∙ sum_by-append entry_rows (take m.gap us) (drop m.gap us) in
    let whole = sum_by-append entry_rows (take m.gap us) (e.Fault m.by ∷ woven ms (drop m.gap us)) in
    omega (arith, rest, parts, whole)

update_count-append : (xs ys : List Entry) → update_count (xs ++ ys) ≡ update_count xs + update_count ys
update_count-append [] ys = omega arith
update_count-append (e.Upd by table columns ∷ xs) ys = let h = update_count-append xs ys in omega arith
update_count-append (e.Roll by date ∷ xs) ys = update_count-append xs ys
update_count-append (e.Fault by ∷ xs) ys = update_count-append xs ys

pub update_count-woven : (marks : List Mark) (us : List Entry) → update_count (woven marks us) ≡ update_count us
update_count-woven [] us = refl
update_count-woven (m ∷ ms) us =
    let rest = update_count-woven ms (drop m.gap us) in
    let parts : update_count us ≡ update_count (take m.gap us) + update_count (drop m.gap us) = ap update_count (sym (take-append-drop m.gap us)) ∙ update_count-append (take m.gap us) (drop m.gap us) in
    let whole = update_count-append (take m.gap us) (e.Fault m.by ∷ woven ms (drop m.gap us)) in
    omega (arith, rest, parts, whole)

-- entries that show the same rows, after others
rows-after : (t : ℕ) (xs ys zs : List Entry) → ((date : ℤ) (n : ℕ) → rows_from date n ys t ≡ rows_from date n zs t) → (date : ℤ) (n : ℕ) → rows_from date n (xs ++ ys) t ≡ rows_from date n (xs ++ zs) t
rows-after t [] ys zs same date n = same date n
rows-after t (e.Upd by to columns ∷ xs) ys zs same date n =
    (λ i. cond (to == t) (numbered date n (lines_of columns) ++ rows-after t xs ys zs same date (n + rows_of columns) i) (rows-after t xs ys zs same date n i))
rows-after t (e.Roll by next ∷ xs) ys zs same date n = rows-after t xs ys zs same next 0
rows-after t (e.Fault by ∷ xs) ys zs same date n = rows-after t xs ys zs same date n

-- faults show no rows
pub rows-woven : (t : ℕ) (marks : List Mark) (us : List Entry) (date : ℤ) (n : ℕ) → rows_from date n (woven marks us) t ≡ rows_from date n us t
rows-woven t [] us date n = refl
rows-woven t (m ∷ ms) us date n =
    rows-after t (take m.gap us) (e.Fault m.by ∷ woven ms (drop m.gap us)) (drop m.gap us) (λ d k. rows-woven t ms (drop m.gap us) d k) date n
    ∙ ap (λ l. rows_from date n l t) (take-append-drop m.gap us)

-- one more update, after all faults
pub woven-update : (marks : List Mark) (us : List Entry) (entry : Entry) → covered marks ≤ length us → woven marks (us ++ entry ∷ []) ≡ woven marks us ++ entry ∷ []
woven-update [] us entry within = refl
woven-update (m ∷ ms) us entry within =
    let here : m.gap ≤ length us = omega (arith, within) in
    let rest : covered ms ≤ length (drop m.gap us) = omega (arith, within, length-drop m.gap us) in
    ap₂ (λ xs ys. xs ++ e.Fault m.by ∷ ys) (take-append-le m.gap us (entry ∷ []) here) (ap (woven ms) (drop-append-le m.gap us (entry ∷ []) here) ∙ woven-update ms (drop m.gap us) entry rest)
    ∙ sym (append_assoc (take m.gap us) (e.Fault m.by ∷ woven ms (drop m.gap us)) (entry ∷ []))

-- one more fault, after all updates
pub woven-fault : (marks : List Mark) (us : List Entry) (by gap : ℕ) → covered marks + gap ≡ length us → woven (marks ++ record { by = by; gap = gap } ∷ []) us ≡ woven marks us ++ e.Fault by ∷ []
woven-fault [] us by gap all =
    let enough : length us ≤ gap = omega (arith, all) in
    ap₂ (λ xs ys. xs ++ e.Fault by ∷ ys) (take_all gap us enough) (drop_all gap us enough)
woven-fault (m ∷ ms) us by gap all =
    let rest : covered ms + gap ≡ length (drop m.gap us) = omega (arith, all, length-drop m.gap us) in
    ap (λ ys. take m.gap us ++ e.Fault m.by ∷ ys) (woven-fault ms (drop m.gap us) by gap rest)
    ∙ sym (append_assoc (take m.gap us) (e.Fault m.by ∷ woven ms (drop m.gap us)) (e.Fault by ∷ []))

-- a date without entries has no updates
pub woven-none : (marks : List Mark) (us : List Entry) → woven marks us ≡ [] → us ≡ []
woven-none [] us none = none
woven-none (m ∷ ms) us none = absurd (let size = ap length none in let whole = length-woven (m ∷ ms) us in omega (arith, size, whole))

-- a date without entries has no faults, so it has the updates that are put into it, and no other entries
pub woven-begun : (marks : List Mark) (us more : List Entry) → woven marks us ≡ [] → woven marks more ≡ more
woven-begun [] us more none = refl
woven-begun (m ∷ ms) us more none = absurd (let size = ap length none in let whole = length-woven (m ∷ ms) us in omega (arith, size, whole))

pub covered-begun : (marks : List Mark) (us : List Entry) → woven marks us ≡ [] → covered marks ≡ 0
covered-begun [] us none = refl
covered-begun (m ∷ ms) us none = absurd (let size = ap length none in let whole = length-woven (m ∷ ms) us in omega (arith, size, whole))

pub covered-fault : (marks : List Mark) (mark : Mark) → covered (marks ++ mark ∷ []) ≡ covered marks + mark.gap
covered-fault [] mark = omega arith
covered-fault (m ∷ ms) mark = let rest = covered-fault ms mark in omega arith
