-- The view of a chronicle, date by date.
use Rattle.std.proofs.Common.{◌≡◌, ℕ, ℤ, zero, suc, ◌+◌, ◌≤◌, ◌∷◌, ◌++◌, ◌==◌, [], List, length, refl, sym, ap, ap₂, ◌∙◌, subst, arith, append-nil, true, false, cond, ◌⊎◌, inl, inr, flat_map}
use Rattle.std.specs.List.{AllByRecursion}
use Rattle.std.specs.Ordering.{int_cmp, int_eq}
use Rattle.std.specs.declared.cmp.Ordering.TheVariants.{Less}
use Rattle.std.proofs.lemmas.List.{length-append}
use Rattle.std.proofs.lemmas.List.Elements.{filter-append}
use Rattle.q_values.specs.Table.{rows_of}
use Rattle.day_rows.specs.Chronicle.{view, documented_cmp, ended_cmp, date_of, KeepsDate, DatesAscend}
use Rattle.day_rows.specs.Rows.{Row, numbered, lines_of, rows, rows_from}
use Rattle.day_rows.specs.Sorted.{in_order}
use Rattle.day_rows.specs.declared.entry.Entry.{Entry}
use Rattle.day_rows.specs.declared.entry.Entry.TheVariants as e
use Rattle.day_rows.proofs.DayLemmas.{all-append}
use Rattle.day_rows.proofs.ViewLemmas.{view-open, view-ended}
use Rattle.plant_memory.specs.Chronicle.{dates_of, on_date}
use Rattle.plant_memory.specs.Laws.{ViewIsItsDates}
use Rattle.plant_memory.proofs.HistoryLemmas.{dates_of-kept, dates_of-roll}
use Rattle.plant_memory.proofs.ShownLemmas.{weaker, all-in_order, on_date-all, on_date-none, IsFrom, from-later, apart, apart-back, numbered-dated}

-- the rows of entries that keep the date are of that date
rows-dated : (date : ℤ) (n : ℕ) (es : List Entry) (t : ℕ) → AllByRecursion KeepsDate es → AllByRecursion (λ (r : Row). r.date ≡ date) (rows_from date n es t)
rows-dated date n [] t keep = tt
rows-dated date n (e.Upd by to columns ∷ es) t keep =
    elim (to == t) as (λ b. AllByRecursion (λ (r : Row). r.date ≡ date) (cond b (numbered date n (lines_of columns) ++ rows_from date (n + rows_of columns) es t) (rows_from date n es t))) [
      | true ↦ all-append (λ (r : Row). r.date ≡ date) (numbered date n (lines_of columns)) (rows_from date (n + rows_of columns) es t) (numbered-dated date n (lines_of columns)) (rows-dated date (n + rows_of columns) es t keep.1)
      | false ↦ rows-dated date n es t keep.1
    ]
rows-dated date n (e.Roll by next ∷ es) t keep = absurd keep.0
rows-dated date n (e.Fault by ∷ es) t keep = rows-dated date n es t keep.1

-- the rows of any entries are of the first date or of later ones
rows-from : (date : ℤ) (n : ℕ) (es : List Entry) (t : ℕ) → DatesAscend date es → AllByRecursion (λ (r : Row). IsFrom date r.date) (rows_from date n es t)
rows-from date n [] t up = tt
rows-from date n (e.Upd by to columns ∷ es) t up =
    elim (to == t) as (λ b. AllByRecursion (λ (r : Row). IsFrom date r.date) (cond b (numbered date n (lines_of columns) ++ rows_from date (n + rows_of columns) es t) (rows_from date n es t))) [
      | true ↦ all-append (λ (r : Row). IsFrom date r.date) (numbered date n (lines_of columns)) (rows_from date (n + rows_of columns) es t)
          (weaker (λ (r : Row). r.date ≡ date) (λ (r : Row). IsFrom date r.date) (λ r same. inl same) (numbered date n (lines_of columns)) (numbered-dated date n (lines_of columns))) (rows-from date (n + rows_of columns) es t up)
      | false ↦ rows-from date n es t up
    ]
rows-from date n (e.Roll by next ∷ es) t up =
    weaker (λ (r : Row). IsFrom next r.date) (λ (r : Row). IsFrom date r.date) (λ r from. inr (from-later date next r.date up.0 from)) (rows_from next 0 es t) (rows-from next 0 es t up.1)
rows-from date n (e.Fault by ∷ es) t up = rows-from date n es t up

view-from : (first : ℤ) (es : List Entry) (t : ℕ) → DatesAscend first es → AllByRecursion (λ (r : Row). IsFrom first r.date) (view first es t)
view-from first es t up = all-in_order (documented_cmp (date_of first es)) (λ (r : Row). IsFrom first r.date) (rows first es t) (rows-from first 0 es t up)

dates-from : (first : ℤ) (es : List Entry) → DatesAscend first es → AllByRecursion (IsFrom first) (dates_of first es)
dates-from first [] up = (inl refl, tt)
dates-from first (e.Upd by table columns ∷ es) up = dates-from first es up
dates-from first (e.Roll by next ∷ es) up = (inl refl, weaker (IsFrom next) (IsFrom first) (λ d from. inr (from-later first next d up.0 from)) (dates_of next es) (dates-from next es up.1))
dates-from first (e.Fault by ∷ es) up = dates-from first es up

-- entries up to their first roll, and after it
record Cut (es : List Entry) : Type 0 where
  ended : List Entry
  by : ℕ
  next : ℤ
  later : List Entry
  keep : AllByRecursion KeepsDate ended
  whole : es ≡ ended ++ e.Roll by next ∷ later

longer : (x : Entry) (es : List Entry) → KeepsDate x → AllByRecursion KeepsDate es ⊎ Cut es → AllByRecursion KeepsDate (x ∷ es) ⊎ Cut (x ∷ es)
longer x es own (inl all) = inl (own, all)
longer x es own (inr c) = inr (record { ended = x ∷ c.ended; by = c.by; next = c.next; later = c.later; keep = (own, c.keep); whole = ap (λ l. x ∷ l) c.whole })

cut : (es : List Entry) → AllByRecursion KeepsDate es ⊎ Cut es
cut [] = inl tt
cut (e.Upd by table columns ∷ es) = longer (e.Upd by table columns) es tt (cut es)
cut (e.Roll by next ∷ es) = inr (record { ended = []; by = by; next = next; later = es; keep = tt; whole = refl })
cut (e.Fault by ∷ es) = longer (e.Fault by) es tt (cut es)

ascend-parts : (date next : ℤ) (by : ℕ) (es later : List Entry) → AllByRecursion KeepsDate es → DatesAscend date (es ++ e.Roll by next ∷ later) → (int_cmp date next ≡ Less) × DatesAscend next later
ascend-parts date next by [] later keep up = up
ascend-parts date next by (e.Upd own table columns ∷ es) later keep up = ascend-parts date next by es later keep.1 up
ascend-parts date next by (e.Roll own other ∷ es) later keep up = absurd keep.0
ascend-parts date next by (e.Fault own ∷ es) later keep up = ascend-parts date next by es later keep.1 up

flat_map-same : {A B : Type 0} (f g : A → List B) (P : A → Type 0) → ((x : A) → P x → f x ≡ g x) → (xs : List A) → AllByRecursion P xs → flat_map f xs ≡ flat_map g xs
flat_map-same f g P same [] h = refl
flat_map-same f g P same (x ∷ xs) h = ap₂ ◌++◌ (same x h.0) (flat_map-same f g P same xs h.1)

-- what the dates of a chronicle show, in order
abbrev by_dates : ℤ → List Entry → ℕ → List Row
by_dates first es t = flat_map (λ date. on_date date (view first es t)) (dates_of first es)

kept : (first : ℤ) (t : ℕ) (es : List Entry) → AllByRecursion KeepsDate es → view first es t ≡ by_dates first es t
kept first t es keep =
    let same = view-open first t es keep in
    let own : on_date first (view first es t) ≡ view first es t = ap (on_date first) same ∙ on_date-all first (rows first es t) (rows-dated first 0 es t keep) ∙ sym same in
    sym (ap (flat_map (λ date. on_date date (view first es t))) (dates_of-kept first es keep) ∙ append-nil (on_date first (view first es t)) ∙ own)

-- the rows of an ended date, followed by those of later dates, of which the law holds
joined : (first next : ℤ) (some later : List Row) (dates : List ℤ) → int_cmp first next ≡ Less → AllByRecursion (λ (r : Row). r.date ≡ first) some → AllByRecursion (λ (r : Row). IsFrom next r.date) later → AllByRecursion (IsFrom next) dates
    → later ≡ flat_map (λ date. on_date date later) dates → some ++ later ≡ flat_map (λ date. on_date date (some ++ later)) (first ∷ dates)
joined first next some later dates less own from dates_from holds =
    let none = on_date-none first later (weaker (λ (r : Row). IsFrom next r.date) (λ (r : Row). int_eq r.date first ≡ false) (λ r f. apart-back first r.date (from-later first next r.date less f)) later from) in
    let here : on_date first (some ++ later) ≡ some = filter-append (λ (r : Row). int_eq r.date first) some later ∙ ap₂ ◌++◌ (on_date-all first some own) none ∙ append-nil some in
    let there : (date : ℤ) → IsFrom next date → on_date date (some ++ later) ≡ on_date date later = λ date f.
    let past : int_cmp first date ≡ Less = from-later first next date less f in
    let nothing = on_date-none date some (weaker (λ (r : Row). r.date ≡ first) (λ (r : Row). int_eq r.date date ≡ false) (λ r same. ap (λ d. int_eq d date) same ∙ apart first date past) some own) in
    filter-append (λ (r : Row). int_eq r.date date) some later ∙ ap (λ l. l ++ on_date date later) nothing in
    sym (ap₂ ◌++◌ here (flat_map-same (λ date. on_date date (some ++ later)) (λ date. on_date date later) (IsFrom next) there dates dates_from ∙ sym holds))

after_cut : (first : ℤ) (t : ℕ) (es : List Entry) (c : Cut es) → DatesAscend first es → ((up : DatesAscend c.next c.later) → view c.next c.later t ≡ by_dates c.next c.later t) → view first es t ≡ by_dates first es t
after_cut first t es c up holds =
    let parts = ascend-parts first c.next c.by c.ended c.later c.keep (subst (DatesAscend first) c.whole up) in
    let some : List Row = in_order ended_cmp (rows first c.ended t) in
    let own = all-in_order ended_cmp (λ (r : Row). r.date ≡ first) (rows first c.ended t) (rows-dated first 0 c.ended t c.keep) in
    let shown = view-ended first c.next c.by t c.ended c.later c.keep parts.0 parts.1 in
    let dates = dates_of-roll first c.next c.by c.ended c.later c.keep in
    let both = joined first c.next some (view c.next c.later t) (dates_of c.next c.later) parts.0 own (view-from c.next c.later t parts.1) (dates-from c.next c.later parts.1) (holds parts.1) in
    ap (λ l. view first l t) c.whole
    ∙ shown ∙ both
    ∙ sym (ap (λ l. by_dates first l t) c.whole ∙ ap₂ (λ v ds. flat_map (λ date. on_date date v) ds) shown dates)

law : (n : ℕ) (first : ℤ) (t : ℕ) (es : List Entry) → length es ≤ n → DatesAscend first es → view first es t ≡ by_dates first es t
law zero first t [] short up = kept first t [] tt
law zero first t (x ∷ es) short up = absurd (omega arith)
law (suc n) first t es short up =
    elim (cut es) [
      | inl keep ↦ kept first t es keep
      | inr c ↦ after_cut first t es c up (law n c.next t c.later (omega (arith, short, ap length c.whole, length-append c.ended (e.Roll c.by c.next ∷ c.later))))
    ]

pub view-by_dates : ViewIsItsDates
view-by_dates first t es up = law (length es) first t es (omega arith) up
