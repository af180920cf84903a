-- What a plant shows of its dates.
use Rattle.std.proofs.Common.{◌≡◌, ℕ, ℤ, zero, suc, ◌+◌, ◌<◌, ◌≤◌, ◌∷◌, ◌++◌, [], List, length, map, get_or, refl, sym, ap, ap₂, ◌∙◌, subst, arith, append-nil, true, false, cond, ◌⊎◌, inl, inr}
use Rattle.std.specs.List.{AllByRecursion}
use Rattle.std.specs.Ordering.{int_cmp, int_eq, is_gt, is_eq, ordering_reverse}
use Rattle.std.specs.declared.cmp.Ordering.{Ordering}
use Rattle.std.specs.declared.cmp.Ordering.TheVariants.{Less}
use Rattle.std.proofs.lemmas.Cmp.{int_cmp_total, tied_itself}
use Rattle.std.proofs.lemmas.List.{length-map}
use Rattle.std.proofs.lemmas.List.Elements.{filter-append}
use Rattle.q_values.specs.declared.atom.Atom.{Atom}
use Rattle.q_values.specs.declared.kind.Kind.{Kind}
use Rattle.day_rows.specs.Chronicle.{view, ended_cmp}
use Rattle.day_rows.specs.Day.{Day, IsDay, arrived, settled}
use Rattle.day_rows.specs.Rows.{Row, numbered}
use Rattle.day_rows.specs.Sorted.{in_order, inserted}
use Rattle.day_rows.proofs.DayLemmas.{all-append}
use Rattle.day_rows.proofs.RowsLemmas.{arrived-numbered, lines_of_day}
use Rattle.day_rows.proofs.ViewLemmas.{view-open, view-ended}
use Rattle.plant_memory.specs.Chronicle.{dates_of, on_date, date_at, rows_at}
use Rattle.std.proofs.Common.{◌-◌, take, drop, Result, Ok, Err}
use Rattle.std.specs.Prelude.{IfOk}
use Rattle.std.proofs.lemmas.List.{get_or-map}
use Rattle.q_values.specs.Contents.{Contents}
use Rattle.q_values.specs.declared.refusal.NoMemory.{NoMemory}
use Rattle.day_rows.specs.Day.{HasColumn}
use Rattle.day_rows.specs.Rows.{column_of}
use Rattle.plant_memory.specs.History.{Past, chronicle_of, Follow, IsColumn}
use Rattle.plant_memory.specs.Faults.{woven}
use Rattle.plant_memory.specs.declared.faults.Mark.{Mark}
use Rattle.plant_memory.proofs.FaultLemmas.{rows-woven}
use Rattle.plant_memory.proofs.HistoryLemmas.{day_keeps, dates_of-chronicle, ascend-chronicle}

pub weaker : {X : Type 0} (P Q : X → Type 0) → ((x : X) → P x → Q x) → (xs : List X) → AllByRecursion P xs → AllByRecursion Q xs
weaker P Q f [] h = tt
weaker P Q f (x ∷ xs) h = (f x h.0, weaker P Q f xs h.1)

all-inserted : {X : Type 0} (cmp : X → X → Ordering) (P : X → Type 0) (x : X) (ys : List X) → P x → AllByRecursion P ys → AllByRecursion P (inserted cmp x ys)
all-inserted cmp P x [] own all = (own, tt)
all-inserted cmp P x (y ∷ ys) own all =
    elim (is_gt (cmp x y)) as (λ b. AllByRecursion P (cond b (y ∷ inserted cmp x ys) (x ∷ y ∷ ys))) [ true ↦ (all.0, all-inserted cmp P x ys own all.1) | false ↦ (own, all) ]

pub all-in_order : {X : Type 0} (cmp : X → X → Ordering) (P : X → Type 0) (xs : List X) → AllByRecursion P xs → AllByRecursion P (in_order cmp xs)
all-in_order cmp P [] all = tt
all-in_order cmp P (x ∷ xs) all = all-inserted cmp P x (in_order cmp xs) all.0 (all-in_order cmp P xs all.1)

pub numbered-dated : (date : ℤ) (n : ℕ) (ls : List (List Atom)) → AllByRecursion (λ (r : Row). r.date ≡ date) (numbered date n ls)
numbered-dated date n [] = tt
numbered-dated date n (l ∷ ls) = (refl, numbered-dated date (n + 1) ls)

arrived-dated : (day : Day) (t : ℕ) → IsDay day → AllByRecursion (λ (r : Row). r.date ≡ day.date) (arrived day t)
arrived-dated day t is = rw (arrived-numbered day t is.updates) (numbered-dated day.date 0 (lines_of_day day t))

settled-dated : (day : Day) (t : ℕ) → IsDay day → AllByRecursion (λ (r : Row). r.date ≡ day.date) (settled day t)
settled-dated day t is = all-in_order ended_cmp (λ (r : Row). r.date ≡ day.date) (arrived day t) (arrived-dated day t is)

int_eq-itself : (x : ℤ) → int_eq x x ≡ true
int_eq-itself x = ap is_eq (tied_itself int_cmp_total x)

pub apart : (x y : ℤ) → int_cmp x y ≡ Less → int_eq x y ≡ false
apart x y less = ap is_eq less

pub apart-back : (x y : ℤ) → int_cmp x y ≡ Less → int_eq y x ≡ false
apart-back x y less = ap is_eq (int_cmp_total.antisymm y x ∙ ap ordering_reverse less)

pub on_date-all : (date : ℤ) (rows : List Row) → AllByRecursion (λ (r : Row). r.date ≡ date) rows → on_date date rows ≡ rows
on_date-all date [] all = refl
on_date-all date (r ∷ rows) all = ap (λ b. cond b (r ∷ on_date date rows) (on_date date rows)) (ap (λ d. int_eq d date) all.0 ∙ int_eq-itself date) ∙ ap (λ l. r ∷ l) (on_date-all date rows all.1)

pub on_date-none : (date : ℤ) (rows : List Row) → AllByRecursion (λ (r : Row). int_eq r.date date ≡ false) rows → on_date date rows ≡ []
on_date-none date [] none = refl
on_date-none date (r ∷ rows) none = rw none.0 (on_date-none date rows none.1)

-- a date that is this one or a later one
abbrev pub IsFrom : ℤ → ℤ → Type 0
IsFrom date other = (other ≡ date) ⊎ (int_cmp date other ≡ Less)

pub from-later : (date next other : ℤ) → int_cmp date next ≡ Less → IsFrom next other → int_cmp date other ≡ Less
from-later date next other less (inl same) = rw same less
from-later date next other less (inr more) = int_cmp_total.trans date next other less more

-- the rows of the date with an index: by symbol where the date has ended, and else by arrival
abbrev pub block : List Past → Day → ℕ → ℕ → List Row
block [] current k t = arrived current t
block (past ∷ pasts) current zero t = settled past.day t
block (past ∷ pasts) current (suc k) t = block pasts current k t

view-first : (kinds : List (List Kind)) (first : ℤ) (past : Past) (pasts : List Past) (current : Day) (marks : List Mark) (t : ℕ) → Follow kinds first (past ∷ pasts) current
    → view first (chronicle_of (past ∷ pasts) (woven marks current.updates)) t ≡ settled past.day t ++ view past.next (chronicle_of pasts (woven marks current.updates)) t
view-first kinds first past pasts current marks t h =
    view-ended first past.next past.by t (woven past.marks past.day.updates) (chronicle_of pasts (woven marks current.updates)) (day_keeps past.day past.marks h.2) h.3 (ascend-chronicle kinds past.next pasts current marks h.4)
    ∙ ap (λ rs. in_order ended_cmp rs ++ view past.next (chronicle_of pasts (woven marks current.updates)) t) (rows-woven t past.marks past.day.updates first 0)
    ∙ ap (λ d. settled (record past.day { date = d }) t ++ view past.next (chronicle_of pasts (woven marks current.updates)) t) (sym h.0)

view-last : (kinds : List (List Kind)) (first : ℤ) (current : Day) (marks : List Mark) (t : ℕ) → Follow kinds first [] current → view first (chronicle_of [] (woven marks current.updates)) t ≡ arrived current t
view-last kinds first current marks t h = view-open first t (woven marks current.updates) (day_keeps current marks h.2) ∙ rows-woven t marks current.updates first 0 ∙ ap (λ d. arrived (record current { date = d }) t) (sym h.0)

view-dated : (kinds : List (List Kind)) (first : ℤ) (pasts : List Past) (current : Day) (marks : List Mark) (t : ℕ) → Follow kinds first pasts current → AllByRecursion (λ (r : Row). IsFrom first r.date) (view first (chronicle_of pasts (woven marks current.updates)) t)
view-dated kinds first [] current marks t h =
    rw (view-last kinds first current marks t h) (weaker (λ (r : Row). r.date ≡ current.date) (λ (r : Row). IsFrom first r.date) (λ r same. inl (same ∙ h.0)) (arrived current t) (arrived-dated current t h.2))
view-dated kinds first (past ∷ pasts) current marks t h =
    rw (view-first kinds first past pasts current marks t h)
    (all-append (λ (r : Row). IsFrom first r.date) (settled past.day t) (view past.next (chronicle_of pasts (woven marks current.updates)) t)
    (weaker (λ (r : Row). r.date ≡ past.day.date) (λ (r : Row). IsFrom first r.date) (λ r same. inl (same ∙ h.0)) (settled past.day t) (settled-dated past.day t h.2))
    (weaker (λ (r : Row). IsFrom past.next r.date) (λ (r : Row). IsFrom first r.date) (λ r from. inr (from-later first past.next r.date h.3 from)) (view past.next (chronicle_of pasts (woven marks current.updates)) t) (view-dated kinds past.next pasts current marks t h.4)))

-- the dates, in order
abbrev nexts : List Past → List ℤ
nexts = map (λ past. past.next)

date-from : (kinds : List (List Kind)) (first : ℤ) (pasts : List Past) (current : Day) (k : ℕ) (d : ℤ) → Follow kinds first pasts current → k ≤ length pasts → IsFrom first (get_or (first ∷ nexts pasts) k d)
date-from kinds first pasts current zero d h k_in = inl refl
date-from kinds first [] current (suc k) d h k_in = absurd (omega arith)
date-from kinds first (past ∷ pasts) current (suc k) d h k_in =
    inr (from-later first past.next (get_or (past.next ∷ nexts pasts) k d) h.3 (date-from kinds past.next pasts current k d h.4 (omega arith)))

shown : (kinds : List (List Kind)) (first : ℤ) (pasts : List Past) (current : Day) (marks : List Mark) (k t : ℕ) (d : ℤ) → Follow kinds first pasts current → k ≤ length pasts
    → on_date (get_or (first ∷ nexts pasts) k d) (view first (chronicle_of pasts (woven marks current.updates)) t) ≡ block pasts current k t
shown kinds first [] current marks zero t d h k_in =
    rw (view-last kinds first current marks t h) (on_date-all first (arrived current t) (subst (λ x. AllByRecursion (λ (r : Row). r.date ≡ x) (arrived current t)) h.0 (arrived-dated current t h.2)))
shown kinds first [] current marks (suc k) t d h k_in = absurd (omega arith)
shown kinds first (past ∷ pasts) current marks zero t d h k_in =
    let rest = view past.next (chronicle_of pasts (woven marks current.updates)) t in
    let own = on_date-all first (settled past.day t) (subst (λ x. AllByRecursion (λ (r : Row). r.date ≡ x) (settled past.day t)) h.0 (settled-dated past.day t h.2)) in
    let none = on_date-none first rest (weaker (λ (r : Row). IsFrom past.next r.date) (λ (r : Row). int_eq r.date first ≡ false) (λ r from. apart-back first r.date (from-later first past.next r.date h.3 from)) rest (view-dated kinds past.next pasts current marks t h.4)) in
    rw (view-first kinds first past pasts current marks t h) (filter-append (λ (r : Row). int_eq r.date first) (settled past.day t) rest ∙ ap₂ ◌++◌ own none ∙ append-nil (settled past.day t))
shown kinds first (past ∷ pasts) current marks (suc k) t d h k_in =
    let date = get_or (past.next ∷ nexts pasts) k d in
    let rest = view past.next (chronicle_of pasts (woven marks current.updates)) t in
    let less : int_cmp past.day.date date ≡ Less = rw h.0 (from-later first past.next date h.3 (date-from kinds past.next pasts current k d h.4 (omega arith))) in
    let none = on_date-none date (settled past.day t) (weaker (λ (r : Row). r.date ≡ past.day.date) (λ (r : Row). int_eq r.date date ≡ false) (λ r same. rw same (apart past.day.date date less)) (settled past.day t) (settled-dated past.day t h.2)) in
    rw (view-first kinds first past pasts current marks t h) (filter-append (λ (r : Row). int_eq r.date date) (settled past.day t) rest ∙ ap₂ ◌++◌ none (shown kinds past.next pasts current marks k t d h.4 (omega arith)))

pub rows_at-chronicle : (kinds : List (List Kind)) (first : ℤ) (pasts : List Past) (current : Day) (marks : List Mark) (k t : ℕ) → Follow kinds first pasts current → k ≤ length pasts
    → rows_at first (chronicle_of pasts (woven marks current.updates)) k t ≡ block pasts current k t
rows_at-chronicle kinds first pasts current marks k t h k_in =
    ap (λ ds. on_date (get_or ds k first) (view first (chronicle_of pasts (woven marks current.updates)) t)) (dates_of-chronicle kinds first pasts current marks h) ∙ shown kinds first pasts current marks k t first h k_in

pub length-dates : (kinds : List (List Kind)) (first : ℤ) (pasts : List Past) (current : Day) (marks : List Mark) → Follow kinds first pasts current → length (dates_of first (chronicle_of pasts (woven marks current.updates))) ≡ length pasts + 1
length-dates kinds first pasts current marks h = ap length (dates_of-chronicle kinds first pasts current marks h) ∙ (let size : length (first ∷ nexts pasts) ≡ length pasts + 1 = omega (arith, length-map pasts (λ (p : Past). p.next)) in size)

-- the ended date with an index
pub record IsPast (kinds : List (List Kind)) (pasts : List Past) (current : Day) (k : ℕ) (past : Past) : Type 0 where
  pub kinds_are : past.day.kinds ≡ kinds
  pub lawful : IsDay past.day
  pub shows : (t : ℕ) → block pasts current k t ≡ settled past.day t

pub past_at : (kinds : List (List Kind)) (first : ℤ) (pasts : List Past) (current : Day) (k : ℕ) (past : Past) → Follow kinds first pasts current → k < length pasts → past ≡ get_or pasts k past → IsPast kinds pasts current k past
past_at kinds first [] current k past h k_in is = absurd (omega arith)
past_at kinds first (own ∷ pasts) current zero past h k_in is = rw is (record { kinds_are = h.1; lawful = h.2; shows = λ t. refl })
past_at kinds first (own ∷ pasts) current (suc k) past h k_in is =
    let rest = past_at kinds own.next pasts current k past h.4 (omega arith) is in
    record { kinds_are = rest.kinds_are; lawful = rest.lawful; shows = rest.shows }

pub last_block : (pasts : List Past) (current : Day) (t : ℕ) → block pasts current (length pasts) t ≡ arrived current t
last_block [] current t = refl
last_block (past ∷ pasts) current t = last_block pasts current t

-- what a plant shows on a date that has ended, and on the open one
pub rows-past : (kinds : List (List Kind)) (first : ℤ) (pasts : List Past) (current : Day) (marks : List Mark) (k t : ℕ) (past : Past) → Follow kinds first pasts current → k < length pasts → past ≡ get_or pasts k past → rows_at first (chronicle_of pasts (woven marks current.updates)) k t ≡ settled past.day t
rows-past kinds first pasts current marks k t past h k_in is = rows_at-chronicle kinds first pasts current marks k t h (omega arith) ∙ (past_at kinds first pasts current k past h k_in is).shows t

pub rows-last : (kinds : List (List Kind)) (first : ℤ) (pasts : List Past) (current : Day) (marks : List Mark) (k t : ℕ) → Follow kinds first pasts current → k ≡ length pasts → rows_at first (chronicle_of pasts (woven marks current.updates)) k t ≡ arrived current t
rows-last kinds first pasts current marks k t h is = rows_at-chronicle kinds first pasts current marks k t h (omega arith) ∙ ap (λ n. block pasts current n t) is ∙ last_block pasts current t

pub date_at-zero : (kinds : List (List Kind)) (first : ℤ) (pasts : List Past) (current : Day) (marks : List Mark) (k : ℕ) → Follow kinds first pasts current → k ≡ 0 → first ≡ date_at first (chronicle_of pasts (woven marks current.updates)) k
date_at-zero kinds first pasts current marks k h is = rw is (sym (ap (λ ds. get_or ds 0 first) (dates_of-chronicle kinds first pasts current marks h)))

pub date_at-next : (kinds : List (List Kind)) (first : ℤ) (pasts : List Past) (current : Day) (marks : List Mark) (k : ℕ) (past : Past) → Follow kinds first pasts current → 0 < k → k - 1 < length pasts → past ≡ get_or pasts (k - 1) past → past.next ≡ date_at first (chronicle_of pasts (woven marks current.updates)) k
date_at-next kinds first pasts current marks zero past h some k_in is = absurd (omega arith)
date_at-next kinds first pasts current marks (suc k) past h some k_in is =
    let same : suc k - 1 ≡ k = omega arith in
    let is' : past ≡ get_or pasts k past = rw same at is in
    sym (ap (λ ds. get_or ds (suc k) first) (dates_of-chronicle kinds first pasts current marks h) ∙ get_or-map (λ (p : Past). p.next) pasts k past first (omega arith) ∙ ap (λ (p : Past). p.next) (sym is'))

pub column_in : (tables : List (List Kind)) (day : Day) (t c : ℕ) (kind : Kind) → day.kinds ≡ tables → IsColumn tables t c kind → HasColumn day t c kind
column_in tables day t c kind same is = (is.kinds, rw same is.table_is, is.column_is)

-- a part of a column that a day shows, as the plant shows it
pub column_shown : (r : Result Contents NoMemory) (tables : List (List Kind)) (day : Day) (t c from n : ℕ) (rows shows : List Row) → day.kinds ≡ tables → shows ≡ rows
    → IfOk r (λ part. (kind : Kind) → HasColumn day t c kind → part ≡ record { kind = kind; atoms = take n (drop from (column_of kind c rows).atoms) })
    → IfOk r (λ part. (kind : Kind) → IsColumn tables t c kind → part ≡ record { kind = kind; atoms = take n (drop from (column_of kind c shows).atoms) })
column_shown (Ok part) tables day t c from n rows shows same is h = λ kind has. rw is (h kind (column_in tables day t c kind same has))
column_shown (Err why) tables day t c from n rows shows same is h = h
