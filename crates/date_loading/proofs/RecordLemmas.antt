-- The tables and the dates of a manifest's records.
use Rattle.std.proofs.Common.{◌≡◌, ℕ, zero, suc, ℤ, ◌<ℤ◌, ◌<◌, ◌≤◌, ◌+◌, ◌-◌, List, [], ◌∷◌, ◌++◌, length, map, take, drop, slice_get, Option, Some}
use Rattle.std.proofs.Common.{None, unwrap_or, refl, sym, ap, ◌∙◌, subst, arith}
use Rattle.std.specs.List.{AllByRecursion}
use Rattle.std.proofs.lemmas.Int.{ints}
use Rattle.std.specs.declared.cmp.Ordering.TheVariants.{Less}
use Rattle.day_rows.proofs.DayLemmas.{all-append}
use Rattle.day_rows.specs.Schema.{IsShape, by_name, AscendByName}
use Rattle.day_rows.specs.Sorted.{IsAscending}
use Rattle.day_rows.specs.declared.schema.Shape.{Shape}
use Rattle.tick_log.proofs.Replays.{take_next}
use Rattle.partition_set.specs.Records.{IsManifest, IsRecord, IsOpened, MayFollow}
use Rattle.partition_set.specs.declared.record.ManifestRecord.{ManifestRecord}
use Rattle.partition_set.specs.declared.record.ManifestRecord.TheVariants as m
use Rattle.date_logs.specs.Restart.{Dated, opening, manifest_of}
use Rattle.date_loading.specs.Manifests.{tables_of, last_date, IsBefore}

pub get-all : {X : Type 0} (P : X → Type 0) (xs : List X) (n : ℕ) (x : X) → AllByRecursion P xs → slice_get xs n ≡ Some x → P x
get-all P [] n x h at = absurd cc
get-all P (y ∷ ys) zero x h at = let same : y ≡ x = cc in subst P same h.0
get-all P (y ∷ ys) (suc n) x h at = get-all P ys n x h.1 at

pub get-below : {X : Type 0} (xs : List X) (n : ℕ) (x : X) → slice_get xs n ≡ Some x → n < length xs
get-below [] n x at = absurd cc
get-below (y ∷ ys) zero x at = omega arith
get-below (y ∷ ys) (suc n) x at = omega (arith, get-below ys n x at)

pub whole-take : {X : Type 0} (xs : List X) (n : ℕ) → n ≡ length xs → take n xs ≡ xs
whole-take [] zero same = refl
whole-take [] (suc n) same = refl
whole-take (x ∷ xs) zero same = absurd (omega (arith, same))
whole-take (x ∷ xs) (suc n) same = ap (λ (l : List _). x ∷ l) (whole-take xs n (omega (arith, same)))

-- the last one, after the others
last-split : {X : Type 0} (xs : List X) (x : X) → slice_get xs (length xs - 1) ≡ Some x → xs ≡ take (length xs - 1) xs ++ x ∷ []
last-split xs x at = sym (whole-take xs (length xs - 1 + 1) (omega (arith, get-below xs (length xs - 1) x at))) ∙ take_next xs (length xs - 1) x at

-- ---- the tables come first

only-dates : (by : ℕ) (date : ℤ) (records : List ManifestRecord) → AllByRecursion (MayFollow (m.Opened by date)) records → AllByRecursion IsOpened records
only-dates by date [] h = tt
only-dates by date (m.Shape shape ∷ records) h = absurd h.0
only-dates by date (m.Opened by' date' ∷ records) h = (tt, only-dates by date records h.1)

no-tables : (records : List ManifestRecord) → AllByRecursion IsOpened records → tables_of records ≡ []
no-tables [] h = refl
no-tables (m.Shape shape ∷ records) h = absurd h.0
no-tables (m.Opened by date ∷ records) h = no-tables records h.1

none-after : (by : ℕ) (date : ℤ) (records : List ManifestRecord) → IsAscending MayFollow (m.Opened by date ∷ records) → tables_of records ≡ []
none-after by date records up = no-tables records (only-dates by date records up.0)

pub tables-front : (records : List ManifestRecord) (n : ℕ) → IsAscending MayFollow records → n ≡ length (tables_of records)
    → take n records ≡ map m.Shape (tables_of records)
tables-front [] zero up same = refl
tables-front [] (suc n) up same = refl
tables-front (m.Shape shape ∷ records) zero up same = absurd (omega (arith, same))
tables-front (m.Shape shape ∷ records) (suc n) up same =
    ap (λ (l : List ManifestRecord). m.Shape shape ∷ l) (tables-front records n up.1 (omega (arith, same)))
tables-front (m.Opened by date ∷ records) zero up same = ap (map m.Shape) (sym (none-after by date records up))
tables-front (m.Opened by date ∷ records) (suc n) up same = absurd (omega (arith, same, ap (λ (l : List Shape). length l) (none-after by date records up)))

pub dates-back : (records : List ManifestRecord) (n : ℕ) → IsAscending MayFollow records → n ≡ length (tables_of records)
    → AllByRecursion IsOpened (drop n records)
dates-back [] zero up same = tt
dates-back [] (suc n) up same = tt
dates-back (m.Shape shape ∷ records) zero up same = absurd (omega (arith, same))
dates-back (m.Shape shape ∷ records) (suc n) up same = dates-back records n up.1 (omega (arith, same))
dates-back (m.Opened by date ∷ records) zero up same = (tt, only-dates by date records up.0)
dates-back (m.Opened by date ∷ records) (suc n) up same = absurd (omega (arith, same, ap (λ (l : List Shape). length l) (none-after by date records up)))

pub few-tables : (records : List ManifestRecord) → length (tables_of records) ≤ length records
few-tables [] = omega arith
few-tables (m.Shape shape ∷ records) = omega (arith, few-tables records)
few-tables (m.Opened by date ∷ records) = omega (arith, few-tables records)

-- ---- the table with an index

pub shape-at : (records : List ManifestRecord) (i : ℕ) (shape : Shape) → IsAscending MayFollow records → slice_get records i ≡ Some (m.Shape shape)
    → slice_get (tables_of records) i ≡ Some shape
shape-at [] i shape up at = absurd cc
shape-at (m.Shape x ∷ records) zero shape up at = cc
shape-at (m.Shape x ∷ records) (suc i) shape up at = shape-at records i shape up.1 at
shape-at (m.Opened by date ∷ records) zero shape up at = absurd cc
shape-at (m.Opened by date ∷ records) (suc i) shape up at = absurd (get-all IsOpened records i (m.Shape shape) (only-dates by date records up.0) at)

pub date-at : (records : List ManifestRecord) (i by : ℕ) (date : ℤ) → IsAscending MayFollow records → slice_get records i ≡ Some (m.Opened by date)
    → slice_get (tables_of records) i ≡ None
date-at [] i by date up at = absurd cc
date-at (m.Shape x ∷ records) zero by date up at = absurd cc
date-at (m.Shape x ∷ records) (suc i) by date up at = date-at records i by date up.1 at
date-at (m.Opened by' date' ∷ records) i by date up at = ap (λ (l : List Shape). slice_get l i) (none-after by' date' records up)

pub none-at : (records : List ManifestRecord) (i : ℕ) → IsAscending MayFollow records → slice_get records i ≡ None → slice_get (tables_of records) i ≡ None
none-at [] i up at = refl
none-at (m.Shape x ∷ records) zero up at = absurd cc
none-at (m.Shape x ∷ records) (suc i) up at = none-at records i up.1 at
none-at (m.Opened by date ∷ records) i up at = ap (λ (l : List Shape). slice_get l i) (none-after by date records up)

-- ---- the tables are those of a schema

pub tables-own : (records : List ManifestRecord) → AllByRecursion IsRecord records → AllByRecursion IsShape (tables_of records)
tables-own [] h = tt
tables-own (m.Shape shape ∷ records) h = (h.0, tables-own records h.1)
tables-own (m.Opened by date ∷ records) h = tables-own records h.1

names-after : (shape : Shape) (records : List ManifestRecord) → AllByRecursion (MayFollow (m.Shape shape)) records
    → AllByRecursion (λ other. by_name shape other ≡ Less) (tables_of records)
names-after shape [] h = tt
names-after shape (m.Shape other ∷ records) h = (h.0, names-after shape records h.1)
names-after shape (m.Opened by date ∷ records) h = names-after shape records h.1

pub tables-ascend : (records : List ManifestRecord) → IsAscending MayFollow records → AscendByName (tables_of records)
tables-ascend [] up = tt
tables-ascend (m.Shape shape ∷ records) up = (names-after shape records up.0, tables-ascend records up.1)
tables-ascend (m.Opened by date ∷ records) up = tables-ascend records up.1

-- ---- the last date

pub last-pushed : (records : List ManifestRecord) (by : ℕ) (date : ℤ) → last_date (records ++ m.Opened by date ∷ []) ≡ Some date
last-pushed [] by date = refl
last-pushed (m.Shape shape ∷ records) by date = last-pushed records by date
last-pushed (m.Opened by' date' ∷ records) by date = ap (λ (o : Option ℤ). Some (unwrap_or o date')) (last-pushed records by date)

pub last-none : (records : List ManifestRecord) (shape : Shape) → IsAscending MayFollow (records ++ m.Shape shape ∷ [])
    → last_date (records ++ m.Shape shape ∷ []) ≡ None
last-none [] shape up = refl
last-none (m.Shape other ∷ records) shape up = last-none records shape up.1
last-none (m.Opened by date ∷ records) shape up = absurd (no-shape by date records shape up.0) where
  no-shape : (by : ℕ) (date : ℤ) (records : List ManifestRecord) (shape : Shape)
      → AllByRecursion (MayFollow (m.Opened by date)) (records ++ m.Shape shape ∷ []) → ⊥
  no-shape by date [] shape h = h.0
  no-shape by date (x ∷ records) shape h = no-shape by date records shape h.1

-- the last record is that of the last date, or of a table
pub date-last : (records : List ManifestRecord) (by : ℕ) (date : ℤ) → slice_get records (length records - 1) ≡ Some (m.Opened by date)
    → last_date records ≡ Some date
date-last records by date at = ap last_date (last-split records (m.Opened by date) at) ∙ last-pushed (take (length records - 1) records) by date

pub shape-last : (records : List ManifestRecord) (shape : Shape) → IsAscending MayFollow records
    → slice_get records (length records - 1) ≡ Some (m.Shape shape) → last_date records ≡ None
shape-last records shape up at =
    let split = last-split records (m.Shape shape) at in
    ap last_date split ∙ last-none (take (length records - 1) records) shape (subst (IsAscending MayFollow) split up)

pub date-own : (records : List ManifestRecord) (n by : ℕ) (date : ℤ) → AllByRecursion IsRecord records
    → slice_get records n ≡ Some (m.Opened by date) → IsRecord (m.Opened by date)
date-own records n by date own at = get-all IsRecord records n (m.Opened by date) own at

pub last-tables : (shapes : List Shape) → last_date (map m.Shape shapes) ≡ None
last-tables [] = refl
last-tables (shape ∷ shapes) = last-tables shapes

pub undated : (records : List ManifestRecord) → last_date records ≡ None → records ≡ map m.Shape (tables_of records)
undated [] none = refl
undated (m.Shape shape ∷ records) none = ap (λ (l : List ManifestRecord). m.Shape shape ∷ l) (undated records none)
undated (m.Opened by date ∷ records) none = absurd cc

last-after : (shapes : List Shape) (records : List ManifestRecord) → last_date (map m.Shape shapes ++ records) ≡ last_date records
last-after [] records = refl
last-after (shape ∷ shapes) records = last-after shapes records

no-dates : (dates : List Dated) → last_date (map opening dates) ≡ None → dates ≡ []
no-dates [] none = refl
no-dates (d ∷ dates) none = absurd cc

pub empty-dates : (schema : List Shape) (dates : List Dated) → last_date (manifest_of schema dates) ≡ None → dates ≡ []
empty-dates schema dates none = no-dates dates (sym (last-after schema (map opening dates)) ∙ none)

before-or : (o : Option ℤ) (early date : ℤ) → IsBefore o date → early <ℤ date → unwrap_or o early <ℤ date
before-or None early date h less = less
before-or (Some later) early date h less = h

all-last : {X : Type 0} (P : X → Type 0) (xs : List X) (x : X) → AllByRecursion P (xs ++ x ∷ []) → P x
all-last P [] x h = h.0
all-last P (y ∷ ys) x h = all-last P ys x h.1

-- a date that comes next is later than each before it
pub later : (records : List ManifestRecord) (by : ℕ) (date : ℤ) → IsAscending MayFollow (records ++ m.Opened by date ∷ []) → IsBefore (last_date records) date
later [] by date up = tt
later (m.Shape shape ∷ records) by date up = later records by date up.1
later (m.Opened by' date' ∷ records) by date up =
    before-or (last_date records) date' date (later records by date up.1) (all-last (MayFollow (m.Opened by' date')) records (m.Opened by date) up.0)

-- ---- a date more

ascending-push : {X : Type 0} (R : X → X → Type 0) (xs : List X) (x : X) → IsAscending R xs → AllByRecursion (λ y. R y x) xs → IsAscending R (xs ++ x ∷ [])
ascending-push R [] x up below = (tt, tt)
ascending-push R (y ∷ ys) x up below = (all-append (R y) ys (x ∷ []) up.0 (below.0, tt), ascending-push R ys x up.1 below.1)

none-dropped : (P : ManifestRecord → Type 0) (n : ℕ) → AllByRecursion P (drop n [])
none-dropped P zero = tt
none-dropped P (suc n) = tt

dates-push : (n : ℕ) (records : List ManifestRecord) (by : ℕ) (date : ℤ) → AllByRecursion IsOpened (drop n records)
    → AllByRecursion IsOpened (drop n (records ++ m.Opened by date ∷ []))
dates-push zero records by date h = all-append IsOpened records (m.Opened by date ∷ []) h (tt, tt)
dates-push (suc n) [] by date h = none-dropped IsOpened n
dates-push (suc n) (x ∷ records) by date h = dates-push n records by date h

abbrev IsAfter : Option ℤ → ℤ → Type 0
IsAfter None date = Unit {0}
IsAfter (Some last) date = date <ℤ last

after-or : (o : Option ℤ) (early date : ℤ) → IsAfter o date → date <ℤ early → date <ℤ unwrap_or o early
after-or None early date h less = less
after-or (Some later) early date h less = h

last-follows : (by : ℕ) (date : ℤ) (records : List ManifestRecord) → AllByRecursion (MayFollow (m.Opened by date)) records → IsAfter (last_date records) date
last-follows by date [] h = tt
last-follows by date (m.Shape shape ∷ records) h = absurd h.0
last-follows by date (m.Opened by' date' ∷ records) h = after-or (last_date records) date' date (last-follows by date records h.1) h.0

both-before : (o : Option ℤ) (early date : ℤ) → IsAfter o early → unwrap_or o early <ℤ date → (early <ℤ date) × IsBefore o date
both-before None early date h less = (less, tt)
both-before (Some later) early date h less = (omega (arith, ints, h, less), less)

all-before : (records : List ManifestRecord) (by : ℕ) (date : ℤ) → IsAscending MayFollow records → IsBefore (last_date records) date
    → AllByRecursion (λ x. MayFollow x (m.Opened by date)) records
all-before [] by date up h = tt
all-before (m.Shape shape ∷ records) by date up h = (tt, all-before records by date up.1 h)
all-before (m.Opened by' date' ∷ records) by date up h =
    let both = both-before (last_date records) date' date (last-follows by' date' records up.0) h in
    (both.0, all-before records by date up.1 both.1)

-- a later date may be opened next
pub may-open : (records : List ManifestRecord) (by : ℕ) (date : ℤ) → IsManifest records → IsRecord (m.Opened by date)
    → IsBefore (last_date records) date → IsManifest (records ++ m.Opened by date ∷ [])
may-open records by date lawful own before = record {
  each = all-append IsRecord records (m.Opened by date ∷ []) lawful.each (own, tt);
  in_order = ascending-push MayFollow records (m.Opened by date) lawful.in_order (all-before records by date lawful.in_order before);
  few_tables = dates-push 64 records by date lawful.few_tables;
}
