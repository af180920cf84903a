-- Which date a manifest may open next.
use Rattle.std.proofs.Common.{◌≡◌, ℕ, ℤ, ◌<◌, ◌-◌, ◌<ℤ◌, ◌≤ℤ◌, negsuc, pos, suc, zero, ◌^◌, List, [], ◌∷◌, ◌++◌, drop, map, sym, subst}
use Rattle.std.specs.List.{AllByRecursion}
use Rattle.std.specs.Cmp.{int_chain}
use Rattle.day_rows.proofs.DayLemmas.{all-append}
use Rattle.day_rows.specs.Sorted.{IsAscending}
use Rattle.day_rows.specs.declared.schema.Shape.{Shape}
use Rattle.partition_set.specs.Records.{IsManifest, IsRecord, IsOpened, MayFollow}
use Rattle.partition_set.specs.declared.record.ManifestRecord.{ManifestRecord}
use Rattle.partition_set.specs.declared.record.ManifestRecord.TheVariants as m
use Rattle.plant_core.specs.Plant.{IsOpenDate}

ascending-push : {X : Type 0} (R : X → X → Type 0) (xs : List X) (y : X) → IsAscending R xs → AllByRecursion (λ x. R x y) xs → IsAscending R (xs ++ y ∷ [])
ascending-push R [] y up all = (tt, tt)
ascending-push R (x ∷ xs) y up all = (all-append (R x) xs (y ∷ []) up.0 (all.0, tt), ascending-push R xs y up.1 all.1)

-- the dates of these records are before this one
before : (b : ℕ) (d : ℤ) (by : ℕ) (date : ℤ) → d <ℤ date → (x : ManifestRecord) → MayFollow x (m.Opened b d) → MayFollow x (m.Opened by date)
before b d by date less (m.Shape shape) h = tt
before b d by date less (m.Opened b' d') h = int_chain d' d date h less

all-back : {X : Type 0} (P : X → Type 0) (xs ys : List X) → AllByRecursion P (xs ++ ys) → AllByRecursion P ys
all-back P [] ys h = h
all-back P (x ∷ xs) ys h = all-back P xs ys h.1

all-before : (front : List ManifestRecord) (b : ℕ) (d : ℤ) (by : ℕ) (date : ℤ) → d <ℤ date → IsAscending MayFollow (front ++ m.Opened b d ∷ []) → AllByRecursion (λ x. MayFollow x (m.Opened by date)) (front ++ m.Opened b d ∷ [])
all-before [] b d by date less up = (less, tt)
all-before (x ∷ front) b d by date less up =
    (before b d by date less x (all-back (MayFollow x) front (m.Opened b d ∷ []) up.0).0, all-before front b d by date less up.1)

opened-drop : (k : ℕ) (by : ℕ) (date : ℤ) → AllByRecursion IsOpened (drop k (m.Opened by date ∷ []))
opened-drop zero by date = (tt, tt)
opened-drop (suc zero) by date = tt
opened-drop (suc (suc k)) by date = tt

few-push : (k : ℕ) (records : List ManifestRecord) (by : ℕ) (date : ℤ) → AllByRecursion IsOpened (drop k records) → AllByRecursion IsOpened (drop k (records ++ m.Opened by date ∷ []))
few-push k [] by date few = opened-drop k by date
few-push zero (x ∷ records) by date few = all-append IsOpened (x ∷ records) (m.Opened by date ∷ []) few (tt, tt)
few-push (suc k) (x ∷ records) by date few = few-push k records by date few

record-push : (records : List ManifestRecord) (by : ℕ) (date : ℤ) → IsManifest records → IsRecord (m.Opened by date) → AllByRecursion (λ x. MayFollow x (m.Opened by date)) records → IsManifest (records ++ m.Opened by date ∷ [])
record-push records by date is own all = record {
  each = all-append IsRecord records (m.Opened by date ∷ []) is.each (own, tt);
  in_order = ascending-push MayFollow records (m.Opened by date) is.in_order all;
  few_tables = few-push 64 records by date is.few_tables;
}

-- a pass with a number may open a later date
pub later-opens : (records : List ManifestRecord) (latest date : ℤ) (by : ℕ) → IsManifest records → IsOpenDate records latest → latest <ℤ date → by < 2 ^ 64 - 1 → negsuc 106751 ≤ℤ date → date ≤ℤ pos 106751
    → IsManifest (records ++ m.Opened by date ∷ [])
later-opens records latest date by is last less few from to =
    record-push records by date is (few, from, to)
    (subst (AllByRecursion (λ x. MayFollow x (m.Opened by date))) (sym last.2)
    (all-before last.0 last.1 latest by date less (subst (IsAscending MayFollow) last.2 is.in_order)))

-- the last record is allowed by itself
pub open-lawful : (records : List ManifestRecord) (latest : ℤ) → IsManifest records → (last : IsOpenDate records latest) → IsRecord (m.Opened last.1 latest)
open-lawful records latest is last = (all-back IsRecord last.0 (m.Opened last.1 latest ∷ []) (subst (AllByRecursion IsRecord) last.2 is.each)).0

all-tables : (shapes : List Shape) (by : ℕ) (date : ℤ) → AllByRecursion (λ x. MayFollow x (m.Opened by date)) (map m.Shape shapes)
all-tables [] by date = tt
all-tables (shape ∷ shapes) by date = (tt, all-tables shapes by date)

-- a pass with a number may open the first date
pub first-opens : (records : List ManifestRecord) (shapes : List Shape) (by : ℕ) (date : ℤ) → IsManifest records → records ≡ map m.Shape shapes → by < 2 ^ 64 - 1 → negsuc 106751 ≤ℤ date → date ≤ℤ pos 106751
    → IsManifest (records ++ m.Opened by date ∷ [])
first-opens records shapes by date is tables few from to =
    record-push records by date is (few, from, to) (subst (AllByRecursion (λ x. MayFollow x (m.Opened by date))) (sym tables) (all-tables shapes by date))
