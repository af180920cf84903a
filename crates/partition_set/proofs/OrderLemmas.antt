-- Records of a manifest, one after another.
use Rattle.std.proofs.Common.{◌≡◌, ◌↔◌, true, false, leb, ℕ, zero, suc, ◌<◌, ◌≤◌, ℤ, pos, negsuc, ◌<ℤ◌, ◌≤ℤ◌, ◌+◌, ◌-◌, List, [], ◌∷◌, ◌++◌, length, drop, take, map, slice_get, Some, refl, sym, ap, ◌∙◌, subst, arith}
use Rattle.std.specs.List.{AllByRecursion}
use Rattle.std.specs.Cmp.{IsTotalOrder}
use Rattle.std.specs.Int.Signed.{<ℤ-≤ℤ_trans}
use lib.Dec.{le→leb, ltb→lt}
use native.Mathlib.Nat.{le_of_lt}
use Rattle.std.proofs.lemmas.Cmp.{nat_list_cmp_total, on_total}
use Rattle.std.proofs.lemmas.Bool.Decides.{leb_tells}
use Rattle.std.proofs.lemmas.List.{length-append}
use Rattle.std.proofs.Math.Logic.{⊎_elim}
use Rattle.std.specs.declared.cmp.Ordering.TheVariants.{Less}
use Rattle.std.proofs.lemmas.List.{length-map, map-append, take-append-drop}
use Rattle.day_rows.specs.Schema.{by_name, IsSchema, IsShape}
use Rattle.day_rows.specs.Sorted.{IsAscending}
use Rattle.day_rows.specs.declared.schema.Shape.{Shape}
use Rattle.day_rows.proofs.DayLemmas.{all-append}
use Rattle.partition_set.specs.declared.record.ManifestRecord.{ManifestRecord}
use Rattle.partition_set.specs.declared.record.ManifestRecord.TheVariants as m
use Rattle.partition_set.proofs.TableLemmas.{take-got}
use Rattle.partition_set.specs.Records.{IsManifest, IsRecord, MayFollow, IsOpened, HasRoom}

pub all-front : {X : Type 0} (P : X → Type 0) (xs ys : List X) → AllByRecursion P (xs ++ ys) → AllByRecursion P xs
all-front P [] ys h = tt
all-front P (x ∷ xs) ys h = (h.0, all-front P xs ys h.1)

all-back : {X : Type 0} (P : X → Type 0) (xs ys : List X) → AllByRecursion P (xs ++ ys) → AllByRecursion P ys
all-back P [] ys h = h
all-back P (x ∷ xs) ys h = all-back P xs ys h.1

ascending-push : {X : Type 0} (R : X → X → Type 0) (xs : List X) (x : X) → IsAscending R xs → AllByRecursion (λ y. R y x) xs → IsAscending R (xs ++ x ∷ [])
ascending-push R [] x up below = (tt, tt)
ascending-push R (y ∷ ys) x up below = (all-append (R y) ys (x ∷ []) up.0 (below.0, tt), ascending-push R ys x up.1 below.1)

pub ascending-front : {X : Type 0} (R : X → X → Type 0) (xs ys : List X) → IsAscending R (xs ++ ys) → IsAscending R xs
ascending-front R [] ys up = tt
ascending-front R (x ∷ xs) ys up = (all-front (R x) xs ys up.0, ascending-front R xs ys up.1)

-- the last one of the front stands before the one after it
ascending-last : {X : Type 0} (R : X → X → Type 0) (xs : List X) (l x : X) → IsAscending R ((xs ++ l ∷ []) ++ x ∷ []) → R l x
ascending-last R [] l x up = up.0.0
ascending-last R (y ∷ ys) l x up = ascending-last R ys l x up.1

by_name_total : IsTotalOrder by_name
by_name_total = on_total (λ (shape : Shape). shape.table) nat_list_cmp_total

at_most : (a b : ℤ) → a <ℤ b → a ≤ℤ b
at_most (pos a) (pos b) h = record { le = le→leb a b (le_of_lt (ltb→lt a b h.lt)) }
at_most (negsuc a) (pos b) h = record { le = tt }
at_most (negsuc a) (negsuc b) h = record { le = le→leb b a (le_of_lt (ltb→lt b a h.lt)) }
at_most (pos a) (negsuc b) h = absurd h.lt

below_twice : (a b c : ℤ) → a <ℤ b → b <ℤ c → a <ℤ c
below_twice a b c one two = <ℤ-≤ℤ_trans one (at_most b c two)

pub no : {P : Type 0} → false ≡ true → P
no e = absurd cc

follows-twice : (a b c : ManifestRecord) → MayFollow a b → MayFollow b c → MayFollow a c
follows-twice (m.Shape a) (m.Shape b) (m.Shape c) ab bc = by_name_total.trans a b c ab bc
follows-twice (m.Shape a) b (m.Opened by date) ab bc = tt
follows-twice (m.Opened by date) (m.Opened by' date') (m.Opened by'' date'') ab bc = below_twice date date' date'' ab bc
follows-twice (m.Opened by date) (m.Opened by' date') (m.Shape c) ab bc = bc
follows-twice (m.Opened by date) (m.Shape b) c ab bc = absurd ab
follows-twice (m.Shape a) (m.Opened by date) (m.Shape c) ab bc = absurd bc

-- what may follow the last may follow each one before it
all-before : (xs : List ManifestRecord) (l x : ManifestRecord) → IsAscending MayFollow (xs ++ l ∷ []) → MayFollow l x → AllByRecursion (λ y. MayFollow y x) (xs ++ l ∷ [])
all-before [] l x up last = (last, tt)
all-before (y ∷ ys) l x up last = (follows-twice y l x (all-back (MayFollow y) ys (l ∷ []) up.0).0 last, all-before ys l x up.1 last)

drop-push : {X : Type 0} (n : ℕ) (xs : List X) (x : X) → n ≤ length xs → drop n (xs ++ x ∷ []) ≡ drop n xs ++ x ∷ []
drop-push zero xs x short = refl
drop-push (suc n) [] x short = absurd (omega (arith, short))
drop-push (suc n) (y ∷ ys) x short = drop-push n ys x (omega (arith, short))

drop-all : {X : Type 0} (n : ℕ) (xs : List X) → length xs ≤ n → drop n xs ≡ []
drop-all zero [] short = refl
drop-all zero (x ∷ xs) short = absurd (omega (arith, short))
drop-all (suc n) [] short = refl
drop-all (suc n) (x ∷ xs) short = drop-all n xs (omega (arith, short))

-- a record that is a table has fewer than 64 before it
room_left : (records : List ManifestRecord) (next : ManifestRecord) → AllByRecursion IsOpened (drop 64 (records ++ next ∷ [])) → HasRoom records next
room_left records (m.Opened by date) few = tt
room_left records (m.Shape shape) few =
    ⊎_elim
    (λ (long : (leb 64 (length records) ≡ true) × (64 ≤ length records)). absurd (all-back IsOpened (drop 64 records) (m.Shape shape ∷ []) (subst (AllByRecursion IsOpened) (drop-push 64 records (m.Shape shape) long.1) few)).0)
    (λ (short : (leb 64 (length records) ≡ false) × (length records < 64)). short.1)
    (leb_tells 64 (length records))

opened : (records : List ManifestRecord) (next : ManifestRecord) → HasRoom records next → 64 ≤ length records → IsOpened next
opened records (m.Opened by date) room long = tt
opened records (m.Shape shape) room long = absurd (omega (arith, room, long))

few_more : (records : List ManifestRecord) (next : ManifestRecord) → AllByRecursion IsOpened (drop 64 records) → HasRoom records next → AllByRecursion IsOpened (drop 64 (records ++ next ∷ []))
few_more records next few room =
    ⊎_elim
    (λ (long : (leb 64 (length records) ≡ true) × (64 ≤ length records)).
    subst (AllByRecursion IsOpened) (sym (drop-push 64 records next long.1)) (all-append IsOpened (drop 64 records) (next ∷ []) few (opened records next room long.1, tt)))
    (λ (short : (leb 64 (length records) ≡ false) × (length records < 64)).
    subst (AllByRecursion IsOpened) (sym (drop-all 64 (records ++ next ∷ []) (omega (arith, length-append records (next ∷ []), short.1)))) tt)
    (leb_tells 64 (length records))

-- one record more
pub may_come-is : (records rest : List ManifestRecord) (last next : ManifestRecord) → records ≡ rest ++ last ∷ [] → IsManifest records → IsRecord next
    → ((HasRoom records next × MayFollow last next) → IsManifest (records ++ next ∷ [])) × (IsManifest (records ++ next ∷ []) → HasRoom records next × MayFollow last next)
may_come-is records rest last next split is own = (there, back) where
  up : IsAscending MayFollow (rest ++ last ∷ [])
  up = subst (IsAscending MayFollow) split is.in_order

  there : HasRoom records next × MayFollow last next → IsManifest (records ++ next ∷ [])
  there h =
      record {
        each = all-append IsRecord records (next ∷ []) is.each (own, tt);
        in_order = ascending-push MayFollow records next is.in_order (subst (AllByRecursion (λ y. MayFollow y next)) (sym split) (all-before rest last next up h.1));
        few_tables = few_more records next is.few_tables h.0;
      }

  back : IsManifest (records ++ next ∷ []) → HasRoom records next × MayFollow last next
  back m = (room_left records next m.few_tables, ascending-last MayFollow rest last next (subst (λ l. IsAscending MayFollow (l ++ next ∷ [])) split m.in_order))

-- the first record
pub first-is : (next : ManifestRecord) → IsRecord next → IsManifest (next ∷ [])
first-is next own = record { each = (own, tt); in_order = (tt, tt); few_tables = tt }

-- the last record is allowed by itself
pub last-own : (records : List ManifestRecord) (next : ManifestRecord) → IsManifest (records ++ next ∷ []) → IsRecord next
last-own records next is = (all-back IsRecord records (next ∷ []) is.each).0

-- ---- the tables of a schema

front-schema : (xs ys : List Shape) → IsSchema (xs ++ ys) → IsSchema xs
front-schema xs ys is = record { few = omega (arith, is.few, length-append xs ys); each = all-front IsShape xs ys is.each; ascends = ascending-front (λ a b. by_name a b ≡ Less) xs ys is.ascends }

tables-own : (shapes : List Shape) → AllByRecursion IsShape shapes → AllByRecursion IsRecord (map m.Shape shapes)
tables-own [] h = tt
tables-own (x ∷ xs) h = (h.0, tables-own xs h.1)

tables-after : (x : Shape) (shapes : List Shape) → AllByRecursion (λ y. by_name x y ≡ Less) shapes → AllByRecursion (MayFollow (m.Shape x)) (map m.Shape shapes)
tables-after x [] h = tt
tables-after x (y ∷ ys) h = (h.0, tables-after x ys h.1)

tables-ascend : (shapes : List Shape) → IsAscending (λ a b. by_name a b ≡ Less) shapes → IsAscending MayFollow (map m.Shape shapes)
tables-ascend [] h = tt
tables-ascend (x ∷ xs) h = (tables-after x xs h.0, tables-ascend xs h.1)

tables-manifest : (shapes : List Shape) → IsSchema shapes → IsManifest (map m.Shape shapes)
tables-manifest shapes is =
    record {
      each = tables-own shapes is.each;
      in_order = tables-ascend shapes is.ascends;
      few_tables = subst (AllByRecursion IsOpened) (sym (drop-all 64 (map m.Shape shapes) (omega (arith, length-map shapes m.Shape, is.few)))) tt;
    }

-- the next table of a schema, after those before it
pub next-table : (shapes : List Shape) (i : ℕ) (shape : Shape) → IsSchema shapes → slice_get shapes i ≡ Some shape → IsManifest (map m.Shape (take i shapes) ++ m.Shape shape ∷ [])
next-table shapes i shape is at =
    let grown : map m.Shape (take (suc i) shapes) ≡ map m.Shape (take i shapes) ++ m.Shape shape ∷ [] = ap (map m.Shape) (take-got shapes i shape at) ∙ map-append m.Shape (take i shapes) (shape ∷ []) in
    subst IsManifest grown (tables-manifest (take (suc i) shapes) (front-schema (take (suc i) shapes) (drop (suc i) shapes) (subst IsSchema (sym (take-append-drop (suc i) shapes)) is)))

pub tables-grown : (shapes : List Shape) (i : ℕ) (shape : Shape) → slice_get shapes i ≡ Some shape → map m.Shape (take i shapes) ++ m.Shape shape ∷ [] ≡ map m.Shape (take (i + 1) shapes)
tables-grown shapes i shape at =
    let next : suc i ≡ i + 1 = omega arith in
    sym (map-append m.Shape (take i shapes) (shape ∷ [])) ∙ ap (map m.Shape) (sym (take-got shapes i shape at)) ∙ ap (λ n. map m.Shape (take n shapes)) next
