-- The files of different dates, and that of the manifest, are different.
use Rattle.std.proofs.Common.{◌≡◌, ◌≢◌, ◌<◌, ℤ, pos, negsuc, ◌<ℤ◌, ◌≤ℤ◌, List, [], ◌∷◌, ◌++◌, map, sym, ap, ◌∙◌, subst, arith}
use Rattle.std.specs.List.{AllByRecursion}
use lib.Dec.{ltb→lt, leb→le}
use Rattle.std.proofs.lemmas.List.{append_assoc, map-append}
use Rattle.day_rows.specs.Sorted.{IsAscending}
use Rattle.day_rows.specs.declared.schema.Shape.{Shape}
use Rattle.partition_set.specs.Records.{IsManifest, IsRecord, MayFollow}
use Rattle.partition_set.specs.declared.record.ManifestRecord.{ManifestRecord}
use Rattle.partition_set.specs.declared.record.ManifestRecord.TheVariants as m
use Rattle.date_logs.specs.Restart.{log_file, Dated, opening, manifest_of}

pub all-back : {X : Type 0} (P : X → Type 0) (xs ys : List X) → AllByRecursion P (xs ++ ys) → AllByRecursion P ys
all-back P [] ys h = h
all-back P (x ∷ xs) ys h = all-back P xs ys h.1

ascending-back : {X : Type 0} (R : X → X → Type 0) (xs ys : List X) → IsAscending R (xs ++ ys) → IsAscending R ys
ascending-back R [] ys up = up
ascending-back R (x ∷ xs) ys up = ascending-back R xs ys up.1

pub log-rises : (a b : ℤ) → negsuc 106751 ≤ℤ a → a <ℤ b → log_file a < log_file b
log-rises (pos a) (pos b) low less = omega (arith, ltb→lt a b less.lt)
log-rises (negsuc a) (pos b) low less = omega arith
log-rises (negsuc a) (negsuc b) low less = omega (arith, ltb→lt b a less.lt, leb→le a 106751 low.le)
log-rises (pos a) (negsuc b) low less = absurd less.lt

pub log-some : (a : ℤ) → negsuc 106751 ≤ℤ a → 0 < log_file a
log-some (pos a) low = omega arith
log-some (negsuc a) low = omega (arith, leb→le a 106751 low.le)

pub log-apart : (a b : ℤ) → negsuc 106751 ≤ℤ a → a <ℤ b → log_file a ≢ log_file b
log-apart a b low less = λ same. omega (arith, log-rises a b low less, same)

pub log-not-zero : (a : ℤ) → negsuc 106751 ≤ℤ a → log_file a ≢ 0
log-not-zero a low = λ same. omega (arith, log-some a low, same)

dates-apart : (ended : List Dated) (last : Dated) → AllByRecursion IsRecord (map opening (ended ++ last ∷ [])) → IsAscending MayFollow (map opening (ended ++ last ∷ []))
    → AllByRecursion (λ d. log_file d.date ≢ log_file last.date) ended
dates-apart [] last own up = tt
dates-apart (d ∷ ended) last own up =
    let later : AllByRecursion (MayFollow (opening d)) (map opening ended ++ opening last ∷ []) = subst (AllByRecursion (MayFollow (opening d))) (map-append opening ended (last ∷ [])) up.0 in
    let less : d.date <ℤ last.date = (all-back (MayFollow (opening d)) (map opening ended) (opening last ∷ []) later).0 in
    (log-apart d.date last.date own.0.1 less, dates-apart ended last own.1 up.1)

dates-some : (dates : List Dated) → AllByRecursion IsRecord (map opening dates) → AllByRecursion (λ d. log_file d.date ≢ 0) dates
dates-some [] own = tt
dates-some (d ∷ dates) own = (log-not-zero d.date own.0.1, dates-some dates own.1)

module _ (schema : List Shape) (ended : List Dated) (last : Dated) (lawful : IsManifest (manifest_of schema (ended ++ last ∷ []))) where
  own : AllByRecursion IsRecord (map opening (ended ++ last ∷ []))
  own = all-back IsRecord (map m.Shape schema) (map opening (ended ++ last ∷ [])) lawful.each

  -- the logs of earlier dates aren't that of the last
  pub earlier-apart : AllByRecursion (λ d. log_file d.date ≢ log_file last.date) ended
  earlier-apart = dates-apart ended last own (ascending-back MayFollow (map m.Shape schema) (map opening (ended ++ last ∷ [])) lawful.in_order)

  pub none-zero : AllByRecursion (λ d. log_file d.date ≢ 0) (ended ++ last ∷ [])
  none-zero = dates-some (ended ++ last ∷ []) own

  pub last-record : IsRecord (opening last)
  last-record = (all-back IsRecord (map opening ended) (opening last ∷ []) (subst (AllByRecursion IsRecord) (map-append opening ended (last ∷ [])) own)).0

  pub last-not-zero : log_file last.date ≢ 0
  last-not-zero = log-not-zero last.date last-record.1

-- the manifest of one date more
pub manifest-grown : (schema : List Shape) (dates : List Dated) (next : Dated) → manifest_of schema dates ++ opening next ∷ [] ≡ manifest_of schema (dates ++ next ∷ [])
manifest-grown schema dates next =
    append_assoc (map m.Shape schema) (map opening dates) (opening next ∷ []) ∙ ap (λ l. map m.Shape schema ++ l) (sym (map-append opening dates (next ∷ [])))

-- the last record of a manifest is allowed by itself
pub own-last : (records : List ManifestRecord) (next : ManifestRecord) → IsManifest (records ++ next ∷ []) → IsRecord next
own-last records next is = (all-back IsRecord records (next ∷ []) is.each).0
