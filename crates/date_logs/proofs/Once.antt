-- Files restart as one list of entries at most.
use Rattle.std.proofs.Common.{◌≡◌, ℕ, ℤ, List, [], ◌∷◌, ◌++◌, map, drop, refl, sym, ap, ap₂, ◌∙◌, subst}
use Rattle.std.specs.List.{AllByRecursion}
use Rattle.std.specs.Int.{w32, w64, to_le_bytes, cast_unsigned}
use Rattle.std.proofs.lemmas.List.{append_cancel_left, map-append}
use Rattle.gated_journal.specs.Laws.{ReadsOnce}
use Rattle.day_rows.specs.Schema.{IsSchema}
use Rattle.day_rows.specs.declared.entry.Entry.{Entry}
use Rattle.day_rows.specs.declared.schema.Shape.{Shape}
use Rattle.tick_log.specs.Laws.{OneReplay}
use Rattle.tick_log.specs.Replay.{AreChunks}
use Rattle.partition_set.specs.Records.{payload_of, payloads_of, IsRecord}
use Rattle.partition_set.specs.declared.record.ManifestRecord.TheVariants as m
use Rattle.partition_set.proofs.EncodingLemmas.{opened-by, opened-date}
use Rattle.date_logs.specs.Laws.{RestartsOnce}
use Rattle.date_logs.specs.Restart.{Dated, opening, manifest_of, log_file, entries_of, LogHolds}
use Rattle.date_logs.proofs.Files.{all-back}

-- a log holds one list of updates
logs-once : ReadsOnce → OneReplay → (schema : List Shape) → IsSchema schema → (file : List ℕ) (us vs : List Entry) → LogHolds schema file us → LogHolds schema file vs → us ≡ vs
logs-once once one schema is file us vs h i =
    one schema 0 h.records us vs is h.chunks (subst (λ (l : List (List ℕ)). AreChunks schema 0 l vs) (once file i.records h.records i.reads h.reads) i.chunks)

abbrev rest_of : ℕ → ℤ → List ℕ
rest_of by date = to_le_bytes w64 by ++ to_le_bytes w32 (cast_unsigned w32 date)

dates-once : ReadsOnce → OneReplay → (schema : List Shape) → IsSchema schema → (image : ℕ → List ℕ) (ds es : List Dated) → AllByRecursion IsRecord (map opening ds) → AllByRecursion IsRecord (map opening es)
    → payloads_of (map opening ds) ≡ payloads_of (map opening es) → AllByRecursion (λ d. LogHolds schema (image (log_file d.date)) d.updates) ds
    → AllByRecursion (λ d. LogHolds schema (image (log_file d.date)) d.updates) es → ds ≡ es
dates-once once one schema is image [] [] own own' same logs logs' = refl
dates-once once one schema is image [] (e ∷ es) own own' same logs logs' = cc
dates-once once one schema is image (d ∷ ds) [] own own' same logs logs' = cc
dates-once once one schema is image (d ∷ ds) (e ∷ es) own own' same logs logs' =
    let heads : payload_of (opening d) ≡ payload_of (opening e) = cc in
    let tails : payloads_of (map opening ds) ≡ payloads_of (map opening es) = cc in
    let rest : rest_of d.by d.date ≡ rest_of e.by e.date = ap (drop 1) heads in
    let by : d.by ≡ e.by = opened-by (rest_of d.by d.date) d.by d.date own.0 refl ∙ sym (opened-by (rest_of d.by d.date) e.by e.date own'.0 rest) in
    let date : d.date ≡ e.date = opened-date (rest_of d.by d.date) d.by d.date own.0 refl ∙ sym (opened-date (rest_of d.by d.date) e.by e.date own'.0 rest) in
    let there : LogHolds schema (image (log_file d.date)) e.updates = subst (λ (t : ℤ). LogHolds schema (image (log_file t)) e.updates) (sym date) logs'.0 in
    let updates : d.updates ≡ e.updates = logs-once once one schema is (image (log_file d.date)) d.updates e.updates logs.0 there in
    let first : d ≡ e = λ i. record { by = by i; date = date i; updates = updates i } in
    ap₂ (λ (x : Dated) (xs : List Dated). x ∷ xs) first (dates-once once one schema is image ds es own.1 own'.1 tails logs.1 logs'.1)

pub restarts-once : ReadsOnce → OneReplay → RestartsOnce
restarts-once once one schema first image these those is r q =
    let same : payloads_of (manifest_of schema r.dates) ≡ payloads_of (manifest_of schema q.dates) = once (image 0) (payloads_of (manifest_of schema r.dates)) (payloads_of (manifest_of schema q.dates)) r.manifest q.manifest in
    let split = λ (ds : List Dated). map-append payload_of (map m.Shape schema) (map opening ds) in
    let dates : payloads_of (map opening r.dates) ≡ payloads_of (map opening q.dates) =
    append_cancel_left (payloads_of (map m.Shape schema)) (payloads_of (map opening r.dates)) (payloads_of (map opening q.dates)) (sym (split r.dates) ∙ same ∙ split q.dates) in
    let own = λ (ds : List Dated) (h : AllByRecursion IsRecord (manifest_of schema ds)). all-back IsRecord (map m.Shape schema) (map opening ds) h in
    let ds : r.dates ≡ q.dates = dates-once once one schema is image r.dates q.dates (own r.dates r.are.lawful.each) (own q.dates q.are.lawful.each) dates r.logs q.logs in
    r.are.spelled ∙ ap entries_of ds ∙ sym q.are.spelled
