-- What a restart finds in the images of files.
use Rattle.std.proofs.Common.{◌≡◌, ◌⊎◌, inl, inr, ⊎_elim, ℕ, ◌+◌, ℤ, List, [], ◌∷◌, ◌++◌, map, Option, Some, None, refl, sym, ap, ◌∙◌, subst, arith}
use Rattle.std.specs.List.{AllByRecursion}
use Rattle.std.proofs.lemmas.List.{map-append}
use Rattle.outside_api.specs.Disk.{FileState}
use Rattle.gated_journal.specs.Format.{Reads}
use Rattle.gated_journal.specs.Journal.{MayRead}
use Rattle.day_rows.proofs.DayLemmas.{all-append}
use Rattle.day_rows.specs.Day.{total_rows}
use Rattle.day_rows.specs.declared.entry.Entry.{Entry}
use Rattle.day_rows.specs.declared.entry.Entry.TheVariants as e
use Rattle.day_rows.specs.declared.schema.Shape.{Shape}
use Rattle.tick_log.specs.Chunk.{IsChunk}
use Rattle.tick_log.specs.Replay.{AreChunks}
use Rattle.tick_log.proofs.Replays.{chunks_more}
use Rattle.partition_set.specs.Records.{payload_of, payloads_of, IsManifest}
use Rattle.partition_set.specs.declared.record.ManifestRecord.TheVariants as m
use Rattle.date_logs.specs.Restart.{IsFound, IsFoundOf, log_file, Dated, opening, manifest_of, BeginsAt, AreDates, LogHolds, Restarts, MayRestart}
use Rattle.date_logs.specs.Stores.{late_record, IsLateChunk, OpensEmpty, IsLogOf}
use Rattle.date_logs.proofs.Files.{manifest-grown}
use Rattle.date_logs.proofs.Dates.{entries-next, entries-more, more}
use Rattle.date_logs.proofs.Moments.{Files}

begins-any : (first : ℤ) (ended : List Dated) (last other : Dated) → other.date ≡ last.date → BeginsAt first (ended ++ last ∷ []) → BeginsAt first (ended ++ other ∷ [])
begins-any first [] last other same begins = same ∙ begins
begins-any first (d ∷ ended) last other same begins = begins

begins-more : (first : ℤ) (ended : List Dated) (last next : Dated) → BeginsAt first (ended ++ last ∷ []) → BeginsAt first ((ended ++ last ∷ []) ++ next ∷ [])
begins-more first [] last next begins = begins
begins-more first (d ∷ ended) last next begins = begins

pub manifest-more : (schema : List Shape) (ended : List Dated) (last : Dated) (entry : Entry) → manifest_of schema (ended ++ last ∷ []) ≡ manifest_of schema (ended ++ more last entry ∷ [])
manifest-more schema ended last entry = ap (λ l. map m.Shape schema ++ l) (map-append opening ended (last ∷ []) ∙ sym (map-append opening ended (more last entry ∷ [])))

abbrev pub opened : ℕ → ℤ → Dated
opened by date = record { by = by; date = date; updates = [] }

module _ (schema : List Shape) (first : ℤ) (entries : List Entry) (ended : List Dated) (last : Dated) (are : AreDates schema first (ended ++ last ∷ []) entries) where
  -- the dates with an update more
  pub are-more : (entry : Entry) → AreDates schema first (ended ++ more last entry ∷ []) (entries ++ entry ∷ [])
  are-more entry = record {
    lawful = subst IsManifest (manifest-more schema ended last entry) are.lawful;
    begins = begins-any first ended last (more last entry) refl are.begins;
    spelled = ap (λ l. l ++ entry ∷ []) are.spelled ∙ sym (entries-more ended last entry);
  }

  -- the dates with a date more
  pub are-next : (by : ℕ) (date : ℤ) → IsManifest (manifest_of schema (ended ++ last ∷ []) ++ m.Opened by date ∷ [])
      → AreDates schema first ((ended ++ last ∷ []) ++ opened by date ∷ []) (entries ++ e.Roll by date ∷ [])
  are-next by date lawful = record {
    lawful = subst IsManifest (manifest-grown schema (ended ++ last ∷ []) (opened by date)) lawful;
    begins = begins-more first ended last (opened by date) are.begins;
    spelled = ap (λ l. l ++ e.Roll by date ∷ []) are.spelled ∙ sym (entries-next ended last (opened by date));
  }

-- a log reads as these updates, or as these and the late one
abbrev pub MayHold : List Shape → List Entry → Option Entry → List ℕ → Type 0
MayHold schema updates None image = LogHolds schema image updates
MayHold schema updates (Some (e.Upd by table columns)) image = LogHolds schema image updates ⊎ LogHolds schema image (updates ++ e.Upd by table columns ∷ [])
MayHold schema updates (Some (e.Roll by date)) image = LogHolds schema image updates
MayHold schema updates (Some (e.Fault by)) image = LogHolds schema image updates

pub may-hold : (schema : List Shape) (updates : List Entry) (late : Option Entry) (payloads : List (List ℕ)) (chunk : Option (List ℕ)) (image : List ℕ) → AreChunks schema 0 payloads updates
    → IsLateChunk schema (total_rows updates) late chunk → MayRead payloads chunk image → MayHold schema updates late image
may-hold schema updates None payloads chunk image are is reads =
    record { records = payloads; reads = subst (λ c. MayRead payloads c image) is reads; chunks = are }
may-hold schema updates (Some (e.Upd by table columns)) payloads chunk image are is reads =
    let zero : 0 + total_rows updates ≡ total_rows updates = omega arith in
    let either : MayRead payloads (Some is.0) image = subst (λ c. MayRead payloads c image) is.1 reads in
    ⊎_elim
    (λ (old : Reads image payloads). inl (record { records = payloads; reads = old; chunks = are }))
    (λ (new : Reads image (payloads ++ is.0 ∷ [])). inr (record { records = payloads ++ is.0 ∷ []; reads = new; chunks = chunks_more schema 0 payloads updates is.0 (e.Upd by table columns) are (subst (λ n. IsChunk schema n is.0 (e.Upd by table columns)) (sym zero) is.2) }))
    either
may-hold schema updates (Some (e.Roll by date)) payloads chunk image are is reads =
    record { records = payloads; reads = subst (λ c. MayRead payloads c image) is reads; chunks = are }
may-hold schema updates (Some (e.Fault by)) payloads chunk image are is reads = absurd is

map-all : {X : Type 0} (P Q : X → Type 0) (xs : List X) → ((x : X) → P x → Q x) → AllByRecursion P xs → AllByRecursion Q xs
map-all P Q [] f h = tt
map-all P Q (x ∷ xs) f h = (f x h.0, map-all P Q xs f h.1)

-- what is found of the files of some dates, the manifest and the open log, where this says what may be found
pub record Found (Is : FileState → List ℕ → Type 0) (schema : List Shape) (ended : List Dated) (last : Dated) (late : Option Entry) (files : Files) : Type 0 where
  pub logs : AllByRecursion (λ d. IsLogOf schema (files (log_file d.date)) d.updates) ended
  pub manifest : (image : List ℕ) → Is (files 0) image → MayRead (payloads_of (manifest_of schema (ended ++ last ∷ []))) (late_record late) image
  pub log : (image : List ℕ) → Is (files (log_file last.date)) image → MayHold schema last.updates late image
  pub opens : OpensEmpty files (manifest_of schema (ended ++ last ∷ [])) late

module _ (schema : List Shape) (first : ℤ) (entries : List Entry) (ended : List Dated) (last : Dated) (are : AreDates schema first (ended ++ last ∷ []) entries) (files : Files) (image : ℕ → List ℕ) (is : IsFoundOf files image)
    (logs : AllByRecursion (λ d. IsLogOf schema (files (log_file d.date)) d.updates) ended) where
  ended_hold : AllByRecursion (λ d. LogHolds schema (image (log_file d.date)) d.updates) ended
  ended_hold = map-all (λ (d : Dated). IsLogOf schema (files (log_file d.date)) d.updates) (λ (d : Dated). LogHolds schema (image (log_file d.date)) d.updates) ended
      (λ d holds. holds (image (log_file d.date)) (is (log_file d.date))) logs

  as-before : Reads (image 0) (payloads_of (manifest_of schema (ended ++ last ∷ []))) → LogHolds schema (image (log_file last.date)) last.updates → Restarts schema first image entries
  as-before manifest log = record {
    dates = ended ++ last ∷ [];
    are = are;
    manifest = manifest;
    logs = all-append (λ (d : Dated). LogHolds schema (image (log_file d.date)) d.updates) ended (last ∷ []) ended_hold (log, tt);
  }

  with-update : (entry : Entry) → Reads (image 0) (payloads_of (manifest_of schema (ended ++ last ∷ []))) → LogHolds schema (image (log_file last.date)) (last.updates ++ entry ∷ [])
      → Restarts schema first image (entries ++ entry ∷ [])
  with-update entry manifest log = record {
    dates = ended ++ more last entry ∷ [];
    are = are-more schema first entries ended last are entry;
    manifest = subst (λ l. Reads (image 0) (payloads_of l)) (manifest-more schema ended last entry) manifest;
    logs = all-append (λ (d : Dated). LogHolds schema (image (log_file d.date)) d.updates) ended (more last entry ∷ []) ended_hold (log, tt);
  }

  with-roll : (by : ℕ) (date : ℤ) → IsManifest (manifest_of schema (ended ++ last ∷ []) ++ m.Opened by date ∷ [])
      → Reads (image 0) (payloads_of (manifest_of schema (ended ++ last ∷ [])) ++ payload_of (m.Opened by date) ∷ []) → LogHolds schema (image (log_file last.date)) last.updates → Reads (image (log_file date)) []
      → Restarts schema first image (entries ++ e.Roll by date ∷ [])
  with-roll by date lawful manifest log empty =
      let grown : payloads_of (manifest_of schema (ended ++ last ∷ [])) ++ payload_of (m.Opened by date) ∷ [] ≡ payloads_of (manifest_of schema ((ended ++ last ∷ []) ++ opened by date ∷ [])) =
      sym (map-append payload_of (manifest_of schema (ended ++ last ∷ [])) (m.Opened by date ∷ [])) ∙ ap payloads_of (manifest-grown schema (ended ++ last ∷ []) (opened by date)) in
      record {
        dates = (ended ++ last ∷ []) ++ opened by date ∷ [];
        are = are-next schema first entries ended last are by date lawful;
        manifest = subst (λ l. Reads (image 0) l) grown manifest;
        logs = all-append (λ (d : Dated). LogHolds schema (image (log_file d.date)) d.updates) (ended ++ last ∷ []) (opened by date ∷ [])
            (all-append (λ (d : Dated). LogHolds schema (image (log_file d.date)) d.updates) ended (last ∷ []) ended_hold (log, tt))
            (record { records = []; reads = empty; chunks = tt }, tt);
      }

-- whatever is found restarts as the entries, or as these and the late one
pub found-restarts : (Is : FileState → List ℕ → Type 0) → ((file : FileState) (image : List ℕ) → Is file image → IsFound file image) → (schema : List Shape) (first : ℤ) (entries : List Entry) (ended : List Dated) (last : Dated) (late : Option Entry) (files : Files) → AreDates schema first (ended ++ last ∷ []) entries
    → Found Is schema ended last late files → (image : ℕ → List ℕ) → ((k : ℕ) → Is (files k) (image k)) → MayRestart schema first image entries late
found-restarts Is known schema first entries ended last None files are found image is =
    as-before schema first entries ended last are files image (λ k. known (files k) (image k) (is k)) found.logs (found.manifest (image 0) (is 0)) (found.log (image (log_file last.date)) (is (log_file last.date)))
found-restarts Is known schema first entries ended last (Some (e.Upd by table columns)) files are found image is =
    let manifest = found.manifest (image 0) (is 0) in
    ⊎_elim
    (λ (old : LogHolds schema (image (log_file last.date)) last.updates). inl (as-before schema first entries ended last are files image (λ k. known (files k) (image k) (is k)) found.logs manifest old))
    (λ (new : LogHolds schema (image (log_file last.date)) (last.updates ++ e.Upd by table columns ∷ [])). inr (with-update schema first entries ended last are files image (λ k. known (files k) (image k) (is k)) found.logs (e.Upd by table columns) manifest new))
    (found.log (image (log_file last.date)) (is (log_file last.date)))
found-restarts Is known schema first entries ended last (Some (e.Roll by date)) files are found image is =
    let log = found.log (image (log_file last.date)) (is (log_file last.date)) in
    ⊎_elim
    (λ (old : Reads (image 0) (payloads_of (manifest_of schema (ended ++ last ∷ [])))). inl (as-before schema first entries ended last are files image (λ k. known (files k) (image k) (is k)) found.logs old log))
    (λ (new : Reads (image 0) (payloads_of (manifest_of schema (ended ++ last ∷ [])) ++ payload_of (m.Opened by date) ∷ [])).
    inr (with-roll schema first entries ended last are files image (λ k. known (files k) (image k) (is k)) found.logs by date found.opens.0 new log (found.opens.1 (image (log_file date)) (known (files (log_file date)) (image (log_file date)) (is (log_file date))))))
    (found.manifest (image 0) (is 0))
found-restarts Is known schema first entries ended last (Some (e.Fault by)) files are found image is =
    inl (as-before schema first entries ended last are files image (λ k. known (files k) (image k) (is k)) found.logs (found.manifest (image 0) (is 0)) (found.log (image (log_file last.date)) (is (log_file last.date))))
