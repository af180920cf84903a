-- A plant without dates, and its first date.
use Rattle.std.proofs.Common.{◌≡◌, ◌≢◌, ⊎_elim, ℕ, zero, suc, ℤ, drop, List, [], ◌∷◌, ◌++◌, map, Some, None, IsTrue, refl, sym, ap, ◌∙◌, subst}
use Rattle.std.specs.List.{AllByRecursion}
use Rattle.day_rows.specs.Sorted.{IsAscending}
use Rattle.std.proofs.lemmas.List.{append-nil, map-append}
use Rattle.outside_api.specs.Disk.{FileState, IsImage, DiskView, Passes}
use Rattle.gated_journal.specs.Format.{Reads}
use Rattle.gated_journal.specs.Journal.{JournalView, Holds, MayRead, Keeps, HasLastGate}
use Rattle.gated_journal.specs.Steps.{OthersStay}
use Rattle.day_rows.specs.declared.schema.Shape.{Shape}
use Rattle.partition_set.specs.Manifest as partition
use Rattle.partition_set.specs.Manifest.{ManifestView}
use Rattle.partition_set.specs.Records.{payload_of, payloads_of, IsManifest, IsRecord, IsOpened, MayFollow}
use Rattle.partition_set.specs.declared.record.ManifestRecord.{ManifestRecord}
use Rattle.partition_set.specs.declared.record.ManifestRecord.TheVariants as m
use Rattle.date_logs.specs.Restart.{IsFound, log_file, AreDates, Restarts}
use Rattle.date_logs.specs.Moments.{Throughout, RestartsAs, RestartsFrom}
use Rattle.date_logs.specs.Stores.{IsWhole, IsReady, Stores}
use Rattle.date_logs.proofs.Files.{log-not-zero, own-last}
use Rattle.date_logs.proofs.Mending.{gate-stays}
use Rattle.date_logs.proofs.Moments.{Files, throughout-join, throughout-passes}
use Rattle.date_logs.proofs.Restarting.{opened}

all-front : {X : Type 0} (P : X → Type 0) (xs ys : List X) → AllByRecursion P (xs ++ ys) → AllByRecursion P xs
all-front P [] ys h = tt
all-front P (x ∷ xs) ys h = (h.0, all-front P xs ys h.1)

ascending-front : {X : Type 0} (R : X → X → Type 0) (xs ys : List X) → IsAscending R (xs ++ ys) → IsAscending R xs
ascending-front R [] ys up = tt
ascending-front R (x ∷ xs) ys up = (all-front (R x) xs ys up.0, ascending-front R xs ys up.1)

all-drop-front : {X : Type 0} (P : X → Type 0) (n : ℕ) (xs ys : List X) → AllByRecursion P (drop n (xs ++ ys)) → AllByRecursion P (drop n xs)
all-drop-front P zero xs ys h = all-front P xs ys h
all-drop-front P (suc n) [] ys h = tt
all-drop-front P (suc n) (x ∷ xs) ys h = all-drop-front P n xs ys h

pub manifest-front : (xs ys : List ManifestRecord) → IsManifest (xs ++ ys) → IsManifest xs
manifest-front xs ys is =
    record { each = all-front IsRecord xs ys is.each; in_order = ascending-front MayFollow xs ys is.in_order; few_tables = all-drop-front IsOpened 64 xs ys is.few_tables }

-- files whose manifest has tables and no dates
pub restarts-undated : (schema : List Shape) (first : ℤ) (image : ℕ → List ℕ) → IsManifest (map m.Shape schema) → Reads (image 0) (payloads_of (map m.Shape schema)) → Restarts schema first image []
restarts-undated schema first image lawful reads = record {
  dates = [];
  are = record { lawful = subst IsManifest (sym (append-nil (map m.Shape schema))) lawful; begins = tt; spelled = refl };
  manifest = subst (λ (l : List ManifestRecord). Reads (image 0) (payloads_of l)) (sym (append-nil (map m.Shape schema))) reads;
  logs = tt;
}

pub undated : (schema : List Shape) (first : ℤ) (files : Files) → IsManifest (map m.Shape schema) → ((image : List ℕ) → IsImage (files 0) image → Reads image (payloads_of (map m.Shape schema))) → RestartsAs schema first [] None files
undated schema first files lawful reads = λ image is. restarts-undated schema first image lawful (reads (image 0) (is 0))

-- the same of whatever is found of the manifest's file
pub undated-found : (schema : List Shape) (first : ℤ) (files : Files) → IsManifest (map m.Shape schema) → ((found : List ℕ) → IsFound (files 0) found → Reads found (payloads_of (map m.Shape schema))) → RestartsFrom schema first [] None files
undated-found schema first files lawful reads = λ found is. restarts-undated schema first found lawful (reads (found 0) (is 0))

-- the bytes of a manifest's file
pub bytes-read : (files : Files) (manifest : ManifestView) (records : List ManifestRecord) → manifest.records ≡ records → manifest.journal.file ≡ 0 → Holds manifest.journal (files manifest.journal.file) (payloads_of manifest.records) None
    → Reads (files 0).bytes (payloads_of records)
bytes-read files manifest records same file holds =
    let there : Reads (files manifest.journal.file).bytes (payloads_of manifest.records) = holds.reads in
    subst (λ (k : ℕ). Reads (files k).bytes (payloads_of records)) file (subst (λ (l : List ManifestRecord). Reads (files manifest.journal.file).bytes (payloads_of l)) same there)

are-first : (schema : List Shape) (by : ℕ) (date : ℤ) → IsManifest (map m.Shape schema ++ m.Opened by date ∷ []) → AreDates schema date (opened by date ∷ []) []
are-first schema by date lawful = record { lawful = lawful; begins = refl; spelled = refl }

restarts-first : (schema : List Shape) (by : ℕ) (date : ℤ) (image : ℕ → List ℕ) → IsManifest (map m.Shape schema ++ m.Opened by date ∷ []) → Reads (image 0) (payloads_of (map m.Shape schema) ++ payload_of (m.Opened by date) ∷ [])
    → Reads (image (log_file date)) [] → Restarts schema date image []
restarts-first schema by date image lawful reads empty = record {
  dates = opened by date ∷ [];
  are = are-first schema by date lawful;
  manifest = subst (λ (l : List (List ℕ)). Reads (image 0) l) (sym (map-append payload_of (map m.Shape schema) (m.Opened by date ∷ []))) reads;
  logs = (record { records = []; reads = empty; chunks = tt }, tt);
}

module _ (before mid : DiskView) (tells : mid.tells ≡ before.tells) (manifest : ManifestView) (by : ℕ) (date : ℤ) (lawful : IsManifest (manifest.records ++ m.Opened by date ∷ [])) (file : manifest.journal.file ≡ 0)
    (kept : partition.Keeps before manifest None) (fresh : IsTrue before.tells → Passes before mid (log_file date) (λ _. Unit {0})) where
  not-zero : log_file date ≢ 0
  not-zero = log-not-zero date (own-last manifest.records (m.Opened by date) lawful).1

  -- the manifest's file isn't changed by the new log
  pub kept-mid : partition.Keeps mid manifest None
  kept-mid = λ t.
      let told = subst IsTrue tells t in
      subst (λ (f : FileState). Holds manifest.journal f (payloads_of manifest.records) None) (sym ((fresh told).others_now manifest.journal.file (λ same. not-zero (sym same ∙ file)))) (kept told)

  module _ (schema : List Shape) (tables : manifest.records ≡ map m.Shape schema) where
    lawful-tables : IsManifest (map m.Shape schema)
    lawful-tables = subst IsManifest tables (manifest-front manifest.records (m.Opened by date ∷ []) lawful)

    pub begin-fresh-moment : IsTrue before.tells → Throughout before mid (RestartsAs schema date [] None)
    begin-fresh-moment t =
        throughout-passes before mid (log_file date) (λ _. Unit {0}) (RestartsAs schema date [] None)
        (λ files images spares. undated schema date files lawful-tables (λ image is.
        subst (λ (l : List ManifestRecord). Reads image (payloads_of l)) tables ((kept t).images image
        (subst (λ (f : FileState). IsImage f image) (spares 0 (λ same. not-zero (sym same)) ∙ ap before.now (sym file)) is))))
        (fresh t)

module _ (before mid after : DiskView) (tells : mid.tells ≡ before.tells) (tells' : after.tells ≡ mid.tells) (manifest manifest' : ManifestView) (log : JournalView) (by : ℕ) (date : ℤ)
    (lawful : IsManifest (manifest.records ++ m.Opened by date ∷ [])) (file : manifest.journal.file ≡ 0) (file' : manifest'.journal.file ≡ manifest.journal.file) (log_is : log.file ≡ log_file date) (empty : Keeps mid log [] None)
    (kept : partition.Keeps before manifest None) (fresh : IsTrue before.tells → Passes before mid (log_file date) (λ _. Unit {0}))
    (moment : partition.Keeps mid manifest None → IsTrue mid.tells → Passes mid after manifest.journal.file (MayRead (payloads_of manifest.records) (Some (payload_of (m.Opened by date))))) where
  away-zero : log_file date ≢ 0
  away-zero = log-not-zero date (own-last manifest.records (m.Opened by date) lawful).1

  still-kept : partition.Keeps mid manifest None
  still-kept = kept-mid before mid tells manifest by date lawful file kept fresh

  module _ (schema : List Shape) (tables : manifest.records ≡ map m.Shape schema) where
    tables-lawful : IsManifest (map m.Shape schema)
    tables-lawful = subst IsManifest tables (manifest-front manifest.records (m.Opened by date ∷ []) lawful)

    date-lawful : IsManifest (map m.Shape schema ++ m.Opened by date ∷ [])
    date-lawful = subst (λ (l : List ManifestRecord). IsManifest (l ++ m.Opened by date ∷ [])) tables lawful

    opened-part : IsTrue mid.tells → Throughout mid after (RestartsAs schema date [] None)
    opened-part t =
        throughout-passes mid after 0 (MayRead (payloads_of manifest.records) (Some (payload_of (m.Opened by date)))) (RestartsAs schema date [] None)
        (λ files images spares image is.
        let log-empty : Reads (image (log_file date)) [] =
        (empty t).images (image (log_file date)) (subst (λ (f : FileState). IsImage f (image (log_file date))) (spares (log_file date) away-zero ∙ ap mid.now (sym log_is)) (is (log_file date))) in
        ⊎_elim
        (λ (old : Reads (image 0) (payloads_of manifest.records)). restarts-undated schema date image tables-lawful (subst (λ (l : List ManifestRecord). Reads (image 0) (payloads_of l)) tables old))
        (λ (new : Reads (image 0) (payloads_of manifest.records ++ payload_of (m.Opened by date) ∷ [])).
        restarts-first schema by date image date-lawful (subst (λ (l : List ManifestRecord). Reads (image 0) (payloads_of l ++ payload_of (m.Opened by date) ∷ [])) tables new) log-empty)
        (images (image 0) (is 0)))
        (subst (λ (k : ℕ). Passes mid after k (MayRead (payloads_of manifest.records) (Some (payload_of (m.Opened by date))))) file (moment still-kept t))

    pub begin-moment : IsTrue before.tells → Throughout before after (RestartsAs schema date [] None)
    begin-moment t = throughout-join before mid after (RestartsAs schema date [] None) (begin-fresh-moment before mid tells manifest by date lawful file kept fresh schema tables t) (opened-part (subst IsTrue (sym tells) t))

    pub begin-stored : manifest'.records ≡ manifest.records ++ m.Opened by date ∷ [] → (partition.Keeps mid manifest None → partition.Keeps after manifest' None) → Stores after (record { manifest = manifest'; log = log }) schema date [] None
    begin-stored records keeps = λ t.
        let told = subst IsTrue tells' t in
        let away : log.file ≢ manifest.journal.file = λ same. away-zero (sym log_is ∙ same ∙ file) in
        record {
          ended = [];
          open_date = opened by date;
          are = are-first schema by date date-lawful;
          ended_logs = tt;
          records = records ∙ ap (λ (l : List ManifestRecord). l ++ m.Opened by date ∷ []) tables;
          manifest_file = file' ∙ file;
          manifest = subst (λ (k : ℕ). Holds manifest'.journal (after.now k) (payloads_of manifest'.records) None) (file' ∙ file) (keeps still-kept t);
          log_file = log_is;
          payloads = [];
          chunks = tt;
          late_chunk = None;
          is_late = refl;
          log = subst (λ (f : FileState). Holds log f [] None) (sym ((moment still-kept told).others_now log.file away)) (empty told);
          opens = tt;
        }

  pub begin-whole : manifest'.records ≡ manifest.records ++ m.Opened by date ∷ [] → IsWhole (record { manifest = manifest'; log = log })
  begin-whole records = record { front = manifest.records; by = by; date = date; records = records; lawful = subst IsManifest (sym records) lawful; manifest_file = file' ∙ file; log_file = log_is }

-- the manifest's file reaches beyond its last gate as before, after the new log was made
pub begin-gate : (before mid : DiskView) → mid.tells ≡ before.tells → (manifest : ManifestView) (by : ℕ) (date : ℤ) → IsManifest (manifest.records ++ m.Opened by date ∷ []) → manifest.journal.file ≡ 0
    → (IsTrue before.tells → Passes before mid (log_file date) (λ _. Unit {0})) → HasLastGate before manifest.journal → HasLastGate mid manifest.journal
begin-gate before mid tells manifest by date lawful file fresh gate =
    let others : OthersStay before mid (log_file date) = λ t. (fresh t).others_now in
    let apart : manifest.journal.file ≢ log_file date = λ same. log-not-zero date (own-last manifest.records (m.Opened by date) lawful).1 (sym same ∙ file) in
    gate-stays before mid tells (log_file date) others manifest.journal apart gate

pub begin-ready : (mid after : DiskView) → after.tells ≡ mid.tells → (manifest manifest' : ManifestView) (log : JournalView) (by : ℕ) (date : ℤ) → IsManifest (manifest.records ++ m.Opened by date ∷ []) → manifest.journal.file ≡ 0
    → log.file ≡ log_file date → OthersStay mid after manifest.journal.file → HasLastGate mid log → HasLastGate after manifest'.journal → IsReady after (record { manifest = manifest'; log = log })
begin-ready mid after tells manifest manifest' log by date lawful file log_is others log_gate gate = record {
  manifest = gate;
  log = gate-stays mid after tells manifest.journal.file others log (λ same. log-not-zero date (own-last manifest.records (m.Opened by date) lawful).1 (sym log_is ∙ same ∙ file)) log_gate;
}
