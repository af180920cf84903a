-- A load that begins, one date more, and the end.
use Rattle.std.proofs.Common.{◌≡◌, ◌≢◌, ℕ, zero, suc, ℤ, ◌+◌, List, [], ◌∷◌, ◌++◌, length, map, take, drop, slice_get}
use Rattle.std.proofs.Common.{Some, None, refl, sym, ap, ◌∙◌, subst, arith}
use Rattle.std.specs.Int.{w32}
use Rattle.std.specs.List.{AllByRecursion}
use Rattle.std.proofs.lemmas.List.{append-nil, take-append-drop}
use mir.Val.{SFits}
use Rattle.outside_api.specs.Disk.{FileState, IsSettled}
use Rattle.gated_journal.specs.Format.{Reads}
use Rattle.gated_journal.specs.Journal.{JournalView, Holds}
use Rattle.day_rows.proofs.DayLemmas.{all-append}
use Rattle.day_rows.specs.declared.entry.Entry.{Entry}
use Rattle.day_rows.specs.declared.schema.Shape.{Shape}
use Rattle.tick_log.proofs.Replays.{take_next}
use Rattle.partition_set.proofs.EncodingLemmas.{fits}
use Rattle.partition_set.specs.Manifest.{ManifestView}
use Rattle.partition_set.specs.Records.{payloads_of, IsManifest, IsRecord, IsOpened}
use Rattle.partition_set.specs.declared.record.ManifestRecord.{ManifestRecord}
use Rattle.partition_set.specs.declared.record.ManifestRecord.TheVariants as m
use Rattle.date_logs.specs.Restart.{IsFound, log_file, Dated, manifest_of, LogHolds, BeginsAt, entries_of}
use Rattle.date_logs.specs.Stores.{IsWhole, IsLogOf, StoresIn}
use Rattle.date_logs.proofs.Beginning.{manifest-front}
use Rattle.date_logs.proofs.Storing.{found-read}
use Rattle.date_logs.proofs.Files.{earlier-apart, last-not-zero, manifest-grown, own-last, log-not-zero}
use Rattle.date_loading.specs.Loading.{LoadingView, IsLogAfter, IsUnderWay, IsBegun, IsOneFurther, IsLogOfLast, HasLog, ReadIn, LoadedIn}
use Rattle.date_loading.specs.Loading.{HasLogGate, AreLogsOf, IsUndated, RestartsSo, loaded_records, loaded_date}
use Rattle.date_loading.specs.Logs.{IsLoadedLog}
use Rattle.date_loading.specs.Manifests.{tables_of, last_date, IsBefore}
use Rattle.date_loading.proofs.DiskLemmas.{by-file}
use Rattle.date_loading.proofs.RecordLemmas.{get-below, whole-take, tables-front, dates-back, few-tables, last-pushed, last-tables, undated}
use Rattle.date_loading.proofs.RecordLemmas.{empty-dates, later}

abbrev Files : Type 0
Files = ℕ → FileState

-- ---- the beginning

module _ (manifest : ManifestView) (lawful : IsManifest manifest.records) (next : ℕ) (is : next ≡ length (tables_of manifest.records)) where
  abbrev begun : LoadingView
  begun = record { manifest = manifest; next = next; log = None }

  tables : loaded_records begun ≡ map m.Shape (tables_of manifest.records)
  tables = tables-front manifest.records next lawful.in_order is

  no-date : loaded_date begun ≡ None
  no-date = ap last_date tables ∙ last-tables (tables_of manifest.records)

  pub begun-under-way : manifest.journal.file ≡ 0 → IsUnderWay begun
  begun-under-way file = record {
    lawful = lawful;
    manifest_file = file;
    within = omega (arith, is, few-tables manifest.records);
    dates = dates-back manifest.records next lawful.in_order is;
    log = no-date;
  }

  pub is-begun : (schema : List Shape) → tables_of manifest.records ≡ schema → IsBegun schema begun
  is-begun schema same = record { tables = same; next = is ∙ ap (λ (l : List Shape). length l) same; none = no-date }

  begun-records : (schema : List Shape) → tables_of manifest.records ≡ schema → loaded_records begun ≡ manifest_of schema []
  begun-records schema same = tables ∙ ap (map m.Shape) same ∙ sym (append-nil (map m.Shape schema))

  pub begun-read : (files : Files) (schema : List Shape) → tables_of manifest.records ≡ schema → Reads (files 0).bytes (payloads_of manifest.records)
      → ReadIn files begun schema []
  begun-read files schema same reads = record { records = begun-records schema same; manifest = reads; logs = tt }

  pub begun-loaded : (files : Files) (schema : List Shape) → tables_of manifest.records ≡ schema
      → Holds manifest.journal (files 0) (payloads_of manifest.records) None
      → ((k : ℕ) → k ≢ 0 → IsSettled (files k)) → LoadedIn files begun schema []
  begun-loaded files schema same holds settled = record { records = begun-records schema same; manifest = holds; logs = tt; log = refl; settled = settled }

-- ---- one date more

logs-stay : (schema : List Shape) (old files : Files) (file : ℕ) (dates : List Dated) → ((k : ℕ) → k ≢ file → files k ≡ old k)
    → AllByRecursion (λ d. log_file d.date ≢ file) dates
    → AllByRecursion (λ d. IsLogOf schema (old (log_file d.date)) d.updates) dates
    → AllByRecursion (λ d. IsLogOf schema (files (log_file d.date)) d.updates) dates
logs-stay schema old files file [] spares apart hold = tt
logs-stay schema old files file (d ∷ dates) spares apart hold = (
  subst (λ (f : FileState). IsLogOf schema f d.updates) (sym (spares (log_file d.date) apart.0)) hold.0,
  logs-stay schema old files file dates
      spares apart.1 hold.1,
)

reads-stay : (schema : List Shape) (old files : Files) (dates : List Dated) → ((k : ℕ) → (files k).bytes ≡ (old k).bytes)
    → AllByRecursion (λ d. LogHolds schema (old (log_file d.date)).bytes d.updates) dates
    → AllByRecursion (λ d. LogHolds schema (files (log_file d.date)).bytes d.updates) dates
reads-stay schema old files [] same hold = tt
reads-stay schema old files (d ∷ dates) same hold =
    (subst (λ (b : List ℕ). LogHolds schema b d.updates) (sym (same (log_file d.date))) hold.0, reads-stay schema old files dates same hold.1)

all-later : {X : Type 0} (P : X → Type 0) (xs : List X) (n : ℕ) → AllByRecursion P (drop n xs) → AllByRecursion P (drop (suc n) xs)
all-later P [] n h = tt
all-later P (y ∷ ys) zero h = h.1
all-later P (y ∷ ys) (suc n) h = all-later P ys n h

module _ (loading : LoadingView) (w : IsUnderWay loading) (by : ℕ) (date : ℤ)
    (at : slice_get loading.manifest.records loading.next ≡ Some (m.Opened by date)) where
  taken : take (loading.next + 1) loading.manifest.records ≡ loaded_records loading ++ m.Opened by date ∷ []
  taken = take_next loading.manifest.records loading.next (m.Opened by date) at

  front : IsManifest (loaded_records loading ++ m.Opened by date ∷ [])
  front =
      subst IsManifest taken
      (manifest-front (take (loading.next + 1) loading.manifest.records) (drop (loading.next + 1) loading.manifest.records)
      (subst IsManifest (sym (take-append-drop (loading.next + 1) loading.manifest.records)) w.lawful))

  pub next-own : IsRecord (m.Opened by date)
  next-own = own-last (loaded_records loading) (m.Opened by date) front

  pub next-later : IsBefore (loaded_date loading) date
  next-later = later (loaded_records loading) by date front.in_order

  -- the manifest isn't in the date's file
  pub manifest-apart : loading.manifest.journal.file ≢ log_file date
  manifest-apart = λ same. log-not-zero date next-own.1 (sym same ∙ w.manifest_file)

  pub date-fits : SFits w32 date
  date-fits = fits date next-own.1 next-own.2

  abbrev after : ℕ → JournalView → LoadingView
  after next log = record { manifest = loading.manifest; next = next; log = Some log }

  pub further : (next : ℕ) (log : JournalView) → next ≡ loading.next + 1 → IsOneFurther loading (after next log) date
  further next log more = record {
    manifest = refl;
    next = more;
    last = ap (λ (n : ℕ). last_date (take n loading.manifest.records)) more ∙ ap last_date taken ∙ last-pushed (loaded_records loading) by date;
  }

  pub under-way : (next : ℕ) (log : JournalView) → next ≡ loading.next + 1 → log.file ≡ log_file date → IsUnderWay (after next log)
  under-way next log more file = record {
    lawful = w.lawful;
    manifest_file = w.manifest_file;
    within = omega (arith, more, get-below loading.manifest.records loading.next (m.Opened by date) at);
    dates = let same : suc loading.next ≡ next = omega (arith, more) in subst (λ (n : ℕ). AllByRecursion IsOpened (drop n loading.manifest.records))
        same (all-later IsOpened loading.manifest.records loading.next w.dates);
    log = (loaded_records loading, by, date, ap (λ (n : ℕ). take n loading.manifest.records) more ∙ taken, file);
  }

  module _ (old new : Files) (schema : List Shape) (dates : List Dated) (updates : List Entry)
      (records : loaded_records loading ≡ manifest_of schema dates) where
    abbrev found : Dated
    found = record { by = by; date = date; updates = updates }

    grown : (next : ℕ) → next ≡ loading.next + 1 → take next loading.manifest.records ≡ manifest_of schema (dates ++ found ∷ [])
    grown next more =
        ap (λ (n : ℕ). take n loading.manifest.records) more ∙ taken ∙ ap (λ (l : List ManifestRecord). l ++ m.Opened by date ∷ []) records ∙
        manifest-grown schema dates found

    lawful : IsManifest (manifest_of schema (dates ++ found ∷ []))
    lawful = subst IsManifest (ap (λ (l : List ManifestRecord). l ++ m.Opened by date ∷ []) records ∙ manifest-grown schema dates found) front

    pub one-read : (next : ℕ) (log : JournalView) → next ≡ loading.next + 1 → ReadIn old loading schema dates
        → LogHolds schema (old (log_file date)).bytes updates
        → ((k : ℕ) → (new k).bytes ≡ (old k).bytes) → ReadIn new (after next log) schema (dates ++ found ∷ [])
    one-read next log more h holds same = record {
      records = grown next more;
      manifest = subst (λ (b : List ℕ). Reads b (payloads_of loading.manifest.records)) (sym (same 0)) h.manifest;
      logs = all-append (λ (d : Dated). LogHolds schema (new (log_file d.date)).bytes d.updates) dates (found ∷ [])
          (reads-stay schema old new dates same h.logs)
          (subst (λ (b : List ℕ). LogHolds schema b updates) (sym (same (log_file date))) holds, tt);
    }

    pub one-loaded : (next : ℕ) (log : JournalView) → next ≡ loading.next + 1 → log.file ≡ log_file date → LoadedIn old loading schema dates
        → ((k : ℕ) → k ≢ log_file date → new k ≡ old k)
        → IsSettled (new (log_file date)) → IsLoadedLog schema new log updates → LoadedIn new (after next log) schema (dates ++ found ∷ [])
    one-loaded next log more file h spares settled loaded = record {
      records = grown next more;
      manifest =
          subst (λ (f : FileState). Holds loading.manifest.journal f (payloads_of loading.manifest.records) None)
          (sym (spares 0 (λ same. last-not-zero schema dates found lawful (sym same)))) h.manifest;
      logs = all-append (λ (d : Dated). IsLogOf schema (new (log_file d.date)) d.updates) dates (found ∷ [])
          (logs-stay schema old new (log_file date) dates spares (earlier-apart schema dates found lawful) h.logs) (
            (λ image is. record {
              records = loaded.payloads;
              reads = found-read log (new log.file) loaded.payloads None loaded.holds image
                  (subst (λ (k : ℕ). IsFound (new k) image) (sym file) is);
              chunks = loaded.chunks;
            }),
            tt,
          );
      log = record { ended = dates; last = found; split = refl; file = file; payloads = loaded.payloads; chunks = loaded.chunks; holds = loaded.holds };
      settled = λ k some. by-file k (log_file date) (λ same. subst (λ (n : ℕ). IsSettled (new n)) (sym same) settled)
          (λ apart. subst (λ (f : FileState). IsSettled f) (sym (spares k apart)) (h.settled k some));
    }

-- ---- the end

all-front : {X : Type 0} (P : X → Type 0) (xs ys : List X) → AllByRecursion P (xs ++ ys) → AllByRecursion P xs
all-front P [] ys a = tt
all-front P (x ∷ xs) ys a = (a.0, all-front P xs ys a.1)

module _ (loading : LoadingView) (w : IsUnderWay loading) (all : loading.next ≡ length loading.manifest.records) where
  whole : loaded_records loading ≡ loading.manifest.records
  whole = whole-take loading.manifest.records loading.next all

  lawful-dates : (schema : List Shape) (dates : List Dated) → loaded_records loading ≡ manifest_of schema dates → IsManifest (manifest_of schema dates)
  lawful-dates schema dates records = subst IsManifest (sym whole ∙ records) w.lawful

  pub restarts-so : RestartsSo loading
  restarts-so disk schema first dates read begins told =
      let h : ReadIn disk.now loading schema dates = read told in
      record {
        dates = dates;
        are = record { lawful = lawful-dates schema dates h.records; begins = begins; spelled = refl };
        manifest = subst (λ (l : List ManifestRecord). Reads (disk.now 0).bytes (payloads_of l)) (sym whole ∙ h.records) h.manifest;
        logs = h.logs;
      }

  module _ (log : JournalView) (is : loading.log ≡ Some log) where
    last : IsLogAfter (loaded_records loading) (Some log)
    last = subst (IsLogAfter (loaded_records loading)) is w.log

    pub finish-whole : IsWhole (record { manifest = loading.manifest; log = log })
    finish-whole =
        record {
          front = last.0;
          by = last.1;
          date = last.2;
          records = sym whole ∙ last.3;
          lawful = w.lawful;
          manifest_file = w.manifest_file;
          log_file = last.4;
        }

    finish-stored : (files : Files) (schema : List Shape) (first : ℤ) (dates : List Dated) → LoadedIn files loading schema dates → BeginsAt first dates
        → StoresIn files (record { manifest = loading.manifest; log = log }) schema first (entries_of dates) None
    finish-stored files schema first dates h begins =
        let own : IsLogOfLast schema files dates log = subst (HasLog schema files dates) is h.log in
        let records : loading.manifest.records ≡ manifest_of schema (own.ended ++ own.last ∷ []) =
        sym whole ∙ h.records ∙ ap (manifest_of schema) own.split in
        record {
          ended = own.ended;
          open_date = own.last;
          are = record { lawful = subst IsManifest records w.lawful; begins = subst (BeginsAt first) own.split begins; spelled = ap entries_of own.split };
          ended_logs = all-front (λ (d : Dated). IsLogOf schema (files (log_file d.date)) d.updates) own.ended (own.last ∷ [])
              (subst (AllByRecursion (λ (d : Dated). IsLogOf schema (files (log_file d.date)) d.updates)) own.split h.logs);
          records = records;
          manifest_file = w.manifest_file;
          manifest = h.manifest;
          log_file = own.file;
          payloads = own.payloads;
          chunks = own.chunks;
          late_chunk = None;
          is_late = refl;
          log = own.holds;
          opens = tt;
        }

    pub finish-logs : AreLogsOf loading (record { manifest = loading.manifest; log = log })
    finish-logs = record {
      manifest = refl;
      open_date = last.2;
      last = ap last_date last.3 ∙ last-pushed last.0 last.1 last.2;
      stored = λ disk schema first dates loaded begins told. finish-stored disk.now schema first dates (loaded told) begins;
      ready = λ disk gates. record { manifest = gates.manifest; log = subst (HasLogGate disk) is gates.log };
    }

  pub finish-undated : loading.log ≡ None → IsUndated loading loading.manifest
  finish-undated is =
      let none : loaded_date loading ≡ None = subst (IsLogAfter (loaded_records loading)) is w.log in
      record {
        same = refl;
        none = none;
        records = undated loading.manifest.records (ap last_date (sym whole) ∙ none);
        empty = λ schema dates records. empty-dates schema dates (ap last_date (sym records) ∙ none);
        kept = λ disk schema dates loaded told.
            subst (λ (k : ℕ). Holds loading.manifest.journal (disk.now k) (payloads_of loading.manifest.records) None) (sym w.manifest_file)
            (loaded told).manifest;
      }
