-- How what a disk stores changes with its files.
use Rattle.std.proofs.Common.{◌≡◌, ◌≢◌, inl, ⊎_elim, ℕ, ◌+◌, ℤ, List, [], ◌∷◌, ◌++◌, Option, Some, None, refl, sym, ap, ◌∙◌, subst, arith}
use Rattle.std.specs.List.{AllByRecursion}
use Rattle.outside_api.specs.Disk.{FileState, IsImage}
use Rattle.gated_journal.specs.Journal.{JournalView, Holds, MayRead}
use Rattle.day_rows.proofs.DayLemmas.{all-append}
use Rattle.day_rows.specs.Day.{total_rows}
use Rattle.day_rows.specs.declared.entry.Entry.{Entry}
use Rattle.day_rows.specs.declared.entry.Entry.TheVariants as e
use Rattle.day_rows.specs.declared.schema.Shape.{Shape}
use Rattle.tick_log.specs.Chunk.{IsChunk}
use Rattle.tick_log.proofs.Replays.{chunks_more}
use Rattle.partition_set.specs.Manifest.{ManifestView}
use Rattle.partition_set.specs.Records.{payloads_of, IsManifest}
use Rattle.partition_set.specs.declared.record.ManifestRecord.{ManifestRecord}
use Rattle.partition_set.specs.declared.record.ManifestRecord.TheVariants as m
use Rattle.date_logs.specs.Restart.{IsFound, log_file, Dated, manifest_of}
use Rattle.date_logs.specs.Moments.{RestartsAs, RestartsFrom}
use Rattle.date_logs.specs.Stores.{DateLogsView, late_record, IsLateChunk, OpensEmpty, IsLogOf, StoresIn}
use Rattle.date_logs.proofs.Files.{all-back, earlier-apart, none-zero, last-not-zero, manifest-grown}
use Rattle.date_logs.proofs.Dates.{more}
use Rattle.date_logs.proofs.Moments.{Files}
use Rattle.date_logs.proofs.Restarting.{found-restarts, MayHold, may-hold, opened, are-more, are-next, manifest-more}

all-front : {X : Type 0} (P : X → Type 0) (xs ys : List X) → AllByRecursion P (xs ++ ys) → AllByRecursion P xs
all-front P [] ys h = tt
all-front P (x ∷ xs) ys h = (h.0, all-front P xs ys h.1)

-- a journal's records are read from whatever is found of its file
pub found-read : (journal : JournalView) (file : FileState) (records : List (List ℕ)) (late : Option (List ℕ)) → Holds journal file records late → (found : List ℕ) → IsFound file found → MayRead records late found
found-read journal file records late h found is =
    ⊎_elim (λ (image : IsImage file found). h.images found image) (λ (same : found ≡ file.bytes). subst (λ (f : List ℕ). MayRead records late f) (sym same) h.reads) is

-- an image may be found
pub found-image : (file : FileState) (image : List ℕ) → IsImage file image → IsFound file image
found-image file image is = inl is

-- the other files are as they were
abbrev pub Spares : Files → Files → ℕ → Type 0
Spares old files file = (k : ℕ) → k ≢ file → files k ≡ old k

logs-stay : (schema : List Shape) (old files : Files) (file : ℕ) (dates : List Dated) → Spares old files file → AllByRecursion (λ d. log_file d.date ≢ file) dates
    → AllByRecursion (λ d. IsLogOf schema (old (log_file d.date)) d.updates) dates → AllByRecursion (λ d. IsLogOf schema (files (log_file d.date)) d.updates) dates
logs-stay schema old files file [] spares apart hold = tt
logs-stay schema old files file (d ∷ dates) spares apart hold =
    (subst (λ (f : FileState). IsLogOf schema f d.updates) (sym (spares (log_file d.date) apart.0)) hold.0, logs-stay schema old files file dates spares apart.1 hold.1)

-- the file is not the log of a date that may count as opened
abbrev pub AwayFrom : ℕ → Option Entry → Type 0
AwayFrom file None = Unit {0}
AwayFrom file (Some (e.Upd by table columns)) = Unit {0}
AwayFrom file (Some (e.Roll by date)) = log_file date ≢ file
AwayFrom file (Some (e.Fault by)) = Unit {0}

opens-stay : (old files : Files) (file : ℕ) (records : List ManifestRecord) (late : Option Entry) → Spares old files file → AwayFrom file late → OpensEmpty old records late → OpensEmpty files records late
opens-stay old files file records None spares away h = tt
opens-stay old files file records (Some (e.Upd by table columns)) spares away h = tt
opens-stay old files file records (Some (e.Roll by date)) spares away h =
    (h.0, λ found is. h.1 found (subst (λ (f : FileState). IsFound f found) (spares (log_file date) away) is))
opens-stay old files file records (Some (e.Fault by)) spares away h = tt

module _ (old : Files) (logs : DateLogsView) (schema : List Shape) (first : ℤ) (entries : List Entry) (late : Option Entry) (s : StoresIn old logs schema first entries late) where
  abbrev ended : List Dated
  ended = s.ended

  abbrev last : Dated
  last = s.open_date

  apart : AllByRecursion (λ d. log_file d.date ≢ log_file last.date) ended
  apart = earlier-apart schema ended last s.are.lawful

  some : AllByRecursion (λ d. log_file d.date ≢ 0) ended
  some = all-front (λ (d : Dated). log_file d.date ≢ 0) ended (last ∷ []) (none-zero schema ended last s.are.lawful)

  pub log-not-zero : logs.log.file ≢ 0
  log-not-zero = subst (λ (k : ℕ). k ≢ 0) (sym s.log_file) (last-not-zero schema ended last s.are.lawful)

  zero-not-log : 0 ≢ logs.log.file
  zero-not-log = λ same. log-not-zero (sym same)

  apart-log : AllByRecursion (λ d. log_file d.date ≢ logs.log.file) ended
  apart-log = subst (λ (k : ℕ). AllByRecursion (λ d. log_file d.date ≢ k) ended) (sym s.log_file) apart

  -- the next date is one that the manifest may have
  pub next-lawful : (by : ℕ) (date : ℤ) → IsManifest (logs.manifest.records ++ m.Opened by date ∷ []) → IsManifest (manifest_of schema ((ended ++ last ∷ []) ++ opened by date ∷ []))
  next-lawful by date lawful = subst IsManifest (ap (λ l. l ++ m.Opened by date ∷ []) s.records ∙ manifest-grown schema (ended ++ last ∷ []) (opened by date)) lawful

  next-apart : (by : ℕ) (date : ℤ) → IsManifest (logs.manifest.records ++ m.Opened by date ∷ []) → AllByRecursion (λ d. log_file d.date ≢ log_file date) (ended ++ last ∷ [])
  next-apart by date lawful = earlier-apart schema (ended ++ last ∷ []) (opened by date) (next-lawful by date lawful)

  pub next-not-zero : (by : ℕ) (date : ℤ) → IsManifest (logs.manifest.records ++ m.Opened by date ∷ []) → log_file date ≢ 0
  next-not-zero by date lawful = last-not-zero schema (ended ++ last ∷ []) (opened by date) (next-lawful by date lawful)

  pub next-not-log : (by : ℕ) (date : ℤ) → IsManifest (logs.manifest.records ++ m.Opened by date ∷ []) → logs.log.file ≢ log_file date
  next-not-log by date lawful =
      subst (λ (k : ℕ). k ≢ log_file date) (sym s.log_file) (all-back (λ (d : Dated). log_file d.date ≢ log_file date) ended (last ∷ []) (next-apart by date lawful)).0

  away-log : (late' : Option Entry) → OpensEmpty old logs.manifest.records late' → AwayFrom logs.log.file late'
  away-log None h = tt
  away-log (Some (e.Upd by table columns)) h = tt
  away-log (Some (e.Roll by date)) h = λ same. next-not-log by date h.0 (sym same)
  away-log (Some (e.Fault by)) h = tt

  away-zero : (late' : Option Entry) → OpensEmpty old logs.manifest.records late' → AwayFrom 0 late'
  away-zero None h = tt
  away-zero (Some (e.Upd by table columns)) h = tt
  away-zero (Some (e.Roll by date)) h = next-not-zero by date h.0
  away-zero (Some (e.Fault by)) h = tt

  manifest-images : (Is : FileState → List ℕ → Type 0) (files : Files) (late' : Option Entry) → ((image : List ℕ) → Is (files 0) image → MayRead (payloads_of logs.manifest.records) (late_record late') image)
      → (image : List ℕ) → Is (files 0) image → MayRead (payloads_of (manifest_of schema (ended ++ last ∷ []))) (late_record late') image
  manifest-images Is files late' images image is = subst (λ l. MayRead (payloads_of l) (late_record late') image) s.records (images image is)

  log-images : (Is : FileState → List ℕ → Type 0) (files : Files) (late' : Option Entry) (chunk' : Option (List ℕ)) → IsLateChunk schema (total_rows last.updates) late' chunk'
      → ((image : List ℕ) → Is (files logs.log.file) image → MayRead s.payloads chunk' image) → (image : List ℕ) → Is (files (log_file last.date)) image → MayHold schema last.updates late' image
  log-images Is files late' chunk' is' images image is =
      may-hold schema last.updates late' s.payloads chunk' image s.chunks is' (images image (subst (λ (k : ℕ). Is (files k) image) (sym s.log_file) is))

  -- now
  pub restarts-from : RestartsFrom schema first entries late old
  restarts-from = found-restarts IsFound (λ file found is. is) schema first entries ended last late old s.are (record {
    logs = s.ended_logs;
    manifest = manifest-images IsFound old late (found-read logs.manifest.journal (old 0) (payloads_of logs.manifest.records) (late_record late) s.manifest);
    log = log-images IsFound old late s.late_chunk s.is_late (found-read logs.log (old logs.log.file) s.payloads s.late_chunk s.log);
    opens = subst (λ l. OpensEmpty old l late) s.records s.opens;
  })

  pub restarts-now : RestartsAs schema first entries late old
  restarts-now = λ image is. restarts-from image (λ k. found-image (old k) (image k) (is k))

  module _ (files : Files) (late' : Option Entry) where
    -- while the log's file changes
    pub restarts-log : (chunk' : Option (List ℕ)) → Spares old files logs.log.file → late_record late ≡ late_record late' → IsLateChunk schema (total_rows last.updates) late' chunk'
        → OpensEmpty old logs.manifest.records late' → ((image : List ℕ) → IsImage (files logs.log.file) image → MayRead s.payloads chunk' image) → RestartsAs schema first entries late' files
    restarts-log chunk' spares same is' opens images = found-restarts IsImage found-image schema first entries ended last late' files s.are (record {
      logs = logs-stay schema old files logs.log.file ended spares apart-log s.ended_logs;
      manifest = manifest-images IsImage files late' (λ image is. subst (λ l. MayRead (payloads_of logs.manifest.records) l image) same (s.manifest.images image (subst (λ (f : FileState). IsImage f image) (spares 0 zero-not-log) is)));
      log = log-images IsImage files late' chunk' is' images;
      opens = subst (λ l. OpensEmpty files l late') s.records (opens-stay old files logs.log.file logs.manifest.records late' spares (away-log late' opens) opens);
    })

    -- while the manifest's file changes
    pub restarts-manifest : Spares old files 0 → IsLateChunk schema (total_rows last.updates) late' s.late_chunk → OpensEmpty old logs.manifest.records late'
        → ((image : List ℕ) → IsImage (files 0) image → MayRead (payloads_of logs.manifest.records) (late_record late') image) → RestartsAs schema first entries late' files
    restarts-manifest spares is' opens images = found-restarts IsImage found-image schema first entries ended last late' files s.are (record {
      logs = logs-stay schema old files 0 ended spares some s.ended_logs;
      manifest = manifest-images IsImage files late' images;
      log = log-images IsImage files late' s.late_chunk is' (λ image is. s.log.images image (subst (λ (f : FileState). IsImage f image) (spares logs.log.file log-not-zero) is));
      opens = subst (λ l. OpensEmpty files l late') s.records (opens-stay old files 0 logs.manifest.records late' spares (away-zero late' opens) opens);
    })

    -- the log is another journal of the same file and the same records
    pub log-kept : (chunk' : Option (List ℕ)) (log' : JournalView) → Spares old files logs.log.file → late_record late ≡ late_record late' → IsLateChunk schema (total_rows last.updates) late' chunk'
        → OpensEmpty old logs.manifest.records late' → log'.file ≡ logs.log.file → Holds log' (files log'.file) s.payloads chunk' → StoresIn files (record { manifest = logs.manifest; log = log' }) schema first entries late'
    log-kept chunk' log' spares same is' opens file holds = record {
      ended = ended;
      open_date = last;
      are = s.are;
      ended_logs = logs-stay schema old files logs.log.file ended spares apart-log s.ended_logs;
      records = s.records;
      manifest_file = s.manifest_file;
      manifest = subst (λ (f : FileState). Holds logs.manifest.journal f (payloads_of logs.manifest.records) (late_record late')) (sym (spares 0 zero-not-log))
          (subst (λ l. Holds logs.manifest.journal (old 0) (payloads_of logs.manifest.records) l) same s.manifest);
      log_file = file ∙ s.log_file;
      payloads = s.payloads;
      chunks = s.chunks;
      late_chunk = chunk';
      is_late = is';
      log = holds;
      opens = opens-stay old files logs.log.file logs.manifest.records late' spares (away-log late' opens) opens;
    }

    -- the manifest is another of the same records
    pub manifest-kept : (manifest' : ManifestView) → Spares old files 0 → IsLateChunk schema (total_rows last.updates) late' s.late_chunk → OpensEmpty old logs.manifest.records late'
        → manifest'.records ≡ logs.manifest.records → manifest'.journal.file ≡ 0 → Holds manifest'.journal (files 0) (payloads_of manifest'.records) (late_record late')
        → StoresIn files (record { manifest = manifest'; log = logs.log }) schema first entries late'
    manifest-kept manifest' spares is' opens records file holds = record {
      ended = ended;
      open_date = last;
      are = s.are;
      ended_logs = logs-stay schema old files 0 ended spares some s.ended_logs;
      records = records ∙ s.records;
      manifest_file = file;
      manifest = holds;
      log_file = s.log_file;
      payloads = s.payloads;
      chunks = s.chunks;
      late_chunk = s.late_chunk;
      is_late = is';
      log = subst (λ (f : FileState). Holds logs.log f s.payloads s.late_chunk) (sym (spares logs.log.file log-not-zero)) s.log;
      opens = subst (λ l. OpensEmpty files l late') (sym records) (opens-stay old files 0 logs.manifest.records late' spares (away-zero late' opens) opens);
    }

-- where nothing is late
module _ (old : Files) (logs : DateLogsView) (schema : List Shape) (first : ℤ) (entries : List Entry) (s : StoresIn old logs schema first entries None) (files : Files) where
  pub log-grown : (payload : List ℕ) (entry : Entry) (log' : JournalView) → Spares old files logs.log.file → IsChunk schema (total_rows s.open_date.updates) payload entry → log'.file ≡ logs.log.file
      → Holds log' (files log'.file) (s.payloads ++ payload ∷ []) None → StoresIn files (record { manifest = logs.manifest; log = log' }) schema first (entries ++ entry ∷ []) None
  log-grown payload entry log' spares chunk file holds =
      let zero : 0 + total_rows s.open_date.updates ≡ total_rows s.open_date.updates = omega arith in
      record {
        ended = s.ended;
        open_date = more s.open_date entry;
        are = are-more schema first entries s.ended s.open_date s.are entry;
        ended_logs = logs-stay schema old files logs.log.file s.ended spares (apart-log old logs schema first entries None s) s.ended_logs;
        records = s.records ∙ manifest-more schema s.ended s.open_date entry;
        manifest_file = s.manifest_file;
        manifest = subst (λ (f : FileState). Holds logs.manifest.journal f (payloads_of logs.manifest.records) None) (sym (spares 0 (zero-not-log old logs schema first entries None s))) s.manifest;
        log_file = file ∙ s.log_file;
        payloads = s.payloads ++ payload ∷ [];
        chunks = chunks_more schema 0 s.payloads s.open_date.updates payload entry s.chunks (subst (λ n. IsChunk schema n payload entry) (sym zero) chunk);
        late_chunk = None;
        is_late = refl;
        log = holds;
        opens = tt;
      }

  -- another file changed
  pub file-kept : (by : ℕ) (date : ℤ) → IsManifest (logs.manifest.records ++ m.Opened by date ∷ []) → Spares old files (log_file date) → StoresIn files logs schema first entries None
  file-kept by date lawful spares =
      let zero : 0 ≢ log_file date = λ same. next-not-zero old logs schema first entries None s by date lawful (sym same) in
      let apart' = all-front (λ (d : Dated). log_file d.date ≢ log_file date) s.ended (s.open_date ∷ []) (next-apart old logs schema first entries None s by date lawful) in
      record {
        ended = s.ended;
        open_date = s.open_date;
        are = s.are;
        ended_logs = logs-stay schema old files (log_file date) s.ended spares apart' s.ended_logs;
        records = s.records;
        manifest_file = s.manifest_file;
        manifest = subst (λ (f : FileState). Holds logs.manifest.journal f (payloads_of logs.manifest.records) None) (sym (spares 0 zero)) s.manifest;
        log_file = s.log_file;
        payloads = s.payloads;
        chunks = s.chunks;
        late_chunk = s.late_chunk;
        is_late = s.is_late;
        log = subst (λ (f : FileState). Holds logs.log f s.payloads s.late_chunk) (sym (spares logs.log.file (next-not-log old logs schema first entries None s by date lawful))) s.log;
        opens = tt;
      }

  -- the open log is that of an ended date from here on
  ended-log : Spares old files 0 → IsLogOf schema (files (log_file s.open_date.date)) s.open_date.updates
  ended-log spares = λ image is.
      let file : logs.log.file ≡ log_file s.open_date.date = s.log_file in
      let here : IsFound (files logs.log.file) image = subst (λ (k : ℕ). IsFound (files k) image) (sym file) is in
      let there : IsFound (old logs.log.file) image = subst (λ (f : FileState). IsFound f image) (spares logs.log.file (log-not-zero old logs schema first entries None s)) here in
      may-hold schema s.open_date.updates None s.payloads s.late_chunk image s.chunks s.is_late (found-read logs.log (old logs.log.file) s.payloads s.late_chunk s.log image there)

  pub date-grown : (by : ℕ) (date : ℤ) (manifest' : ManifestView) (log' : JournalView) → Spares old files 0 → IsManifest (logs.manifest.records ++ m.Opened by date ∷ [])
      → manifest'.records ≡ logs.manifest.records ++ m.Opened by date ∷ [] → manifest'.journal.file ≡ 0 → Holds manifest'.journal (files 0) (payloads_of manifest'.records) None
      → log'.file ≡ log_file date → Holds log' (old log'.file) [] None → StoresIn files (record { manifest = manifest'; log = log' }) schema first (entries ++ e.Roll by date ∷ []) None
  date-grown by date manifest' log' spares lawful records manifest_file holds file empty =
      let away : log'.file ≢ 0 = subst (λ (k : ℕ). k ≢ 0) (sym file) (next-not-zero old logs schema first entries None s by date lawful) in
      record {
        ended = s.ended ++ s.open_date ∷ [];
        open_date = opened by date;
        are = are-next schema first entries s.ended s.open_date s.are by date (subst (λ l. IsManifest (l ++ m.Opened by date ∷ [])) s.records lawful);
        ended_logs = all-append (λ (d : Dated). IsLogOf schema (files (log_file d.date)) d.updates) s.ended (s.open_date ∷ [])
            (logs-stay schema old files 0 s.ended spares (some old logs schema first entries None s) s.ended_logs) (ended-log spares, tt);
        records = records ∙ ap (λ l. l ++ m.Opened by date ∷ []) s.records ∙ manifest-grown schema (s.ended ++ s.open_date ∷ []) (opened by date);
        manifest_file = manifest_file;
        manifest = holds;
        log_file = file;
        payloads = [];
        chunks = tt;
        late_chunk = None;
        is_late = refl;
        log = subst (λ (f : FileState). Holds log' f [] None) (sym (spares log'.file away)) empty;
        opens = tt;
      }
