-- What the repairs leave.
use Rattle.std.proofs.Common.{◌≡◌, ◌≢◌, ◌⊎◌, inl, inr, ℕ, ℤ, List, Option, Some, None, Result, Ok, Err, IsTrue, refl, sym, ◌∙◌, subst, ◌+◌, ◌≤◌, length}
use Rattle.std.specs.Result.{OnOk, OnErr}
use Rattle.outside_api.specs.declared.disk.DiskFault.{DiskFault}
use Rattle.outside_api.specs.Disk.{FileState, DiskView, Passes}
use Rattle.gated_journal.specs.Format.{before_gate}
use Rattle.gated_journal.specs.Journal.{JournalView, Stands, Holds, MayRead, Keeps, HasLastGate}
use Rattle.gated_journal.specs.Steps.{OthersStay}
use Rattle.gated_journal.specs.declared.state.State.TheVariants as s
use Rattle.day_rows.specs.declared.entry.Entry.{Entry}
use Rattle.day_rows.specs.declared.entry.Entry.TheVariants as e
use Rattle.day_rows.specs.declared.schema.Shape.{Shape}
use Rattle.partition_set.specs.Manifest as partition
use Rattle.partition_set.specs.Manifest.{ManifestView}
use Rattle.partition_set.specs.Records.{payloads_of, IsManifest}
use Rattle.partition_set.specs.declared.record.ManifestRecord.{ManifestRecord}
use Rattle.partition_set.specs.declared.record.ManifestRecord.TheVariants as m
use Rattle.date_logs.specs.Moments.{Throughout, RestartsAs}
use Rattle.date_logs.specs.Stores.{DateLogsView, IsWhole, IsReady, late_record, IsLateChunk, OpensEmpty, StoresIn, Stores, without_update, without_roll}
use Rattle.date_logs.proofs.Files.{log-not-zero, own-last}
use Rattle.date_logs.proofs.Moments.{Files, throughout-passes}
use Rattle.date_logs.proofs.Storing as storing
use Rattle.date_logs.proofs.Storing.{Spares}

-- ---- what is late after a repair

pub update-record : (late : Option Entry) → late_record late ≡ late_record (without_update late)
update-record None = refl
update-record (Some (e.Upd by table columns)) = refl
update-record (Some (e.Roll by date)) = refl
update-record (Some (e.Fault by)) = refl

pub update-chunk : (schema : List Shape) (n : ℕ) (late : Option Entry) (chunk : Option (List ℕ)) → IsLateChunk schema n late chunk → IsLateChunk schema n (without_update late) None
update-chunk schema n None chunk is = refl
update-chunk schema n (Some (e.Upd by table columns)) chunk is = refl
update-chunk schema n (Some (e.Roll by date)) chunk is = refl
update-chunk schema n (Some (e.Fault by)) chunk is = absurd is

pub update-opens : (files : Files) (records : List ManifestRecord) (late : Option Entry) → OpensEmpty files records late → OpensEmpty files records (without_update late)
update-opens files records None h = tt
update-opens files records (Some (e.Upd by table columns)) h = tt
update-opens files records (Some (e.Roll by date)) h = h
update-opens files records (Some (e.Fault by)) h = tt

pub roll-record : (late : Option Entry) → late_record (without_roll late) ≡ None
roll-record None = refl
roll-record (Some (e.Upd by table columns)) = refl
roll-record (Some (e.Roll by date)) = refl
roll-record (Some (e.Fault by)) = refl

pub roll-chunk : (schema : List Shape) (n : ℕ) (late : Option Entry) (chunk : Option (List ℕ)) → IsLateChunk schema n late chunk → IsLateChunk schema n (without_roll late) chunk
roll-chunk schema n None chunk is = is
roll-chunk schema n (Some (e.Upd by table columns)) chunk is = is
roll-chunk schema n (Some (e.Roll by date)) chunk is = is
roll-chunk schema n (Some (e.Fault by)) chunk is = absurd is

pub roll-opens : (files : Files) (records : List ManifestRecord) (late : Option Entry) → OpensEmpty files records (without_roll late)
roll-opens files records None = tt
roll-opens files records (Some (e.Upd by table columns)) = tt
roll-opens files records (Some (e.Roll by date)) = tt
roll-opens files records (Some (e.Fault by)) = tt

-- nothing is late after both
pub none-late : (late : Option Entry) → without_roll (without_update late) ≡ None
none-late None = refl
none-late (Some (e.Upd by table columns)) = refl
none-late (Some (e.Roll by date)) = refl
none-late (Some (e.Fault by)) = refl

-- what is left of a late entry after a repair of the log is the entry, or none
pub either-left : (P : Option Entry → Type 0) (late : Option Entry) → P (without_update late) → P late ⊎ P None
either-left P None p = inl p
either-left P (Some (e.Upd by table columns)) p = inr p
either-left P (Some (e.Roll by date)) p = inl p
either-left P (Some (e.Fault by)) p = inr p

-- so each image restarts as it might before
pub either-restarts : (schema : List Shape) (first : ℤ) (entries : List Entry) (late : Option Entry) (files : Files) → RestartsAs schema first entries (without_update late) files → RestartsAs schema first entries late files
either-restarts schema first entries None files r = r
either-restarts schema first entries (Some (e.Upd by table columns)) files r = λ image is. inl (r image is)
either-restarts schema first entries (Some (e.Roll by date)) files r = r
either-restarts schema first entries (Some (e.Fault by)) files r = λ image is. inl (r image is)

-- a repair leaves nothing late, or what was
pub kept-either : (r : Result (Unit {0}) DiskFault) (K P : Option (List ℕ) → Type 0) (late : Option (List ℕ)) → OnOk r ((l : Option (List ℕ)) → K l → P None) → OnErr r ((l : Option (List ℕ)) → K l → P l) → K late
    → (left : Option (List ℕ)) × P left
kept-either (Ok x) K P late ok err k = (None, ok late k)
kept-either (Err x) K P late ok err k = (late, err late k)

pub at-err : {T E : Type 0} (Q : Type 0) (r : Result T E) → Q → OnErr r Q
at-err Q (Ok x) q = tt
at-err Q (Err x) q = q

pub widened : {A B C : Type 0} → A ⊎ B → A ⊎ (B ⊎ C)
widened (inl a) = inl a
widened (inr b) = inr (inl b)

-- a clean journal has no late record
pub clean-chunk : (journal : JournalView) (file : FileState) (records : List (List ℕ)) (late : Option (List ℕ)) → journal.state ≡ s.Clean → Holds journal file records late → late ≡ None
clean-chunk journal file records None clean h = refl
clean-chunk journal file records (Some payload) clean h = absurd (subst (λ state. Stands state file (before_gate records) journal.end (Some payload)) clean h.stands)

-- so where the log is clean, no update is late, and where the manifest is, no roll
pub clean-update : (schema : List Shape) (n : ℕ) (late : Option Entry) (chunk : Option (List ℕ)) → chunk ≡ None → IsLateChunk schema n late chunk → late ≡ without_update late
clean-update schema n None chunk none is = refl
clean-update schema n (Some (e.Upd by table columns)) chunk none is = cc (is.1, none)
clean-update schema n (Some (e.Roll by date)) chunk none is = refl
clean-update schema n (Some (e.Fault by)) chunk none is = absurd is

pub clean-roll : (schema : List Shape) (n : ℕ) (late : Option Entry) (chunk : Option (List ℕ)) → late_record late ≡ None → IsLateChunk schema n late chunk → late ≡ without_roll late
clean-roll schema n None chunk none is = refl
clean-roll schema n (Some (e.Upd by table columns)) chunk none is = refl
clean-roll schema n (Some (e.Roll by date)) chunk none is = cc
clean-roll schema n (Some (e.Fault by)) chunk none is = absurd is

-- ---- the files of whole logs are different

pub whole-not-zero : (logs : DateLogsView) → IsWhole logs → logs.log.file ≢ 0
whole-not-zero logs w =
    subst (λ (k : ℕ). k ≢ 0) (sym w.log_file) (log-not-zero w.date (own-last w.front (m.Opened w.by w.date) (subst IsManifest w.records w.lawful)).1)

pub whole-apart : (logs : DateLogsView) → IsWhole logs → logs.manifest.journal.file ≢ logs.log.file
whole-apart logs w = λ same. whole-not-zero logs w (sym same ∙ w.manifest_file)

-- a file that doesn't change reaches as far as before
pub gate-stays : (before after : DiskView) → after.tells ≡ before.tells → (file : ℕ) → OthersStay before after file → (journal : JournalView) → journal.file ≢ file → HasLastGate before journal → HasLastGate after journal
gate-stays before after tells file others journal apart gate = λ t.
    subst (λ (f : FileState). journal.end + 1 ≤ length f.bytes) (sym (others (subst IsTrue tells t) journal.file apart)) (gate (subst IsTrue tells t))

-- ---- the log's file changes

module _ (before after : DiskView) (tells : after.tells ≡ before.tells) (manifest : ManifestView) (log log' : JournalView) (logs : DateLogsView) (view : (record { manifest = manifest; log = log }) ≡ logs) (file : log'.file ≡ log.file)
    (moment : (records : List (List ℕ)) (late : Option (List ℕ)) → Keeps before log records late → IsTrue before.tells → Passes before after log.file (MayRead records late)) where
  abbrev old : DateLogsView
  old = record { manifest = manifest; log = log }

  abbrev new : DateLogsView
  new = record { manifest = manifest; log = log' }

  told : IsTrue after.tells → IsTrue before.tells
  told = subst IsTrue tells

  opened : (schema : List Shape) (first : ℤ) (entries : List Entry) (late : Option Entry) → Stores before logs schema first entries late → IsTrue before.tells → StoresIn before.now old schema first entries late
  opened schema first entries late stores t = subst (λ (l : DateLogsView). StoresIn before.now l schema first entries late) (sym view) (stores t)

  pub log-mended : ((records : List (List ℕ)) (late : Option (List ℕ)) → Keeps before log records late → Keeps after log' records None)
      → (schema : List Shape) (first : ℤ) (entries : List Entry) (late : Option Entry) → Stores before logs schema first entries late → Stores after new schema first entries (without_update late)
  log-mended mended schema first entries late stores = λ t.
      let st = opened schema first entries late stores (told t) in
      let passes = moment st.payloads st.late_chunk (λ _. st.log) (told t) in
      storing.log-kept before.now old schema first entries late st after.now (without_update late) None log' passes.others_now (update-record late) (update-chunk schema _ late st.late_chunk st.is_late)
      (update-opens before.now manifest.records late st.opens) file (mended st.payloads st.late_chunk (λ _. st.log) t)

  pub log-failed : ((records : List (List ℕ)) (late : Option (List ℕ)) → Keeps before log records late → Keeps after log' records late)
      → (schema : List Shape) (first : ℤ) (entries : List Entry) (late : Option Entry) → Stores before logs schema first entries late → Stores after new schema first entries late
  log-failed failed schema first entries late stores = λ t.
      let st = opened schema first entries late stores (told t) in
      let passes = moment st.payloads st.late_chunk (λ _. st.log) (told t) in
      storing.log-kept before.now old schema first entries late st after.now late st.late_chunk log' passes.others_now refl st.is_late st.opens file (failed st.payloads st.late_chunk (λ _. st.log) t)

  pub log-moment : (schema : List Shape) (first : ℤ) (entries : List Entry) (late : Option Entry) → Stores before logs schema first entries late → IsTrue before.tells
      → Throughout before after (RestartsAs schema first entries late)
  log-moment schema first entries late stores t =
      let st = opened schema first entries late stores t in
      throughout-passes before after log.file (MayRead st.payloads st.late_chunk) (RestartsAs schema first entries late)
      (λ files images spares. storing.restarts-log before.now old schema first entries late st files late st.late_chunk spares refl st.is_late st.opens images)
      (moment st.payloads st.late_chunk (λ _. st.log) t)

  pub log-ready : IsWhole old → OthersStay before after log.file → IsReady before logs → HasLastGate after log' → IsReady after new
  log-ready whole others ready gate = record {
    manifest = gate-stays before after tells log.file others manifest.journal (whole-apart old whole) (subst (λ (l : DateLogsView). HasLastGate before l.manifest.journal) (sym view) ready.manifest);
    log = gate;
  }

-- ---- the manifest's file changes

module _ (before after : DiskView) (tells : after.tells ≡ before.tells) (manifest manifest' : ManifestView) (log : JournalView) (logs : DateLogsView) (view : (record { manifest = manifest; log = log }) ≡ logs)
    (file : manifest'.journal.file ≡ manifest.journal.file) (records : manifest'.records ≡ manifest.records)
    (moment : (late : Option (List ℕ)) → partition.Keeps before manifest late → IsTrue before.tells → Passes before after manifest.journal.file (MayRead (payloads_of manifest.records) late)) where
  abbrev old' : DateLogsView
  old' = record { manifest = manifest; log = log }

  abbrev new' : DateLogsView
  new' = record { manifest = manifest'; log = log }

  told' : IsTrue after.tells → IsTrue before.tells
  told' = subst IsTrue tells

  opened' : (schema : List Shape) (first : ℤ) (entries : List Entry) (late : Option Entry) → Stores before logs schema first entries late → IsTrue before.tells → StoresIn before.now old' schema first entries late
  opened' schema first entries late stores t = subst (λ (l : DateLogsView). StoresIn before.now l schema first entries late) (sym view) (stores t)

  pub own-kept : (schema : List Shape) (first : ℤ) (entries : List Entry) (late : Option Entry) → StoresIn before.now old' schema first entries late → partition.Keeps before manifest (late_record late)
  own-kept schema first entries late st = λ t. subst (λ (k : ℕ). Holds manifest.journal (before.now k) (payloads_of manifest.records) (late_record late)) (sym st.manifest_file) st.manifest

  zero-moment : (schema : List Shape) (first : ℤ) (entries : List Entry) (late : Option Entry) (st : StoresIn before.now old' schema first entries late) → IsTrue before.tells
      → Passes before after 0 (MayRead (payloads_of manifest.records) (late_record late))
  zero-moment schema first entries late st t =
      subst (λ (k : ℕ). Passes before after k (MayRead (payloads_of manifest.records) (late_record late))) st.manifest_file (moment (late_record late) (own-kept schema first entries late st) t)

  holds-at : (schema : List Shape) (first : ℤ) (entries : List Entry) (late : Option Entry) (st : StoresIn before.now old' schema first entries late) (left : Option (List ℕ)) → IsTrue after.tells
      → partition.Keeps after manifest' left → Holds manifest'.journal (after.now 0) (payloads_of manifest'.records) left
  holds-at schema first entries late st left t keeps = subst (λ (k : ℕ). Holds manifest'.journal (after.now k) (payloads_of manifest'.records) left) (file ∙ st.manifest_file) (keeps t)

  pub manifest-mended : ((late : Option (List ℕ)) → partition.Keeps before manifest late → partition.Keeps after manifest' None)
      → (schema : List Shape) (first : ℤ) (entries : List Entry) (late : Option Entry) → Stores before logs schema first entries late → Stores after new' schema first entries (without_roll late)
  manifest-mended mended schema first entries late stores = λ t.
      let st = opened' schema first entries late stores (told' t) in
      let keeps = mended (late_record late) (own-kept schema first entries late st) in
      storing.manifest-kept before.now old' schema first entries late st after.now (without_roll late) manifest' (zero-moment schema first entries late st (told' t)).others_now
      (roll-chunk schema _ late st.late_chunk st.is_late) (roll-opens before.now manifest.records late) records (file ∙ st.manifest_file)
      (subst (λ (l : Option (List ℕ)). Holds manifest'.journal (after.now 0) (payloads_of manifest'.records) l) (sym (roll-record late)) (holds-at schema first entries late st None t keeps))

  pub manifest-failed : ((late : Option (List ℕ)) → partition.Keeps before manifest late → partition.Keeps after manifest' late)
      → (schema : List Shape) (first : ℤ) (entries : List Entry) (late : Option Entry) → Stores before logs schema first entries late → Stores after new' schema first entries late
  manifest-failed failed schema first entries late stores = λ t.
      let st = opened' schema first entries late stores (told' t) in
      let keeps = failed (late_record late) (own-kept schema first entries late st) in
      storing.manifest-kept before.now old' schema first entries late st after.now late manifest' (zero-moment schema first entries late st (told' t)).others_now st.is_late st.opens records (file ∙ st.manifest_file)
      (holds-at schema first entries late st (late_record late) t keeps)

  pub manifest-moment : (schema : List Shape) (first : ℤ) (entries : List Entry) (late : Option Entry) → Stores before logs schema first entries late → IsTrue before.tells
      → Throughout before after (RestartsAs schema first entries late)
  manifest-moment schema first entries late stores t =
      let st = opened' schema first entries late stores t in
      throughout-passes before after 0 (MayRead (payloads_of manifest.records) (late_record late)) (RestartsAs schema first entries late)
      (λ files images spares. storing.restarts-manifest before.now old' schema first entries late st files late spares st.is_late st.opens images)
      (zero-moment schema first entries late st t)

  pub manifest-ready : IsWhole old' → OthersStay before after manifest.journal.file → IsReady before logs → HasLastGate after manifest'.journal → IsReady after new'
  manifest-ready whole others ready gate = record {
    manifest = gate;
    log = gate-stays before after tells manifest.journal.file others log (λ same. whole-apart old' whole (sym same)) (subst (λ (l : DateLogsView). HasLastGate before l.log) (sym view) ready.log);
  }
