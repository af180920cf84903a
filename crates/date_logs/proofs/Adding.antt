-- What an append and an opened date leave.
use Rattle.std.proofs.Common.{◌≡◌, ◌≢◌, ◌⊎◌, inl, inr, ℕ, ℤ, ◌<ℤ◌, List, [], ◌∷◌, ◌++◌, Option, Some, None, IsTrue, refl, sym, ap, ◌∙◌, subst}
use Rattle.outside_api.specs.Disk.{DiskView, Passes}
use Rattle.gated_journal.specs.Journal.{JournalView, Holds, MayRead, Keeps, HasLastGate, late_of}
use Rattle.gated_journal.specs.Steps.{OthersStay}
use Rattle.gated_journal.specs.declared.state.State.{State}
use Rattle.gated_journal.specs.declared.state.State.TheVariants as s
use Rattle.day_rows.specs.Day.{total_rows}
use Rattle.day_rows.specs.Sorted.{IsAscending}
use Rattle.day_rows.specs.declared.entry.Entry.{Entry}
use Rattle.day_rows.specs.declared.entry.Entry.TheVariants as e
use Rattle.day_rows.specs.declared.schema.Shape.{Shape}
use Rattle.tick_log.specs.Chunk.{IsChunk}
use Rattle.partition_set.specs.Manifest as partition
use Rattle.partition_set.specs.Manifest.{ManifestView}
use Rattle.partition_set.specs.Records.{payload_of, payloads_of, IsManifest, IsRecord, MayFollow}
use Rattle.partition_set.specs.declared.record.ManifestRecord.{ManifestRecord}
use Rattle.partition_set.specs.declared.record.ManifestRecord.TheVariants as m
use Rattle.date_logs.specs.Restart.{IsFound, log_file, open_rows}
use Rattle.date_logs.specs.Moments.{Throughout, RestartsAs}
use Rattle.date_logs.specs.Stores.{DateLogsView, IsWhole, IsReady, late_record, IsLateChunk, OpensEmpty, StoresIn, Stores, left_of}
use Rattle.date_logs.proofs.Dates.{rows-open}
use Rattle.date_logs.proofs.Files.{log-not-zero, log-apart, own-last}
use Rattle.date_logs.proofs.Mending.{whole-apart, gate-stays}
use Rattle.date_logs.proofs.Moments.{Files, throughout-passes}
use Rattle.date_logs.proofs.Storing as storing
use Rattle.date_logs.proofs.Storing.{Spares}

-- what is left after a call that failed is nothing, or its entry
pub left-leaves : (P : Option Entry → Type 0) (late : Option Entry) (state : State) (entry : Entry) → P (left_of state entry) → P late ⊎ (P None ⊎ P (Some entry))
left-leaves P late s.Clean entry p = inr (inl p)
left-leaves P late s.BodyFailed entry p = inr (inl p)
left-leaves P late s.GateFailed entry p = inr (inr p)

-- ---- an update

update-left : (state : State) (schema : List Shape) (n : ℕ) (payload : List ℕ) (entry : Entry) → IsChunk schema n payload entry → IsLateChunk schema n (left_of state entry) (late_of state payload)
update-left s.Clean schema n payload entry is = refl
update-left s.BodyFailed schema n payload entry is = refl
update-left s.GateFailed schema n payload (e.Upd by table columns) is = (payload, refl, is)
update-left s.GateFailed schema n payload (e.Roll by date) is = absurd is
update-left s.GateFailed schema n payload (e.Fault by) is = absurd is

update-none : (state : State) (schema : List Shape) (n : ℕ) (payload : List ℕ) (entry : Entry) → IsChunk schema n payload entry → None ≡ late_record (left_of state entry)
update-none s.Clean schema n payload entry is = refl
update-none s.BodyFailed schema n payload entry is = refl
update-none s.GateFailed schema n payload (e.Upd by table columns) is = refl
update-none s.GateFailed schema n payload (e.Roll by date) is = absurd is
update-none s.GateFailed schema n payload (e.Fault by) is = absurd is

update-opens : (state : State) (schema : List Shape) (n : ℕ) (payload : List ℕ) (entry : Entry) (files : Files) (records : List ManifestRecord) → IsChunk schema n payload entry → OpensEmpty files records (left_of state entry)
update-opens s.Clean schema n payload entry files records is = tt
update-opens s.BodyFailed schema n payload entry files records is = tt
update-opens s.GateFailed schema n payload (e.Upd by table columns) files records is = tt
update-opens s.GateFailed schema n payload (e.Roll by date) files records is = absurd is
update-opens s.GateFailed schema n payload (e.Fault by) files records is = absurd is

module _ (before after : DiskView) (tells : after.tells ≡ before.tells) (manifest : ManifestView) (log log' : JournalView) (logs : DateLogsView) (view : (record { manifest = manifest; log = log }) ≡ logs) (file : log'.file ≡ log.file)
    (payload : List ℕ) (moment : (records : List (List ℕ)) → Keeps before log records None → IsTrue before.tells → Passes before after log.file (MayRead records (Some payload))) where
  abbrev old : DateLogsView
  old = record { manifest = manifest; log = log }

  abbrev new : DateLogsView
  new = record { manifest = manifest; log = log' }

  told : IsTrue after.tells → IsTrue before.tells
  told = subst IsTrue tells

  module _ (schema : List Shape) (first : ℤ) (entries : List Entry) (entry : Entry) (stores : Stores before logs schema first entries None) (chunk : IsChunk schema (open_rows entries) payload entry) where
    opened : IsTrue before.tells → StoresIn before.now old schema first entries None
    opened t = subst (λ (l : DateLogsView). StoresIn before.now l schema first entries None) (sym view) (stores t)

    own : (st : StoresIn before.now old schema first entries None) → Keeps before log st.payloads None
    own st = λ t. subst (λ (c : Option (List ℕ)). Holds log (before.now log.file) st.payloads c) st.is_late st.log

    own-chunk : (st : StoresIn before.now old schema first entries None) → IsChunk schema (total_rows st.open_date.updates) payload entry
    own-chunk st = subst (λ (n : ℕ). IsChunk schema n payload entry) (ap open_rows st.are.spelled ∙ rows-open schema st.payloads st.ended st.open_date st.chunks) chunk

    pub append-added : ((records : List (List ℕ)) → Keeps before log records None → Keeps after log' (records ++ payload ∷ []) None) → Stores after new schema first (entries ++ entry ∷ []) None
    append-added added = λ t.
        let st = opened (told t) in
        storing.log-grown before.now old schema first entries st after.now payload entry log' (moment st.payloads (own st) (told t)).others_now (own-chunk st) file (added st.payloads (own st) t)

    pub append-failed : ((records : List (List ℕ)) → Keeps before log records None → Keeps after log' records (late_of log'.state payload)) → Stores after new schema first entries (left_of log'.state entry)
    append-failed failed = λ t.
        let st = opened (told t) in
        storing.log-kept before.now old schema first entries None st after.now (left_of log'.state entry) (late_of log'.state payload) log' (moment st.payloads (own st) (told t)).others_now
        (update-none log'.state schema _ payload entry (own-chunk st)) (update-left log'.state schema _ payload entry (own-chunk st)) (update-opens log'.state schema _ payload entry before.now manifest.records (own-chunk st)) file
        (failed st.payloads (own st) t)

    pub append-moment : IsTrue before.tells → Throughout before after (RestartsAs schema first entries (Some entry))
    append-moment t =
        let st = opened t in
        throughout-passes before after log.file (MayRead st.payloads (Some payload)) (RestartsAs schema first entries (Some entry))
        (λ files images spares. storing.restarts-log before.now old schema first entries None st files (Some entry) (Some payload) spares
        (update-none s.GateFailed schema _ payload entry (own-chunk st)) (update-left s.GateFailed schema _ payload entry (own-chunk st)) (update-opens s.GateFailed schema _ payload entry before.now manifest.records (own-chunk st)) images)
        (moment st.payloads (own st) t)

  pub append-ready : IsWhole old → OthersStay before after log.file → IsReady before logs → HasLastGate after log' → IsReady after new
  append-ready whole others ready gate = record {
    manifest = gate-stays before after tells log.file others manifest.journal (whole-apart old whole) (subst (λ (l : DateLogsView). HasLastGate before l.manifest.journal) (sym view) ready.manifest);
    log = gate;
  }

-- ---- a date

ascending-last : {X : Type 0} (R : X → X → Type 0) (xs : List X) (l x : X) → IsAscending R ((xs ++ l ∷ []) ++ x ∷ []) → R l x
ascending-last R [] l x up = up.0.0
ascending-last R (y ∷ ys) l x up = ascending-last R ys l x up.1

module _ (logs : DateLogsView) (w : IsWhole logs) (by : ℕ) (date : ℤ) (lawful : IsManifest (logs.manifest.records ++ m.Opened by date ∷ [])) where
  pub next-record : IsRecord (m.Opened by date)
  next-record = own-last logs.manifest.records (m.Opened by date) lawful

  pub next-not-zero : log_file date ≢ 0
  next-not-zero = log-not-zero date next-record.1

  pub next-not-manifest : logs.manifest.journal.file ≢ log_file date
  next-not-manifest = λ same. next-not-zero (sym same ∙ w.manifest_file)

  pub next-not-log : logs.log.file ≢ log_file date
  next-not-log =
      let order : IsAscending MayFollow ((w.front ++ m.Opened w.by w.date ∷ []) ++ m.Opened by date ∷ []) = subst (λ (l : List ManifestRecord). IsAscending MayFollow (l ++ m.Opened by date ∷ [])) w.records lawful.in_order in
      let less : w.date <ℤ date = ascending-last MayFollow w.front (m.Opened w.by w.date) (m.Opened by date) order in
      let last : IsRecord (m.Opened w.by w.date) = own-last w.front (m.Opened w.by w.date) (subst IsManifest w.records w.lawful) in
      subst (λ (k : ℕ). k ≢ log_file date) (sym w.log_file) (log-apart w.date date last.1 less)

-- the new date's log is made
module _ (before after : DiskView) (tells : after.tells ≡ before.tells) (logs : DateLogsView) (w : IsWhole logs) (by : ℕ) (date : ℤ) (lawful : IsManifest (logs.manifest.records ++ m.Opened by date ∷ []))
    (moment : IsTrue before.tells → Passes before after (log_file date) (λ _. Unit {0})) where
  told-fresh : IsTrue after.tells → IsTrue before.tells
  told-fresh = subst IsTrue tells

  pub fresh-kept : (schema : List Shape) (first : ℤ) (entries : List Entry) → Stores before logs schema first entries None → Stores after logs schema first entries None
  fresh-kept schema first entries stores = λ t. storing.file-kept before.now logs schema first entries (stores (told-fresh t)) after.now by date lawful (moment (told-fresh t)).others_now

  pub fresh-moment : (schema : List Shape) (first : ℤ) (entries : List Entry) → Stores before logs schema first entries None → IsTrue before.tells → Throughout before after (RestartsAs schema first entries None)
  fresh-moment schema first entries stores t =
      throughout-passes before after (log_file date) (λ _. Unit {0}) (RestartsAs schema first entries None)
      (λ files images spares. storing.restarts-now files logs schema first entries None (storing.file-kept before.now logs schema first entries (stores t) files by date lawful spares))
      (moment t)

  pub fresh-ready : IsReady before logs → IsReady after logs
  fresh-ready ready =
      let others : OthersStay before after (log_file date) = λ t. (moment t).others_now in
      record {
        manifest = gate-stays before after tells (log_file date) others logs.manifest.journal (next-not-manifest logs w by date lawful) ready.manifest;
        log = gate-stays before after tells (log_file date) others logs.log (next-not-log logs w by date lawful) ready.log;
      }

roll-left : (state : State) (schema : List Shape) (n by : ℕ) (date : ℤ) (chunk : Option (List ℕ)) → chunk ≡ None → IsLateChunk schema n (left_of state (e.Roll by date)) chunk
roll-left s.Clean schema n by date chunk is = is
roll-left s.BodyFailed schema n by date chunk is = is
roll-left s.GateFailed schema n by date chunk is = is

roll-record : (state : State) (by : ℕ) (date : ℤ) → late_record (left_of state (e.Roll by date)) ≡ late_of state (payload_of (m.Opened by date))
roll-record s.Clean by date = refl
roll-record s.BodyFailed by date = refl
roll-record s.GateFailed by date = refl

roll-opens : (state : State) (by : ℕ) (date : ℤ) (files : Files) (records : List ManifestRecord) → OpensEmpty files records (Some (e.Roll by date)) → OpensEmpty files records (left_of state (e.Roll by date))
roll-opens s.Clean by date files records h = tt
roll-opens s.BodyFailed by date files records h = tt
roll-opens s.GateFailed by date files records h = h

-- the manifest gains the date
module _ (before after : DiskView) (tells : after.tells ≡ before.tells) (manifest manifest' : ManifestView) (log log' : JournalView) (logs : DateLogsView) (view : (record { manifest = manifest; log = log }) ≡ logs)
    (file : manifest'.journal.file ≡ manifest.journal.file) (by : ℕ) (date : ℤ) (lawful : IsManifest (manifest.records ++ m.Opened by date ∷ [])) (log_is : log'.file ≡ log_file date) (empty : Keeps before log' [] None)
    (moment : partition.Keeps before manifest None → IsTrue before.tells → Passes before after manifest.journal.file (MayRead (payloads_of manifest.records) (Some (payload_of (m.Opened by date))))) where
  abbrev old' : DateLogsView
  old' = record { manifest = manifest; log = log }

  told' : IsTrue after.tells → IsTrue before.tells
  told' = subst IsTrue tells

  opens : IsTrue before.tells → OpensEmpty before.now manifest.records (Some (e.Roll by date))
  opens t = (lawful, λ found is. storing.found-read log' (before.now log'.file) [] None (empty t) found (subst (λ (k : ℕ). IsFound (before.now k) found) (sym log_is) is))

  module _ (schema : List Shape) (first : ℤ) (entries : List Entry) (stores : Stores before logs schema first entries None) where
    opened' : IsTrue before.tells → StoresIn before.now old' schema first entries None
    opened' t = subst (λ (l : DateLogsView). StoresIn before.now l schema first entries None) (sym view) (stores t)

    pub kept-manifest : partition.Keeps before manifest None
    kept-manifest = λ t. let st = opened' t in subst (λ (k : ℕ). Holds manifest.journal (before.now k) (payloads_of manifest.records) None) (sym st.manifest_file) st.manifest

    at-zero : (st : StoresIn before.now old' schema first entries None) → IsTrue before.tells → Passes before after 0 (MayRead (payloads_of manifest.records) (Some (payload_of (m.Opened by date))))
    at-zero st t = subst (λ (k : ℕ). Passes before after k (MayRead (payloads_of manifest.records) (Some (payload_of (m.Opened by date))))) st.manifest_file (moment kept-manifest t)

    pub date-added : manifest'.records ≡ manifest.records ++ m.Opened by date ∷ [] → (partition.Keeps before manifest None → partition.Keeps after manifest' None) → Stores after (record { manifest = manifest'; log = log' }) schema first (entries ++ e.Roll by date ∷ []) None
    date-added records keeps = λ t.
        let st = opened' (told' t) in
        storing.date-grown before.now old' schema first entries st after.now by date manifest' log' (at-zero st (told' t)).others_now lawful records (file ∙ st.manifest_file)
        (subst (λ (k : ℕ). Holds manifest'.journal (after.now k) (payloads_of manifest'.records) None) (file ∙ st.manifest_file) (keeps kept-manifest t)) log_is (empty (told' t))

    pub date-failed : manifest'.records ≡ manifest.records → (partition.Keeps before manifest None → partition.Keeps after manifest' (late_of manifest'.journal.state (payload_of (m.Opened by date))))
        → Stores after (record { manifest = manifest'; log = log }) schema first entries (left_of manifest'.journal.state (e.Roll by date))
    date-failed records keeps = λ t.
        let st = opened' (told' t) in
        let state = manifest'.journal.state in
        storing.manifest-kept before.now old' schema first entries None st after.now (left_of state (e.Roll by date)) manifest' (at-zero st (told' t)).others_now
        (roll-left state schema _ by date st.late_chunk st.is_late) (roll-opens state by date before.now manifest.records (opens (told' t))) records (file ∙ st.manifest_file)
        (subst (λ (l : Option (List ℕ)). Holds manifest'.journal (after.now 0) (payloads_of manifest'.records) l) (sym (roll-record state by date))
        (subst (λ (k : ℕ). Holds manifest'.journal (after.now k) (payloads_of manifest'.records) (late_of state (payload_of (m.Opened by date)))) (file ∙ st.manifest_file) (keeps kept-manifest t)))

    pub date-moment : IsTrue before.tells → Throughout before after (RestartsAs schema first entries (Some (e.Roll by date)))
    date-moment t =
        let st = opened' t in
        throughout-passes before after 0 (MayRead (payloads_of manifest.records) (Some (payload_of (m.Opened by date)))) (RestartsAs schema first entries (Some (e.Roll by date)))
        (λ files images spares. storing.restarts-manifest before.now old' schema first entries None st files (Some (e.Roll by date)) spares st.is_late (opens t) images)
        (at-zero st t)

  pub date-ready : IsWhole old' → OthersStay before after manifest.journal.file → HasLastGate before log' → HasLastGate after manifest'.journal → IsReady after (record { manifest = manifest'; log = log' })
  date-ready whole others empty_gate gate = record {
    manifest = gate;
    log = gate-stays before after tells manifest.journal.file others log' (λ same. next-not-manifest old' whole by date lawful (sym same ∙ log_is)) empty_gate;
  }

  pub date-failed-ready : IsWhole old' → OthersStay before after manifest.journal.file → IsReady before logs → HasLastGate after manifest'.journal → IsReady after (record { manifest = manifest'; log = log })
  date-failed-ready whole others ready gate = record {
    manifest = gate;
    log = gate-stays before after tells manifest.journal.file others log (λ same. whole-apart old' whole (sym same)) (subst (λ (l : DateLogsView). HasLastGate before l.log) (sym view) ready.log);
  }

  pub date-whole : manifest'.records ≡ manifest.records ++ m.Opened by date ∷ [] → manifest.journal.file ≡ 0 → IsWhole (record { manifest = manifest'; log = log' })
  date-whole records zero = record { front = manifest.records; by = by; date = date; records = records; lawful = subst IsManifest (sym records) lawful; manifest_file = file ∙ zero; log_file = log_is }
