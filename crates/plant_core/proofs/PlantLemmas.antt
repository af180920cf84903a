-- What the calls of a plant leave.
use Rattle.std.proofs.Common.{◌≡◌, ◌⊎◌, ⊎_elim, inl, inr, ℕ, ℤ, zero, suc, ◌+◌, ◌+ℤ◌, ◌<◌, ◌≤◌, ◌<ℤ◌, ◌≤ℤ◌, ◌^◌, negsuc, pos, IsTrue, cond, List, [], ◌∷◌, ◌++◌, Option, Some, None, refl, sym, ap, subst, arith}
use Rattle.outside_api.specs.Counts.{counted}
use Rattle.outside_api.specs.Disk.{FileState, DiskView}
use Rattle.day_rows.specs.Chronicle.{date_of, log}
use Rattle.day_rows.specs.Day.{IsUpdate, entry_rows, total_rows}
use Rattle.day_rows.specs.declared.entry.Entry.{Entry}
use Rattle.day_rows.specs.declared.entry.Entry.TheVariants as e
use Rattle.day_rows.specs.declared.schema.Shape.{Shape}
use Rattle.q_values.specs.declared.kind.Kind.{Kind}
use Rattle.std.specs.Cmp.{int_cmp_is, int_chain}
use Rattle.std.specs.Int.Signed.{<ℤ-≤ℤ_trans, <ℤ_irrefl}
use Rattle.std.proofs.lemmas.Int.{by_lt_z}
use Rattle.std.proofs.Math.Dec.{le→leb}
use Rattle.std.proofs.Math.IntN.{+ℤ_one}
use lib.Dec.{ltb→lt}
use Rattle.std.specs.declared.cmp.Ordering.TheVariants.{Less}
use Rattle.tick_log.specs.Chunk.{IsChunk}
use Rattle.partition_set.specs.Records.{IsManifest, IsRecord}
use Rattle.partition_set.specs.declared.record.ManifestRecord.TheVariants as m
use Rattle.date_logs.specs.Laws.{StoredRestarts}
use Rattle.date_logs.specs.Moments.{Throughout, RestartsEither}
use Rattle.date_logs.specs.Restart.{open_rows}
use Rattle.date_logs.specs.Stores.{DateLogsView, Stores, StoresIn, Leaves, IsReady}
use Rattle.plant_memory.specs.Chronicle.{today}
use Rattle.std.specs.Prelude.{Result, Ok, Err, IfOk, OnErr}
use Rattle.q_values.specs.Tree.{Tree}
use Rattle.plant_memory.specs.Memory.{MemoryView, PreparedView, Prepares, due}
use Rattle.plant_memory.specs.declared.refusal.UpdRefusal.{UpdRefusal}
use Rattle.plant_core.specs.Plant.{ShownPlant, StoresLog, LeavesLog, RestartsAllAlong, fault_count, EndsInFault, MayBeLate, IsSound, IsPlant}
use Rattle.plant_core.proofs.LogLemmas.{log-update, log-roll, log-fault, date-update, date-roll, date-fault, ascend-update, ascend-roll, ascend-fault, faults-update, faults-roll, faults-fault, faults-counted, rows-before}
use Rattle.plant_core.proofs.ManifestLemmas.{later-opens, open-lawful}

abbrev pub plant : MemoryView → DateLogsView → DiskView → DiskView → ShownPlant
plant memory logs disk origin = record { memory = memory; logs = logs; disk = disk; origin = origin }

pub sound-of : StoredRestarts → (p : ShownPlant) → IsPlant p → IsSound p
sound-of law p h = record {
  ascend = h.ascend;
  restarts = λ settled tells. (let s = h.stored settled in (s.0, s.1, law p.disk p.logs p.memory.frame.schema p.memory.frame.first (log p.memory.entries) s.0 tells s.2));
  faults = h.faults;
}

-- the room of the manifest has no part in what is stored
room-stores : (files : ℕ → FileState) (logs : DateLogsView) (room : ℕ) (schema : List Shape) (first : ℤ) (entries : List Entry) (late : Option Entry) → StoresIn files logs schema first entries late
    → StoresIn files (record logs { manifest = record logs.manifest { room = room } }) schema first entries late
room-stores files logs room schema first entries late s = record {
  ended = s.ended;
  open_date = s.open_date;
  are = s.are;
  ended_logs = s.ended_logs;
  records = s.records;
  manifest_file = s.manifest_file;
  manifest = s.manifest;
  log_file = s.log_file;
  payloads = s.payloads;
  chunks = s.chunks;
  late_chunk = s.late_chunk;
  is_late = s.is_late;
  log = s.log;
  opens = s.opens;
}

-- the logs are the same but for that room
pub roomy : (logs logs' : DateLogsView) → logs'.manifest.records ≡ logs.manifest.records → logs'.manifest.journal ≡ logs.manifest.journal → logs'.log ≡ logs.log
    → logs' ≡ record logs { manifest = record logs.manifest { room = logs'.manifest.room } }
roomy logs logs' records journal log = λ i. record { manifest = record { journal = journal i; records = records i; room = logs'.manifest.room }; log = log i }

module _ (memory memory' : MemoryView) (disk origin : DiskView) (frame : memory'.frame ≡ memory.frame) (entries : memory'.entries ≡ memory.entries) where
  roomy-plant : (logs : DateLogsView) (room : ℕ) → IsPlant (plant memory logs disk origin) → IsPlant (plant memory' (record logs { manifest = record logs.manifest { room = room } }) disk origin)
  roomy-plant logs room h = record {
    ascend = rw (frame, entries) h.ascend;
    stored = λ settled.
        let s = h.stored settled in
        (s.0, rw entries s.1, λ tells. rw (frame, entries) (room-stores disk.now logs room memory.frame.schema memory.frame.first (log memory.entries) s.0 (s.2 tells)));
    ready = record { manifest = h.ready.manifest; log = h.ready.log };
    lawful = h.lawful;
    latest = rw (frame, entries) h.latest;
    faults = rw entries h.faults;
  }

  -- nothing was added
  pub still : (logs logs' : DateLogsView) → IsPlant (plant memory logs disk origin) → logs'.manifest.records ≡ logs.manifest.records → logs'.manifest.journal ≡ logs.manifest.journal → logs'.log ≡ logs.log → IsPlant (plant memory' logs' disk origin)
  still logs logs' h records journal log =
      subst (λ (l : DateLogsView). IsPlant (plant memory' l disk origin)) (sym (roomy logs logs' records journal log)) (roomy-plant logs logs'.manifest.room h)

  pub still-stores : (logs logs' : DateLogsView) (late : Option Entry) → StoresLog (plant memory logs disk origin) late → logs'.manifest.records ≡ logs.manifest.records → logs'.manifest.journal ≡ logs.manifest.journal → logs'.log ≡ logs.log → StoresLog (plant memory' logs' disk origin) late
  still-stores logs logs' late s records journal own =
      let roomed : StoresLog (plant memory' (record logs { manifest = record logs.manifest { room = logs'.manifest.room } }) disk origin) late =
      λ tells. rw (frame, entries) (room-stores disk.now logs logs'.manifest.room memory.frame.schema memory.frame.first (log memory.entries) late (s tells)) in
      subst (λ (l : DateLogsView). StoresLog (plant memory' l disk origin) late) (sym (roomy logs logs' records journal own)) roomed

-- of what a failed call leaves, one is there
left-one : (P : Option Entry → Type 0) (late : Option Entry) (entry : Entry) (entries : List Entry) → EndsInFault entries → P late ⊎ (P None ⊎ P (Some entry))
    → (l : Option Entry) × MayBeLate entries l × P l
left-one P late entry entries end h =
    ⊎_elim (λ (a : P late). (late, inr end, a))
    (λ (b : P None ⊎ P (Some entry)). ⊎_elim (λ (x : P None). (None, inr end, x)) (λ (y : P (Some entry)). (Some entry, inr end, y)) b) h

-- the update's record fits the log
pub fits : (memory : MemoryView) (update : PreparedView) (chunk : List ℕ) → update.frame ≡ memory.frame → memory.entries ≡ update.entries ++ due update
    → ((before : ℕ) → before + entry_rows update.entry ≤ 4294967295 → IsChunk update.frame.schema before chunk update.entry)
    → cond update.rolls 0 (total_rows (today update.entries)) + entry_rows update.entry ≤ 4294967295 → IsChunk memory.frame.schema (open_rows (log memory.entries)) chunk update.entry
fits memory update chunk frame follows is bounded =
    subst (λ f. IsChunk f.schema (open_rows (log memory.entries)) chunk update.entry) frame
    (is (open_rows (log memory.entries)) (rows-before update.rolls update.by (date_of update.frame.first update.entries) update.entries memory.entries (entry_rows update.entry) follows bounded))

-- an update was written, or the disk failed at it
module _ (memory memory' : MemoryView) (logs logs' : DateLogsView) (disk disk' origin : DiskView) (tables : List (List Kind)) (entry : Entry) (chunk : List ℕ) (frame : memory'.frame ≡ memory.frame)
    (is : IsUpdate tables entry) (fit : IsChunk memory.frame.schema (open_rows (log memory.entries)) chunk entry) where
  abbrev Added : Type 0
  Added = (schema : List Shape) (first : ℤ) (es : List Entry) (late : Option Entry) (x : Entry) → Stores disk logs schema first es late → IsChunk schema (open_rows es) chunk x → Stores disk' logs' schema first (es ++ x ∷ []) None

  abbrev Failed : Type 0
  Failed = (schema : List Shape) (first : ℤ) (es : List Entry) (late : Option Entry) (x : Entry) → Stores disk logs schema first es late → IsChunk schema (open_rows es) chunk x → Leaves disk' logs' schema first es late x

  abbrev Along : Type 0
  Along = (schema : List Shape) (first : ℤ) (es : List Entry) (late : Option Entry) (x : Entry) → Stores disk logs schema first es late → IsChunk schema (open_rows es) chunk x → IsTrue disk.tells → Throughout disk disk' (RestartsEither schema first es late (Some x))

  pub update-stored : memory'.entries ≡ memory.entries ++ entry ∷ [] → Added → (late : Option Entry) → StoresLog (plant memory logs disk origin) late → StoresLog (plant memory' logs' disk' origin) None
  update-stored entries added late s = rw (frame, entries, log-update tables memory.entries entry is) (added memory.frame.schema memory.frame.first (log memory.entries) late entry s fit)

  pub update-along : Along → (late : Option Entry) → StoresLog (plant memory logs disk origin) late → RestartsAllAlong (plant memory logs disk origin) (plant memory' logs' disk' origin) late entry
  update-along along late s = along memory.frame.schema memory.frame.first (log memory.entries) late entry s fit

  pub update-plant : memory'.entries ≡ memory.entries ++ entry ∷ [] → Added → IsReady disk' logs' → logs'.manifest.records ≡ logs.manifest.records → disk'.faults ≡ disk.faults → IsPlant (plant memory logs disk origin) → IsPlant (plant memory' logs' disk' origin)
  update-plant entries added ready records faults h = record {
    ascend = rw (frame, entries) (ascend-update tables memory.frame.first memory.entries entry is h.ascend);
    stored = λ settled. (let s = h.stored settled in (None, inl refl, update-stored entries added s.0 s.2));
    ready = ready;
    lawful = rw records h.lawful;
    latest = rw (records, frame, entries, date-update tables memory.frame.first memory.entries entry is) h.latest;
    faults = rw (entries, faults-update tables memory.entries entry is, faults) h.faults;
  }

  module _ (by : ℕ) (entries : memory'.entries ≡ memory.entries ++ e.Fault by ∷ []) where
    pub update-left : Failed → (late : Option Entry) → StoresLog (plant memory logs disk origin) late → LeavesLog (plant memory' logs' disk' origin) late entry
    update-left failed late s = rw (frame, entries, log-fault memory.entries by) (failed memory.frame.schema memory.frame.first (log memory.entries) late entry s fit)

    pub update-failed : Failed → IsReady disk' logs' → logs'.manifest.records ≡ logs.manifest.records → disk'.faults ≡ counted disk.faults 1 → IsPlant (plant memory logs disk origin) → IsPlant (plant memory' logs' disk' origin)
    update-failed failed ready records faults h = record {
      ascend = rw (frame, entries) (ascend-fault memory.frame.first memory.entries by h.ascend);
      stored = λ settled. (let s = h.stored settled in left-one (StoresLog (plant memory' logs' disk' origin)) s.0 entry memory'.entries (memory.entries, by, entries) (update-left failed s.0 s.2));
      ready = ready;
      lawful = rw records h.lawful;
      latest = rw (records, frame, entries, date-fault memory.frame.first memory.entries by) h.latest;
      faults = rw (entries, faults-fault memory.entries by) (faults-counted origin.faults disk.faults disk'.faults (fault_count memory.entries) h.faults faults);
    }

-- a roll was written, or the disk failed at it
module _ (memory memory' : MemoryView) (logs logs' : DateLogsView) (disk disk' origin : DiskView) (by : ℕ) (date : ℤ) (frame : memory'.frame ≡ memory.frame) where
  abbrev AddedRoll : Type 0
  AddedRoll = (schema : List Shape) (first : ℤ) (es : List Entry) (late : Option Entry) → Stores disk logs schema first es late → Stores disk' logs' schema first (es ++ e.Roll by date ∷ []) None

  abbrev FailedRoll : Type 0
  FailedRoll = (schema : List Shape) (first : ℤ) (es : List Entry) (late : Option Entry) → Stores disk logs schema first es late → Leaves disk' logs' schema first es late (e.Roll by date)

  abbrev AlongRoll : Type 0
  AlongRoll = (schema : List Shape) (first : ℤ) (es : List Entry) (late : Option Entry) → Stores disk logs schema first es late → IsTrue disk.tells → Throughout disk disk' (RestartsEither schema first es late (Some (e.Roll by date)))

  pub roll-stored : memory'.entries ≡ memory.entries ++ e.Roll by date ∷ [] → AddedRoll → (late : Option Entry) → StoresLog (plant memory logs disk origin) late → StoresLog (plant memory' logs' disk' origin) None
  roll-stored entries added late s = rw (frame, entries, log-roll memory.entries by date) (added memory.frame.schema memory.frame.first (log memory.entries) late s)

  pub roll-along : AlongRoll → (late : Option Entry) → StoresLog (plant memory logs disk origin) late → RestartsAllAlong (plant memory logs disk origin) (plant memory' logs' disk' origin) late (e.Roll by date)
  roll-along along late s = along memory.frame.schema memory.frame.first (log memory.entries) late s

  pub roll-plant : memory'.entries ≡ memory.entries ++ e.Roll by date ∷ [] → AddedRoll → IsReady disk' logs' → logs'.manifest.records ≡ logs.manifest.records ++ m.Opened by date ∷ [] → IsManifest (logs.manifest.records ++ m.Opened by date ∷ [])
      → date_of memory.frame.first memory.entries <ℤ date → disk'.faults ≡ disk.faults → IsPlant (plant memory logs disk origin) → IsPlant (plant memory' logs' disk' origin)
  roll-plant entries added ready records lawful later faults h = record {
    ascend = rw (frame, entries) (ascend-roll memory.frame.first memory.entries by date (sym (int_cmp_is (date_of memory.frame.first memory.entries) date Less later)) h.ascend);
    stored = λ settled. (let s = h.stored settled in (None, inl refl, roll-stored entries added s.0 s.2));
    ready = ready;
    lawful = rw records lawful;
    latest = rw (records, frame, entries, date-roll memory.frame.first memory.entries by date) (logs.manifest.records, by, refl);
    faults = rw (entries, faults-roll memory.entries by date, faults) h.faults;
  }

  module _ (entries : memory'.entries ≡ memory.entries ++ e.Fault by ∷ []) where
    pub roll-left : FailedRoll → (late : Option Entry) → StoresLog (plant memory logs disk origin) late → LeavesLog (plant memory' logs' disk' origin) late (e.Roll by date)
    roll-left failed late s = rw (frame, entries, log-fault memory.entries by) (failed memory.frame.schema memory.frame.first (log memory.entries) late s)

    pub roll-failed : FailedRoll → IsReady disk' logs' → logs'.manifest.records ≡ logs.manifest.records → disk'.faults ≡ counted disk.faults 1 → IsPlant (plant memory logs disk origin) → IsPlant (plant memory' logs' disk' origin)
    roll-failed failed ready records faults h = record {
      ascend = rw (frame, entries) (ascend-fault memory.frame.first memory.entries by h.ascend);
      stored = λ settled. (let s = h.stored settled in left-one (StoresLog (plant memory' logs' disk' origin)) s.0 (e.Roll by date) memory'.entries (memory.entries, by, entries) (roll-left failed s.0 s.2));
      ready = ready;
      lawful = rw records h.lawful;
      latest = rw (records, frame, entries, date-fault memory.frame.first memory.entries by) h.latest;
      faults = rw (entries, faults-fault memory.entries by) (faults-counted origin.faults disk.faults disk'.faults (fault_count memory.entries) h.faults faults);
    }

up : (a b c : ℤ) → a ≤ℤ b → b <ℤ c → a ≤ℤ c
up a b c low less = by_lt_z c a (λ (below : c <ℤ a). absurd (<ℤ_irrefl (int_chain c b c (<ℤ-≤ℤ_trans below low) less))) (λ (h : a ≤ℤ c). h)

-- the date that a roll opens may come next
pub next-date : (p : ShownPlant) (by : ℕ) (date : ℤ) → IsPlant p → by + 1 < 2 ^ 64 → date_of p.memory.frame.first p.memory.entries <ℤ date → date ≤ℤ pos 106751 → IsManifest (p.logs.manifest.records ++ m.Opened by date ∷ [])
next-date p by date h few later last =
    let own : IsRecord (m.Opened h.latest.1 (date_of p.memory.frame.first p.memory.entries)) = open-lawful p.logs.manifest.records (date_of p.memory.frame.first p.memory.entries) h.lawful h.latest in
    later-opens p.logs.manifest.records (date_of p.memory.frame.first p.memory.entries) date by h.lawful h.latest later (omega (arith, few)) (up (negsuc 106751) (date_of p.memory.frame.first p.memory.entries) date own.1 later) last

-- the date after one that isn't the last
pub next-last : (d : ℤ) → d <ℤ pos 106751 → (d +ℤ pos 1) ≤ℤ pos 106751
next-last (pos n) less = record { le = le→leb (n + 1) 106751 (omega (arith, ltb→lt n 106751 less.lt)) }
next-last (negsuc zero) less = record { le = tt }
next-last (negsuc (suc n)) less = rw (+ℤ_one (negsuc (suc n))) (record { le = tt })

-- an update that was judged leaves the chronicle
pub judged-same : (r : Result PreparedView UpdRefusal) (old new : MemoryView) (by : ℕ) (table : List ℕ) (items : List Tree) (now : ℤ) → IfOk r (λ update. Prepares old new by table items now update) → OnErr r (new ≡ record old { spare = new.spare })
    → (new.frame ≡ old.frame) × (new.entries ≡ old.entries)
judged-same (Ok update) old new by table items now h e = (ap (λ (m : MemoryView). m.frame) h.after, ap (λ (m : MemoryView). m.entries) h.after)
judged-same (Err why) old new by table items now h e = (ap (λ (m : MemoryView). m.frame) e, ap (λ (m : MemoryView). m.entries) e)
