-- What a load leaves once all dates were read.
use Rattle.std.proofs.Common.{inl, leb→le, Bool, IsTrue, lit<, List, None, Option, Some, [], ap, arith, cond, false, length, map, negsuc, pos, refl, subst, suc, sym, take, true, ℕ, ℤ, ◌++◌, ◌+◌, ◌-◌, ◌<ℤ◌, ◌<◌, ◌^◌, ◌∙◌, ◌∷◌, ◌≡◌, ◌≤ℤ◌}
use Rattle.std.specs.Prelude.{int_lt, unwrap_or, Result, Ok, Err, IfOk}
use Rattle.gated_journal.specs.Journal.{JournalView}
use Rattle.std.proofs.lemmas.List.{append-nil, length-append, length-map}
use Rattle.std.proofs.Math.Seq.{take-length}
use Rattle.outside_api.specs.Disk.{DiskView}
use Rattle.gated_journal.specs.Format.{Reads}
use Rattle.gated_journal.specs.Laws.{ReadsOnce}
use Rattle.day_rows.specs.Chronicle.{date_of, log}
use Rattle.day_rows.specs.declared.entry.Entry.{Entry}
use Rattle.day_rows.specs.declared.entry.Entry.TheVariants as e
use Rattle.day_rows.specs.declared.schema.Shape.{Shape}
use Rattle.partition_set.specs.Records.{payloads_of, payload_of, IsManifest}
use Rattle.partition_set.specs.declared.record.ManifestRecord.{ManifestRecord}
use Rattle.partition_set.specs.declared.record.ManifestRecord.TheVariants as m
use Rattle.date_logs.specs.Restart.{opening, manifest_of, Restarts}
use Rattle.date_logs.specs.Stores.{DateLogsView, Stores, IsReady}
use Rattle.date_loading.specs.Loading.{LoadingView, IsUnderWay, IsLogAfter, loaded_records, loaded_date, ReadIn, AreSettled, AreLogsOf, IsUndated, RestartsSo}
use Rattle.date_loading.specs.Manifests.{tables_of, last_date, IsNotAfter}
use Rattle.partition_set.specs.Manifest.{ManifestView, Keeps}
use Rattle.plant_core.proofs.ManifestLemmas.{first-opens}
use Rattle.std.specs.Int.Signed.{<ℤ_irrefl, lt_z_yes, lt_z_no, ≤ℤ_refl}
use Rattle.std.proofs.lemmas.Float.{T_from_true, T_from_false}
use Rattle.plant_memory.specs.Chronicle.{top_by}
use Rattle.plant_memory.specs.Memory.{MemoryView}
use Rattle.plant_memory.proofs.HistoryLemmas.{top_by-push}
use Rattle.std.specs.Prelude.{max}
use Rattle.plant_core.specs.Load.{files_of, roll_to, IsLoaded, IsSpent}
use Rattle.plant_core.specs.Plant.{StoresLog, IsOpenDate, IsPlant}
use Rattle.plant_core.specs.Progress.{HasRead, IsLoading, plant_of, IsWhole}
use Rattle.plant_core.proofs.LogLemmas.{date-roll}
use Rattle.plant_core.proofs.PlantLemmas.{still, still-stores, roll-plant, roll-stored, next-date}
use Rattle.plant_core.proofs.ReadLemmas.{none_some, some_same, log-faultless}

-- ---- the date

le-both : (a b : ℤ) → a ≤ℤ b → b ≤ℤ a → a ≡ b
le-both (pos m) (pos n) h i = let same : m ≡ n = omega (arith, leb→le m n h.le, leb→le n m i.le) in ap pos same
le-both (pos m) (negsuc n) h i = absurd h.le
le-both (negsuc m) (pos n) h i = absurd i.le
le-both (negsuc m) (negsuc n) h i = let same : m ≡ n = omega (arith, leb→le n m h.le, leb→le m n i.le) in ap negsuc same

date-if : (rolls : Bool) (first : ℤ) (es : List Entry) (date : ℤ) → int_lt (date_of first es) date ≡ rolls → date_of first es ≤ℤ date → date_of first (es ++ cond rolls (e.Roll 0 date ∷ []) []) ≡ date
date-if true first es date is not_after = date-roll first es 0 date
date-if false first es date is not_after =
    let reached : date ≤ℤ date_of first es = lt_z_no (T_from_false (int_lt (date_of first es) date) is) in
    ap (date_of first) (append-nil es) ∙ le-both (date_of first es) date not_after reached

-- the roll of a load, if there is one, opens this date
date-rolled : (first : ℤ) (es : List Entry) (date : ℤ) → date_of first es ≤ℤ date → date_of first (es ++ roll_to (date_of first es) date) ≡ date
date-rolled first es date not_after = date-if (int_lt (date_of first es) date) first es date refl not_after

-- ---- the end

last-push : (front : List ManifestRecord) (by : ℕ) (date : ℤ) → last_date (front ++ m.Opened by date ∷ []) ≡ Some date
last-push [] by date = refl
last-push (m.Shape shape ∷ front) by date = last-push front by date
last-push (m.Opened by' date' ∷ front) by date = ap (λ o. Some (unwrap_or o date')) (last-push front by date)

whole-take : (xs : List ManifestRecord) (n : ℕ) → n ≡ length xs → take n xs ≡ xs
whole-take xs n all = ap (λ k. take k xs) all ∙ take-length xs

module _ (loading : LoadingView) (date : ℤ) (way : IsUnderWay loading) (all : loading.next ≡ length loading.manifest.records) (last : loaded_date loading ≡ Some date) where
  whole : loaded_records loading ≡ loading.manifest.records
  whole = whole-take loading.manifest.records loading.next all

  open-of : (log : Option JournalView) → IsLogAfter (loaded_records loading) log → IsOpenDate loading.manifest.records date
  open-of None h = none_some date (sym h ∙ last)
  open-of (Some log) h =
      let same : h.2 ≡ date = some_same (sym (last-push h.0 h.1 h.2) ∙ ap last_date (sym h.3) ∙ last) in
      (h.0, h.1, sym whole ∙ h.3 ∙ (λ i. h.0 ++ m.Opened h.1 (same i) ∷ []))

  pub open-date : IsOpenDate loading.manifest.records date
  open-date = open-of loading.log way.log

module _ (origin disk : DiskView) (date : ℤ) (loading : LoadingView) (memory : MemoryView) (h : IsLoading origin disk date loading memory) (all : loading.next ≡ length loading.manifest.records) where
  -- the plant that was read
  pub whole-of : (logs : DateLogsView) → AreLogsOf loading logs → IsWhole origin disk memory logs
  whole-of logs are =
      let stored : AreSettled origin → StoresLog (plant_of memory logs disk origin) None = λ settled.
      rw (log-faultless memory.entries h.faultless, h.entries) (are.stored disk memory.frame.schema memory.frame.first (h.earliest ∷ h.later) (h.read.loaded settled) h.begins) in
      record {
        plant = record {
          ascend = h.ascend;
          stored = λ settled. (None, inl refl, stored settled);
          ready = are.ready disk h.read.gates;
          lawful = rw are.manifest h.read.under_way.lawful;
          latest = rw are.manifest (open-date loading (date_of memory.frame.first memory.entries) h.read.under_way all h.last);
          faults = rw (h.faultless, h.read.same.faults) (omega arith);
        };
        stored = stored;
      }

  -- no later date was opened
  pub not-after : date_of memory.frame.first memory.entries ≤ℤ date
  not-after = subst (λ o. IsNotAfter o date) (sym (ap last_date (whole-take loading.manifest.records loading.next all)) ∙ h.last) h.read.not_after

  -- so the roll, if there is one, opens this date
  pub opened-of : (memory' : MemoryView) → memory'.frame ≡ memory.frame → memory'.entries ≡ memory.entries ++ roll_to (date_of memory.frame.first memory.entries) date → date_of memory'.frame.first memory'.entries ≡ date
  opened-of memory' frame entries = rw (frame, entries) (date-rolled memory.frame.first memory.entries date not-after)

  module _ (so : RestartsSo loading) (told : IsTrue origin.tells) where
    told-disk : IsTrue disk.tells
    told-disk = subst IsTrue (sym h.read.same.tells) told

    reads : ReadIn disk.now loading memory.frame.schema (h.earliest ∷ h.later)
    reads = h.read.read told-disk

    pub restarts-kept : Restarts memory.frame.schema memory.frame.first (files_of origin) memory.entries
    restarts-kept =
        let files : (λ k. (disk.now k).bytes) ≡ files_of origin = λ i k. h.read.same.bytes told k i in
        rw (h.entries, ← files) (so disk memory.frame.schema memory.frame.first (h.earliest ∷ h.later) h.read.read h.begins told-disk)

    -- a manifest of tables alone has no date
    dated : ReadsOnce → Reads (origin.now 0).bytes (payloads_of (map m.Shape memory.frame.schema)) → ⊥
    dated once undated =
        let own : Reads (origin.now 0).bytes (payloads_of loading.manifest.records) = subst (λ b. Reads b (payloads_of loading.manifest.records)) (h.read.same.bytes told 0) reads.manifest in
        let same : payloads_of loading.manifest.records ≡ payloads_of (map m.Shape memory.frame.schema) = once (origin.now 0).bytes (payloads_of loading.manifest.records) (payloads_of (map m.Shape memory.frame.schema)) own undated in
        let whole' : loading.manifest.records ≡ manifest_of memory.frame.schema (h.earliest ∷ h.later) = sym (whole-take loading.manifest.records loading.next all) ∙ reads.records in
        let tables = map m.Shape memory.frame.schema in
        let dates = map opening (h.earliest ∷ h.later) in
        let long : length loading.manifest.records ≡ length tables + length dates = ap length whole' ∙ length-append tables dates in
        let short : length loading.manifest.records ≡ length tables = sym (length-map loading.manifest.records payload_of) ∙ ap length same ∙ length-map tables payload_of in
        let some : length dates ≡ suc (length (map opening h.later)) = refl in
        omega (arith, long, short, some)

    pub loaded-of : ReadsOnce → (memory' : MemoryView) → memory'.frame ≡ memory.frame → memory'.entries ≡ memory.entries ++ roll_to (date_of memory.frame.first memory.entries) date → top_by memory.entries + 2 < 2 ^ 64
        → IsLoaded origin memory'.frame.schema date memory'
    loaded-of once memory' frame entries few = record {
      kept = memory.entries;
      restarts = rw frame restarts-kept;
      not_after = rw frame not-after;
      few = few;
      entries = rw frame entries;
      begun = λ undated. absurd (dated once (rw frame at undated));
    }

    pub spent-of : top_by memory.entries ≡ 2 ^ 64 - 2 → IsSpent origin memory.frame.schema date
    spent-of spent = record {
      first = memory.frame.first;
      kept = memory.entries;
      restarts = restarts-kept;
      not_after = not-after;
      spent = spent;
    }

-- the roll of a load
pub roll-whole : (origin disk disk' : DiskView) (memory memory' : MemoryView) (logs mid logs' : DateLogsView) (date : ℤ) → IsWhole origin disk memory logs → mid.manifest.records ≡ logs.manifest.records → mid.manifest.journal ≡ logs.manifest.journal → mid.log ≡ logs.log
    → memory'.frame ≡ memory.frame → memory'.entries ≡ memory.entries ++ e.Roll 0 date ∷ []
    → ((schema : List Shape) (first : ℤ) (es : List Entry) (late : Option Entry) → Stores disk mid schema first es late → Stores disk' logs' schema first (es ++ e.Roll 0 date ∷ []) None)
    → IsReady disk' logs' → logs'.manifest.records ≡ mid.manifest.records ++ m.Opened 0 date ∷ [] → date_of memory.frame.first memory.entries <ℤ date → date ≤ℤ pos 106751 → disk'.faults ≡ disk.faults → IsWhole origin disk' memory' logs'
roll-whole origin disk disk' memory memory' logs mid logs' date whole records journal log frame entries added ready opened later last faults =
    let before : IsPlant (plant_of memory mid disk origin) = still memory memory disk origin refl refl logs mid whole.plant records journal log in
    record {
      plant = roll-plant memory memory' mid logs' disk disk' origin 0 date frame entries added ready opened (next-date (plant_of memory mid disk origin) 0 date before (omega arith) later last) later faults before;
      stored = λ settled. roll-stored memory memory' mid logs' disk disk' origin 0 date frame entries added None (still-stores memory memory disk origin refl refl logs mid None (whole.stored settled) records journal log);
    }

-- three facts of an answer give a fourth
pub ok-three : {T E : Type 0} (r : Result T E) (P Q R S : T → Type 0) → ((x : T) → P x → Q x → R x → S x) → IfOk r P → IfOk r Q → IfOk r R → IfOk r S
ok-three (Ok x) P Q R S f p q r = f x p q r
ok-three (Err why) P Q R S f p q r = tt

-- ---- a plant without dates

no_less : (d : ℤ) → int_lt d d ≡ false
no_less d = elim (int_lt d d) as (λ b. int_lt d d ≡ b → b ≡ false) [ true ↦ λ h. absurd (<ℤ_irrefl {a = d} (lt_z_yes (T_from_true (int_lt d d) h))) | false ↦ λ h. refl ] refl

roll-none : (date : ℤ) → roll_to date date ≡ []
roll-none date = rw (no_less date) refl

module _ (origin disk : DiskView) (date : ℤ) (loading : LoadingView) (schema : List Shape) (h : HasRead origin disk date loading schema []) (manifest manifest' : ManifestView) (is : IsUndated loading manifest)
    (records : manifest'.records ≡ manifest.records) (journal : manifest'.journal ≡ manifest.journal) where
  pub undated-tables : manifest'.records ≡ map m.Shape schema
  undated-tables = records ∙ is.records ∙ ap (λ (v : ManifestView). map m.Shape (tables_of v.records)) is.same ∙ ap (map m.Shape) h.tables

  undated-lawful : IsManifest manifest'.records
  undated-lawful = rw (records, is.same) h.under_way.lawful

  pub undated-opens : negsuc 106751 ≤ℤ date → date ≤ℤ pos 106751 → IsManifest (manifest'.records ++ m.Opened 0 date ∷ [])
  undated-opens from to = first-opens manifest'.records schema 0 date undated-lawful undated-tables (omega arith) from to

  undated-kept : AreSettled origin → Keeps disk manifest' None
  undated-kept settled = λ told. rw (records, journal) (is.kept disk schema [] (h.loaded settled) told)

  pub begin-whole : (memory : MemoryView) (logs : DateLogsView) (disk' : DiskView) → memory.frame.schema ≡ schema → memory.frame.first ≡ date → memory.entries ≡ [] → negsuc 106751 ≤ℤ date → date ≤ℤ pos 106751
      → ((tables : List Shape) → manifest'.records ≡ map m.Shape tables → Keeps disk manifest' None → Stores disk' logs tables date [] None) → IsReady disk' logs → logs.manifest.records ≡ manifest'.records ++ m.Opened 0 date ∷ []
      → disk'.faults ≡ disk.faults → IsWhole origin disk' memory logs
  begin-whole memory logs disk' tables first entries from to begun ready opened faults =
      let stored : AreSettled origin → StoresLog (plant_of memory logs disk' origin) None = λ settled. rw (tables, first, entries) (begun schema undated-tables (undated-kept settled)) in
      record {
        plant = record {
          ascend = rw entries tt;
          stored = λ settled. (None, inl refl, stored settled);
          ready = ready;
          lawful = rw opened (undated-opens from to);
          latest = rw (opened, entries, first) (manifest'.records, 0, refl);
          faults = rw (entries, faults, h.same.faults) (omega arith);
        };
        stored = stored;
      }

  pub begin-loaded : (memory : MemoryView) → memory.frame.schema ≡ schema → memory.frame.first ≡ date → memory.entries ≡ [] → RestartsSo loading → IsTrue origin.tells → IsLoaded origin memory.frame.schema date memory
  begin-loaded memory tables first entries so told =
      let told-disk : IsTrue disk.tells = subst IsTrue (sym h.same.tells) told in
      let files : (λ k. (disk.now k).bytes) ≡ files_of origin = λ i k. h.same.bytes told k i in
      record {
        kept = [];
        restarts = rw (tables, ← files) (so disk schema memory.frame.first [] h.read tt told-disk);
        not_after = rw first (≤ℤ_refl date);
        few = lit< tt;
        entries = rw (entries, first, roll-none date) refl;
        begun = λ undated. first;
      }

-- ---- the numbers of passes

top-if : (rolls : Bool) (es : List Entry) (date : ℤ) → top_by (es ++ cond rolls (e.Roll 0 date ∷ []) []) ≡ top_by es
top-if true es date = let same : max (top_by es) 0 ≡ top_by es = omega arith in top_by-push es (e.Roll 0 date) ∙ same
top-if false es date = ap top_by (append-nil es)

top-roll : (es : List Entry) (latest date : ℤ) → top_by (es ++ roll_to latest date) ≡ top_by es
top-roll es latest date = top-if (int_lt latest date) es date

-- the roll of a load leaves the greatest number
pub top-loaded : {E B : Type 0} (r : Result (MemoryView × B) E) (memory : MemoryView) (date : ℤ) → top_by memory.entries + 2 < 2 ^ 64 → IfOk r (λ x. x.0.entries ≡ memory.entries ++ roll_to (date_of memory.frame.first memory.entries) date)
    → IfOk r (λ x. top_by x.0.entries + 2 < 2 ^ 64)
top-loaded (Ok x) memory date few entries = omega (arith, few, ap top_by entries, top-roll memory.entries (date_of memory.frame.first memory.entries) date)
top-loaded (Err why) memory date few entries = tt
