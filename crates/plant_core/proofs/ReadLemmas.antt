-- What the reading of dates leaves.
use Rattle.std.proofs.Common.{IsTrue, List, None, Some, [], ap, append_assoc, arith, drop, refl, subst, suc, sym, take, zero, ℕ, ℤ, ◌++◌, ◌+◌, ◌<ℤ◌, ◌∙◌, ◌∷◌, ◌≡◌}
use Rattle.std.specs.Prelude.{slice_get, Result, Ok, Err, IfErr}
use Rattle.std.specs.List.{AllByRecursion}
use Rattle.std.proofs.lemmas.List.{append-nil}
use Rattle.outside_api.specs.Disk.{FileState, DiskView}
use Rattle.gated_journal.specs.Format.{Reads}
use Rattle.day_rows.specs.Chronicle.{date_of, log, DatesAscend}
use Rattle.day_rows.specs.Day.{IsUpdate}
use Rattle.day_rows.specs.declared.entry.Entry.{Entry}
use Rattle.day_rows.specs.declared.entry.Entry.TheVariants as e
use Rattle.day_rows.specs.declared.schema.Shape.{Shape}
use Rattle.q_values.specs.declared.kind.Kind.{Kind}
use Rattle.partition_set.specs.Records.{payloads_of}
use Rattle.partition_set.specs.declared.record.ManifestRecord.TheVariants as m
use Rattle.date_logs.specs.Restart.{log_file, Dated, rolled, entries_of, LogHolds}
use Rattle.date_logs.proofs.Dates.{rolled-append}
use Rattle.date_loading.specs.Loading.{LoadingView, IsUnderWay, loaded_date, ReadIn, Read, Loaded, HasGates, ReadsAsBefore, AreSettled}
use Rattle.date_loading.specs.Manifests.{tables_of, last_date, IsNotAfter}
use Rattle.date_loading.specs.Loading.{NextRefuses}
use Rattle.date_loading.specs.Refusals.{IsDamagedLog}
use Rattle.partition_set.specs.Manifest.{ManifestView}
use Rattle.gated_journal.specs.declared.state.State.TheVariants as s
use Rattle.date_loading.specs.declared.refusal.LoadRefusal.{LoadRefusal}
use Rattle.date_loading.specs.declared.refusal.LoadRefusal.TheVariants as l
use Rattle.plant_memory.specs.Memory.{MemoryView}
use Rattle.plant_core.specs.Load.{IsDamagedAt, LoadRefuses, LeavesFiles}
use Rattle.plant_core.specs.Plant.{fault_count}
use Rattle.plant_core.specs.Progress.{IsSame, HasRead, IsLoading}
use Rattle.plant_core.proofs.LogLemmas.{date-roll, ascend-roll, faults-roll}
use Rattle.std.specs.Cmp.{int_cmp_is}
use Rattle.std.specs.declared.cmp.Ordering.TheVariants.{Less}

pub none_some : {X : Type 0} {P : Type 0} (x : X) → None ≡ Some x → P
none_some x h = absurd cc

pub some_same : {X : Type 0} {a b : X} → Some a ≡ Some b → a ≡ b
some_same h = cc

-- ---- updates at the end

date-updates : (tables : List (List Kind)) (first : ℤ) (es us : List Entry) → AllByRecursion (IsUpdate tables) us → date_of first (es ++ us) ≡ date_of first es
date-updates tables first [] [] all = refl
date-updates tables first [] (e.Upd by table columns ∷ us) all = date-updates tables first [] us all.1
date-updates tables first [] (e.Roll by date ∷ us) all = absurd all.0
date-updates tables first [] (e.Fault by ∷ us) all = absurd all.0
date-updates tables first (e.Upd by table columns ∷ es) us all = date-updates tables first es us all
date-updates tables first (e.Roll by date ∷ es) us all = date-updates tables date es us all
date-updates tables first (e.Fault by ∷ es) us all = date-updates tables first es us all

ascend-updates : (tables : List (List Kind)) (first : ℤ) (es us : List Entry) → AllByRecursion (IsUpdate tables) us → DatesAscend first es → DatesAscend first (es ++ us)
ascend-updates tables first [] [] all up = tt
ascend-updates tables first [] (e.Upd by table columns ∷ us) all up = ascend-updates tables first [] us all.1 tt
ascend-updates tables first [] (e.Roll by date ∷ us) all up = absurd all.0
ascend-updates tables first [] (e.Fault by ∷ us) all up = absurd all.0
ascend-updates tables first (e.Upd by table columns ∷ es) us all up = ascend-updates tables first es us all up
ascend-updates tables first (e.Roll by date ∷ es) us all up = (up.0, ascend-updates tables date es us all up.1)
ascend-updates tables first (e.Fault by ∷ es) us all up = ascend-updates tables first es us all up

faults-updates : (tables : List (List Kind)) (es us : List Entry) → AllByRecursion (IsUpdate tables) us → fault_count (es ++ us) ≡ fault_count es
faults-updates tables [] [] all = refl
faults-updates tables [] (e.Upd by table columns ∷ us) all = faults-updates tables [] us all.1
faults-updates tables [] (e.Roll by date ∷ us) all = absurd all.0
faults-updates tables [] (e.Fault by ∷ us) all = absurd all.0
faults-updates tables (e.Upd by table columns ∷ es) us all = faults-updates tables es us all
faults-updates tables (e.Roll by date ∷ es) us all = faults-updates tables es us all
faults-updates tables (e.Fault by ∷ es) us all = ap (λ n. n + 1) (faults-updates tables es us all)

-- without faults the chronicle is its log
pub log-faultless : (es : List Entry) → fault_count es ≡ 0 → log es ≡ es
log-faultless [] none = refl
log-faultless (e.Upd by table columns ∷ es) none = ap (λ l. e.Upd by table columns ∷ l) (log-faultless es none)
log-faultless (e.Roll by date ∷ es) none = ap (λ l. e.Roll by date ∷ l) (log-faultless es none)
log-faultless (e.Fault by ∷ es) none = absurd (let more : fault_count es + 1 ≡ 0 = none in omega (arith, more))

-- ---- the entries of dates

entries-one : (d : Dated) → entries_of (d ∷ []) ≡ d.updates
entries-one d = append-nil d.updates

entries-next : (d : Dated) (ds : List Dated) (x : Dated) → entries_of ((d ∷ ds) ++ x ∷ []) ≡ (entries_of (d ∷ ds) ++ e.Roll x.by x.date ∷ []) ++ x.updates
entries-next d ds x =
    ap (λ l. d.updates ++ l) (rolled-append ds (x ∷ []))
    ∙ sym (append_assoc d.updates (rolled ds) (rolled (x ∷ [])))
    ∙ ap (λ l. (d.updates ++ rolled ds) ++ e.Roll x.by x.date ∷ l) (append-nil x.updates)
    ∙ sym (append_assoc (d.updates ++ rolled ds) (e.Roll x.by x.date ∷ []) x.updates)

-- ---- the files

-- what one call leaves as it was, the load leaves
pub reads-on : (origin disk disk' : DiskView) → IsSame origin disk → ReadsAsBefore disk disk' → ReadsAsBefore origin disk'
reads-on origin disk disk' same bytes = λ told k. bytes (subst IsTrue (sym same.tells) told) k ∙ same.bytes told k

pub leaves-any : (old new : DiskView) (why : LoadRefusal) → ReadsAsBefore old new → LeavesFiles old new why
leaves-any old new (l.BadManifest bytes) same = same
leaves-any old new (l.SchemaDiffers table kept given) same = same
leaves-any old new (l.EarlierDate kept) same = same
leaves-any old new (l.CorruptLog day chunks bytes) same = same
leaves-any old new l.DiskFault same = tt
leaves-any old new l.NumbersSpent same = same
leaves-any old new l.NoMemory same = same

leaves-on : (origin disk disk' : DiskView) (why : LoadRefusal) → IsSame origin disk → LeavesFiles disk disk' why → LeavesFiles origin disk' why
leaves-on origin disk disk' (l.BadManifest bytes) same h = reads-on origin disk disk' same h
leaves-on origin disk disk' (l.SchemaDiffers table kept given) same h = reads-on origin disk disk' same h
leaves-on origin disk disk' (l.EarlierDate kept) same h = reads-on origin disk disk' same h
leaves-on origin disk disk' (l.CorruptLog day chunks bytes) same h = reads-on origin disk disk' same h
leaves-on origin disk disk' l.DiskFault same h = tt
leaves-on origin disk disk' l.NumbersSpent same h = reads-on origin disk disk' same h
leaves-on origin disk disk' l.NoMemory same h = reads-on origin disk disk' same h

pub all-leave : {T : Type 0} (r : Result T LoadRefusal) (origin disk disk' : DiskView) → IsSame origin disk → IfErr r (LeavesFiles disk disk') → IfErr r (LeavesFiles origin disk')
all-leave (Ok x) origin disk disk' same h = tt
all-leave (Err why) origin disk disk' same h = leaves-on origin disk disk' why same h

-- ---- the first call

pub opened-read : (origin disk : DiskView) (date : ℤ) (loading : LoadingView) (schema : List Shape) → disk.faults ≡ origin.faults → disk.tells ≡ origin.tells → ReadsAsBefore origin disk → Read disk loading schema [] → (AreSettled origin → Loaded disk loading schema [])
    → HasGates disk loading → tables_of loading.manifest.records ≡ schema → IsNotAfter (last_date loading.manifest.records) date → IsUnderWay loading → loading.manifest.journal.state ≡ s.Clean → HasRead origin disk date loading schema []
opened-read origin disk date loading schema faults tells bytes read loaded gates tables not_after way clean = record {
  same = record { bytes = bytes; tells = tells; faults = faults };
  read = read;
  loaded = loaded;
  gates = gates;
  tables = tables;
  not_after = not_after;
  under_way = way;
  clean = clean;
}

-- nothing more was read
pub has-same : (origin disk disk' : DiskView) (date : ℤ) (loading loading' : LoadingView) (schema : List Shape) (dates : List Dated) → HasRead origin disk date loading schema dates → disk' ≡ disk → loading' ≡ loading → HasRead origin disk' date loading' schema dates
has-same origin disk disk' date loading loading' schema dates h same way = rw (same, way) h

-- ---- one date more

pub has-more : (origin disk disk' : DiskView) (date : ℤ) (loading loading' : LoadingView) (schema : List Shape) (dates : List Dated) (x : Dated) → HasRead origin disk date loading schema dates → disk'.faults ≡ disk.faults → disk'.tells ≡ disk.tells
    → ReadsAsBefore disk disk' → ((ds : List Dated) → Read disk loading schema ds → Read disk' loading' schema (ds ++ x ∷ [])) → ((ds : List Dated) → Loaded disk loading schema ds → Loaded disk' loading' schema (ds ++ x ∷ []))
    → (HasGates disk loading → HasGates disk' loading') → loading'.manifest ≡ loading.manifest → IsUnderWay loading' → HasRead origin disk' date loading' schema (dates ++ x ∷ [])
has-more origin disk disk' date loading loading' schema dates x h faults tells bytes read loaded gates manifest way = record {
  same = record {
    bytes = λ told k. bytes (subst IsTrue (sym h.same.tells) told) k ∙ h.same.bytes told k;
    tells = tells ∙ h.same.tells;
    faults = faults ∙ h.same.faults;
  };
  read = read dates h.read;
  loaded = λ settled. loaded dates (h.loaded settled);
  gates = gates h.gates;
  tables = ap (λ (v : ManifestView). tables_of v.records) manifest ∙ h.tables;
  not_after = subst (λ (v : ManifestView). IsNotAfter (last_date v.records) date) (sym manifest) h.not_after;
  under_way = way;
  clean = ap (λ (v : ManifestView). v.journal.state) manifest ∙ h.clean;
}

-- the first date
pub loading-first : (tables : List (List Kind)) (origin disk : DiskView) (date : ℤ) (loading : LoadingView) (memory : MemoryView) (x : Dated) → HasRead origin disk date loading memory.frame.schema (x ∷ []) → loaded_date loading ≡ Some x.date → memory.frame.first ≡ x.date
    → memory.entries ≡ x.updates → AllByRecursion (IsUpdate tables) x.updates → IsLoading origin disk date loading memory
loading-first tables origin disk date loading memory x h last first entries all = record {
  earliest = x;
  later = [];
  read = h;
  entries = entries ∙ sym (entries-one x);
  begins = sym first;
  last = rw (entries, first, date-updates tables x.date [] x.updates all) last;
  ascend = rw entries (ascend-updates tables memory.frame.first [] x.updates all tt);
  faultless = rw entries (faults-updates tables [] x.updates all);
}

-- a later date
pub loading-more : (tables : List (List Kind)) (origin disk disk' : DiskView) (date : ℤ) (loading loading' : LoadingView) (memory memory' : MemoryView) (x : Dated) → (h : IsLoading origin disk date loading memory)
    → HasRead origin disk' date loading' memory.frame.schema ((h.earliest ∷ h.later) ++ x ∷ []) → loaded_date loading' ≡ Some x.date → date_of memory.frame.first memory.entries <ℤ x.date → memory'.frame ≡ memory.frame
    → memory'.entries ≡ (memory.entries ++ e.Roll x.by x.date ∷ []) ++ x.updates → AllByRecursion (IsUpdate tables) x.updates → IsLoading origin disk' date loading' memory'
loading-more tables origin disk disk' date loading loading' memory memory' x h more last less frame entries all =
    let rolled' = memory.entries ++ e.Roll x.by x.date ∷ [] in
    record {
      earliest = h.earliest;
      later = h.later ++ x ∷ [];
      read = rw frame more;
      entries = entries ∙ ap (λ l. (l ++ e.Roll x.by x.date ∷ []) ++ x.updates) h.entries ∙ sym (entries-next h.earliest h.later x);
      begins = rw frame h.begins;
      last = rw (frame, entries, date-updates tables memory.frame.first rolled' x.updates all, date-roll memory.frame.first memory.entries x.by x.date) last;
      ascend = rw (frame, entries) (ascend-updates tables memory.frame.first rolled' x.updates all (ascend-roll memory.frame.first memory.entries x.by x.date (sym (int_cmp_is (date_of memory.frame.first memory.entries) x.date Less less)) h.ascend));
      faultless = rw (entries, faults-updates tables rolled' x.updates all, faults-roll memory.entries x.by x.date) h.faultless;
    }

-- ---- a log that refuses

split-at : {X : Type 0} (xs : List X) (i : ℕ) (x : X) → slice_get xs i ≡ Some x → xs ≡ take i xs ++ x ∷ drop (suc i) xs
split-at [] i x at = none_some x at
split-at (y ∷ ys) zero x at = ap (λ z. z ∷ ys) (some_same at)
split-at (y ∷ ys) (suc i) x at = ap (λ l. y ∷ l) (split-at ys i x at)

reads-back : (schema : List Shape) (files files' : ℕ → FileState) (dates : List Dated) → ((k : ℕ) → (files k).bytes ≡ (files' k).bytes) → AllByRecursion (λ d. LogHolds schema (files (log_file d.date)).bytes d.updates) dates
    → AllByRecursion (λ d. LogHolds schema (files' (log_file d.date)).bytes d.updates) dates
reads-back schema files files' [] same all = tt
reads-back schema files files' (d ∷ dates) same all = (subst (λ b. LogHolds schema b d.updates) (same (log_file d.date)) all.0, reads-back schema files files' dates same all.1)

module _ (origin disk : DiskView) (date : ℤ) (loading : LoadingView) (schema : List Shape) (dates : List Dated) (h : HasRead origin disk date loading schema dates) where
  told-now : IsTrue origin.tells → IsTrue disk.tells
  told-now told = subst IsTrue (sym h.same.tells) told

  damaged-at : (by : ℕ) (day day' : ℤ) (chunks bytes : ℕ) → slice_get loading.manifest.records loading.next ≡ Some (m.Opened by day) → day' ≡ day
      → (IsTrue disk.tells → IsDamagedLog schema (disk.now (log_file day)).bytes chunks bytes) → IsTrue origin.tells → IsDamagedAt origin schema date day' chunks bytes
  damaged-at by day day' chunks bytes at same bad told =
      let r : ReadIn disk.now loading schema dates = h.read (told-now told) in
      let back : day ≡ day' = sym same in
      record {
        records = loading.manifest.records;
        has = record { reads = subst (λ b. Reads b (payloads_of loading.manifest.records)) (h.same.bytes told 0) r.manifest; lawful = h.under_way.lawful };
        tables = h.tables;
        not_after = h.not_after;
        before = dates;
        by = by;
        rest = drop (suc loading.next) loading.manifest.records;
        split = split-at loading.manifest.records loading.next (m.Opened by day) at ∙ (λ i. r.records i ++ m.Opened by (back i) ∷ drop (suc loading.next) loading.manifest.records);
        whole = reads-back schema disk.now origin.now dates (h.same.bytes told) r.logs;
        damaged = rw same (subst (λ b. IsDamagedLog schema b chunks bytes) (h.same.bytes told (log_file day)) (bad (told-now told)));
      }

  -- the next date refuses
  pub next-refused : (why : LoadRefusal) → NextRefuses disk loading schema why → LoadRefuses origin schema date why
  next-refused (l.BadManifest bytes) refused = absurd refused.3
  next-refused (l.SchemaDiffers table kept given) refused = absurd refused.3
  next-refused (l.EarlierDate kept) refused = absurd refused.3
  next-refused (l.CorruptLog day chunks bytes) refused = damaged-at refused.0 refused.1 day chunks bytes refused.2 refused.3.0 refused.3.1
  next-refused l.DiskFault refused = tt
  next-refused l.NumbersSpent refused = absurd refused.3
  next-refused l.NoMemory refused = tt
