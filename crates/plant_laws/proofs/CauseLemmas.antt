-- Why a disk that is loaded is refused for no cause.
use Rattle.std.proofs.Common.{leb→le, ltb→lt, pos, negsuc, ◌≡◌, ◌⊎◌, inl, inr, ⊎_elim, append_assoc, ◌<◌, ◌+◌, ◌^◌, ◌<ℤ◌, ◌≤ℤ◌, ℕ, ℤ, List, [], ◌∷◌, ◌++◌, map, Some, None, IsTrue, refl, sym, ap, ◌∙◌, subst, arith}
use Rattle.std.specs.Prelude.{unwrap_or}
use Rattle.std.specs.List.{AllByRecursion}
use Rattle.outside_api.specs.Disk.{DiskView}
use Rattle.day_rows.specs.Chronicle.{date_of}
use Rattle.day_rows.specs.Schema.{IsSchema}
use Rattle.day_rows.specs.declared.entry.Entry.{Entry}
use Rattle.day_rows.specs.declared.entry.Entry.TheVariants as e
use Rattle.day_rows.specs.declared.schema.Shape.{Shape}
use Rattle.tick_log.specs.Replay.{AreChunks}
use Rattle.day_rows.specs.Day.{entry_rows}
use Rattle.partition_set.specs.Laws as parts
use Rattle.partition_set.specs.declared.record.ManifestRecord.{ManifestRecord}
use Rattle.partition_set.specs.declared.record.ManifestRecord.TheVariants as m
use Rattle.date_logs.specs.Laws.{RestartsOnce}
use Rattle.date_logs.specs.Restart.{log_file, Dated, opening, manifest_of, rolled, entries_of, BeginsAt, LogHolds, Restarts}
use Rattle.date_loading.specs.Differences.{DifferFirst}
use Rattle.date_loading.specs.Laws.{OneManifest, OneDifference, NoDifference, NeverDamaged}
use Rattle.date_loading.specs.Manifests.{HasRecords, tables_of, last_date, IsNotAfter}
use Rattle.date_loading.specs.Refusals.{IsDamagedLog}
use Rattle.date_loading.specs.declared.refusal.LoadRefusal.{LoadRefusal}
use Rattle.date_loading.specs.declared.refusal.LoadRefusal.TheVariants as l
use Rattle.plant_memory.specs.Chronicle.{top_by}
use Rattle.plant_core.specs.Load.{files_of, IsDamagedAt, IsSpent, LoadRefuses}
use Rattle.plant_laws.specs.Laws.{NoCause, AreAlike, OneCause}

-- ---- the manifest of a plant

tables-of : (schema : List Shape) (dates : List Dated) → tables_of (manifest_of schema dates) ≡ schema
tables-of [] [] = refl
tables-of [] (d ∷ dates) = tables-of [] dates
tables-of (shape ∷ schema) dates = ap (λ l. shape ∷ l) (tables-of schema dates)

date-updates : (schema : List Shape) (before : ℕ) (records : List (List ℕ)) (first : ℤ) (us es : List Entry) → AreChunks schema before records us → date_of first (us ++ es) ≡ date_of first es
date-updates schema before [] first [] es are = refl
date-updates schema before [] first (u ∷ us) es are = absurd are
date-updates schema before (r ∷ records) first [] es are = absurd are
date-updates schema before (r ∷ records) first (e.Upd by table columns ∷ us) es are = date-updates schema (before + entry_rows (e.Upd by table columns)) records first us es are.1
date-updates schema before (r ∷ records) first (e.Roll by date ∷ us) es are = absurd are.0
date-updates schema before (r ∷ records) first (e.Fault by ∷ us) es are = absurd are.0

abbrev HaveLogs : List Shape → (ℕ → List ℕ) → List Dated → Type 0
HaveLogs schema files dates = AllByRecursion (λ d. LogHolds schema (files (log_file d.date)) d.updates) dates

date-rolled : (schema : List Shape) (files : ℕ → List ℕ) (date : ℤ) (dates : List Dated) → HaveLogs schema files dates → date_of date (rolled dates) ≡ unwrap_or (last_date (map opening dates)) date
date-rolled schema files date [] logs = refl
date-rolled schema files date (d ∷ dates) logs = date-updates schema 0 logs.0.records d.date d.updates (rolled dates) logs.0.chunks ∙ date-rolled schema files d.date dates logs.1

last-dates : (schema : List Shape) (dates : List Dated) → last_date (manifest_of schema dates) ≡ last_date (map opening dates)
last-dates [] dates = refl
last-dates (shape ∷ schema) dates = last-dates schema dates

some-same : {a b : ℤ} → Some a ≡ Some b → a ≡ b
some-same h = cc

-- the last date of the manifest is the open one
last-open : (schema : List Shape) (files : ℕ → List ℕ) (first kept : ℤ) (dates : List Dated) → BeginsAt first dates → HaveLogs schema files dates → last_date (manifest_of schema dates) ≡ Some kept
    → date_of first (entries_of dates) ≡ kept
last-open schema files first kept [] begins logs last = let none : None ≡ Some kept = sym (last-dates schema []) ∙ last in absurd cc
last-open schema files first kept (d ∷ dates) begins logs last =
    date-updates schema 0 logs.0.records first d.updates (rolled dates) logs.0.chunks
    ∙ ap (λ x. date_of x (rolled dates)) (sym begins)
    ∙ date-rolled schema files d.date dates logs.1
    ∙ some-same (sym (last-dates schema (d ∷ dates)) ∙ last)

-- ---- two manifests of the same tables

same-back : (schema : List Shape) (these those : List ManifestRecord) → map m.Shape schema ++ these ≡ map m.Shape schema ++ those → these ≡ those
same-back [] these those same = same
same-back (shape ∷ schema) these those same =
    let tails : map m.Shape schema ++ these ≡ map m.Shape schema ++ those = cc in
    same-back schema these those tails

opened-same : (by by' : ℕ) (date date' : ℤ) (xs ys : List ManifestRecord) → m.Opened by date ∷ xs ≡ m.Opened by' date' ∷ ys → date ≡ date'
opened-same by by' date date' xs ys same = cc

-- a date of one of them has a log
log-of : (schema : List Shape) (files : ℕ → List ℕ) (before dates : List Dated) (by : ℕ) (day : ℤ) (rest : List ManifestRecord) → HaveLogs schema files dates → map opening before ++ m.Opened by day ∷ rest ≡ map opening dates
    → (updates : List Entry) × LogHolds schema (files (log_file day)) updates
log-of schema files [] [] by day rest logs same = absurd cc
log-of schema files [] (d ∷ dates) by day rest logs same =
    (d.updates, subst (λ x. LogHolds schema (files (log_file x)) d.updates) (sym (opened-same by d.by day d.date rest (map opening dates) same)) logs.0)
log-of schema files (b ∷ before) [] by day rest logs same = absurd cc
log-of schema files (b ∷ before) (d ∷ dates) by day rest logs same =
    let tails : map opening before ++ m.Opened by day ∷ rest ≡ map opening dates = cc in
    log-of schema files before dates by day rest logs.1 tails

no-less : (a b : ℤ) → a ≤ℤ b → b <ℤ a → ⊥
no-less (pos m) (pos n) h i = omega (arith, leb→le m n h.le, ltb→lt n m i.lt)
no-less (pos m) (negsuc n) h i = absurd h.le
no-less (negsuc m) (pos n) h i = absurd i.lt
no-less (negsuc m) (negsuc n) h i = omega (arith, leb→le n m h.le, ltb→lt m n i.lt)

-- two plants of the same dates begin at the same date, or have none
begin-same : (these those : List Dated) (first first' : ℤ) → BeginsAt first these → BeginsAt first' those → map opening these ≡ map opening those → (first ≡ first') ⊎ (these ≡ [])
begin-same [] those first first' begins begins' same = inr refl
begin-same (d ∷ these) [] first first' begins begins' same = absurd cc
begin-same (d ∷ these) (x ∷ those) first first' begins begins' same =
    inl (sym begins ∙ opened-same d.by x.by d.date x.date (map opening these) (map opening those) same ∙ begins')

-- the first damaged log is that of one date
first-damaged : (schema : List Shape) (files : ℕ → List ℕ) → ((day : ℤ) (updates : List Entry) → LogHolds schema (files (log_file day)) updates → (chunks at : ℕ) → IsDamagedLog schema (files (log_file day)) chunks at → ⊥)
    → (before before' : List Dated) (by by' : ℕ) (day day' : ℤ) (rest rest' : List ManifestRecord) (chunks at chunks' at' : ℕ) → HaveLogs schema files before → HaveLogs schema files before' → IsDamagedLog schema (files (log_file day)) chunks at
    → IsDamagedLog schema (files (log_file day')) chunks' at' → map opening before ++ m.Opened by day ∷ rest ≡ map opening before' ++ m.Opened by' day' ∷ rest' → day ≡ day'
first-damaged schema files never [] [] by by' day day' rest rest' chunks at chunks' at' logs logs' bad bad' same = opened-same by by' day day' rest rest' same
first-damaged schema files never [] (b ∷ before') by by' day day' rest rest' chunks at chunks' at' logs logs' bad bad' same =
    let here : day ≡ b.date = opened-same by b.by day b.date rest (map opening before' ++ m.Opened by' day' ∷ rest') same in
    absurd (never b.date b.updates logs'.0 chunks at (subst (λ d. IsDamagedLog schema (files (log_file d)) chunks at) here bad))
first-damaged schema files never (b ∷ before) [] by by' day day' rest rest' chunks at chunks' at' logs logs' bad bad' same =
    let here : day' ≡ b.date = opened-same by' b.by day' b.date rest' (map opening before ++ m.Opened by day ∷ rest) (sym same) in
    absurd (never b.date b.updates logs.0 chunks' at' (subst (λ d. IsDamagedLog schema (files (log_file d)) chunks' at') here bad'))
first-damaged schema files never (b ∷ before) (b' ∷ before') by by' day day' rest rest' chunks at chunks' at' logs logs' bad bad' same =
    let tails : map opening before ++ m.Opened by day ∷ rest ≡ map opening before' ++ m.Opened by' day' ∷ rest' = cc in
    first-damaged schema files never before before' by by' day day' rest rest' chunks at chunks' at' logs.1 logs'.1 bad bad' tails

-- ---- the causes

module _ (restart : RestartsOnce) (one : OneManifest) (first-difference : OneDifference) (differ : NoDifference) (never : NeverDamaged) (either : parts.NeverBoth) where
  -- of a disk that restarts as these entries, of which no date is later
  module _ (disk : DiskView) (schema : List Shape) (date first : ℤ) (kept : List Entry) (lawful : IsSchema schema) (told : IsTrue disk.tells) (restarts : Restarts schema first (files_of disk) kept)
      (not_after : date_of first kept ≤ℤ date) where
    pub own : HasRecords (disk.now 0).bytes (manifest_of schema restarts.dates)
    own = record { reads = restarts.manifest; lawful = restarts.are.lawful }

    is-own : (records : List ManifestRecord) → HasRecords (disk.now 0).bytes records → records ≡ manifest_of schema restarts.dates
    is-own records has = one (disk.now 0).bytes records (manifest_of schema restarts.dates) has own

    pub not-bad : (at : ℕ) → LoadRefuses disk schema date (l.BadManifest at) → ⊥
    not-bad at h = either (disk.now 0).bytes (manifest_of schema restarts.dates) at own.lawful own.reads (h told)

    pub not-other : (name : List ℕ) (one' other : Shape) → LoadRefuses disk schema date (l.SchemaDiffers name one' other) → ⊥
    not-other name one' other h =
        let found = h told in
        differ (tables_of found.0) schema name one' other found.2 (ap tables_of (is-own found.0 found.1) ∙ tables-of schema restarts.dates)

    pub not-early : (last : ℤ) → LoadRefuses disk schema date (l.EarlierDate last) → ⊥
    not-early last h =
        let found = h told in
        let is : last_date (manifest_of schema restarts.dates) ≡ Some last = sym (ap last_date (is-own found.0 found.1)) ∙ found.2.1 in
        let open_date : date_of first kept ≡ last = ap (date_of first) restarts.are.spelled ∙ last-open schema (files_of disk) first last restarts.dates restarts.are.begins restarts.logs is in
        let reached : last ≤ℤ date = subst (λ d. d ≤ℤ date) open_date not_after in
        let less : date <ℤ last = found.2.2 in
        no-less last date reached less

    pub not-corrupt : (day : ℤ) (chunks at : ℕ) → LoadRefuses disk schema date (l.CorruptLog day chunks at) → ⊥
    not-corrupt day chunks at h = by-log (h told) where
      by-log : IsDamagedAt disk schema date day chunks at → ⊥
      by-log bad =
          let split : map m.Shape schema ++ (map opening bad.before ++ m.Opened bad.by day ∷ bad.rest) ≡ map m.Shape schema ++ map opening restarts.dates =
          sym (append_assoc (map m.Shape schema) (map opening bad.before) (m.Opened bad.by day ∷ bad.rest)) ∙ sym bad.split ∙ is-own bad.records bad.has in
          let found = log-of schema (files_of disk) bad.before restarts.dates bad.by day bad.rest restarts.logs (same-back schema (map opening bad.before ++ m.Opened bad.by day ∷ bad.rest) (map opening restarts.dates) split) in
          never schema (disk.now (log_file day)).bytes found.0 chunks at lawful found.1 bad.damaged

    pub not-spent : top_by kept + 2 < 2 ^ 64 → LoadRefuses disk schema date l.NumbersSpent → ⊥
    not-spent few h = by-entries (h told) where
      by-entries : IsSpent disk schema date → ⊥
      by-entries spent = ⊎_elim at-once none-spent (begin-same spent.restarts.dates restarts.dates spent.first first spent.restarts.are.begins restarts.are.begins dates-same) where
        dates-same : map opening spent.restarts.dates ≡ map opening restarts.dates
        dates-same =
            same-back schema (map opening spent.restarts.dates) (map opening restarts.dates)
            (is-own (manifest_of schema spent.restarts.dates) (record { reads = spent.restarts.manifest; lawful = spent.restarts.are.lawful }))

        at-once : spent.first ≡ first → ⊥
        at-once begins =
            let same : spent.kept ≡ kept = restart schema first (files_of disk) spent.kept kept lawful (subst (λ d. Restarts schema d (files_of disk) spent.kept) begins spent.restarts) restarts in
            omega (arith, spent.spent, few, ap top_by same)

        none-spent : spent.restarts.dates ≡ [] → ⊥
        none-spent none =
            let none_by : top_by spent.kept ≡ 0 = ap top_by (spent.restarts.are.spelled ∙ ap entries_of none) in
            omega (arith, spent.spent, none_by)

  pub no-cause : NoCause
  no-cause disk schema date memory (l.BadManifest at) lawful told x h = not-bad disk schema date memory.frame.first x.kept lawful told x.restarts x.not_after at h
  no-cause disk schema date memory (l.SchemaDiffers name kept given) lawful told x h = not-other disk schema date memory.frame.first x.kept lawful told x.restarts x.not_after name kept given h
  no-cause disk schema date memory (l.EarlierDate kept) lawful told x h = not-early disk schema date memory.frame.first x.kept lawful told x.restarts x.not_after kept h
  no-cause disk schema date memory (l.CorruptLog day chunks at) lawful told x h = not-corrupt disk schema date memory.frame.first x.kept lawful told x.restarts x.not_after day chunks at h
  no-cause disk schema date memory l.DiskFault lawful told x h = tt
  no-cause disk schema date memory l.NumbersSpent lawful told x h = not-spent disk schema date memory.frame.first x.kept lawful told x.restarts x.not_after x.few h
  no-cause disk schema date memory l.NoMemory lawful told x h = tt

  -- ---- two causes

  module _ (disk : DiskView) (schema : List Shape) (date : ℤ) (lawful : IsSchema schema) (told : IsTrue disk.tells) where
    bad-has : (at : ℕ) (records : List ManifestRecord) → LoadRefuses disk schema date (l.BadManifest at) → HasRecords (disk.now 0).bytes records → ⊥
    bad-has at records h has = either (disk.now 0).bytes records at has.lawful has.reads (h told)

    other-same : (name : List ℕ) (kept given : Shape) (records : List ManifestRecord) → LoadRefuses disk schema date (l.SchemaDiffers name kept given) → HasRecords (disk.now 0).bytes records → tables_of records ≡ schema → ⊥
    other-same name kept given records h has tables =
        let found = h told in
        differ (tables_of found.0) schema name kept given found.2 (ap tables_of (one (disk.now 0).bytes found.0 records found.1 has) ∙ tables)

    early-corrupt : (last : ℤ) (day : ℤ) (chunks at : ℕ) → LoadRefuses disk schema date (l.EarlierDate last) → LoadRefuses disk schema date (l.CorruptLog day chunks at) → ⊥
    early-corrupt last day chunks at h i = by-log (i told) where
      by-log : IsDamagedAt disk schema date day chunks at → ⊥
      by-log bad =
          let found = h told in
          let is : last_date bad.records ≡ Some last = sym (ap last_date (one (disk.now 0).bytes found.0 bad.records found.1 bad.has)) ∙ found.2.1 in
          let reached : last ≤ℤ date = subst (λ o. IsNotAfter o date) is bad.not_after in
          let less : date <ℤ last = found.2.2 in
          no-less last date reached less

    spent-other : (why : LoadRefusal) → LoadRefuses disk schema date l.NumbersSpent → LoadRefuses disk schema date why → AreAlike why l.NumbersSpent
    spent-other (l.BadManifest at) s h = not-bad disk schema date (s told).first (s told).kept lawful told (s told).restarts (s told).not_after at h
    spent-other (l.SchemaDiffers name kept given) s h = not-other disk schema date (s told).first (s told).kept lawful told (s told).restarts (s told).not_after name kept given h
    spent-other (l.EarlierDate last) s h = not-early disk schema date (s told).first (s told).kept lawful told (s told).restarts (s told).not_after last h
    spent-other (l.CorruptLog day chunks at) s h = not-corrupt disk schema date (s told).first (s told).kept lawful told (s told).restarts (s told).not_after day chunks at h
    spent-other l.DiskFault s h = tt
    spent-other l.NumbersSpent s h = tt
    spent-other l.NoMemory s h = tt

    other-other : (name name' : List ℕ) (kept given kept' given' : Shape) → LoadRefuses disk schema date (l.SchemaDiffers name kept given) → LoadRefuses disk schema date (l.SchemaDiffers name' kept' given')
        → (name ≡ name') × (kept ≡ kept') × (given ≡ given')
    other-other name name' kept given kept' given' h i =
        let found = h told in
        let found' = i told in
        let same : tables_of found'.0 ≡ tables_of found.0 = ap tables_of (one (disk.now 0).bytes found'.0 found.0 found'.1 found.1) in
        first-difference (tables_of found.0) schema name name' kept kept' given given' found.2 (subst (λ t. DifferFirst t schema name' kept' given') same found'.2)

    early-early : (last last' : ℤ) → LoadRefuses disk schema date (l.EarlierDate last) → LoadRefuses disk schema date (l.EarlierDate last') → last ≡ last'
    early-early last last' h i =
        let found = h told in
        let found' = i told in
        some-same (sym found.2.1 ∙ ap last_date (one (disk.now 0).bytes found.0 found'.0 found.1 found'.1) ∙ found'.2.1)

    corrupt-corrupt : (day day' : ℤ) (chunks at chunks' at' : ℕ) → IsDamagedAt disk schema date day chunks at → IsDamagedAt disk schema date day' chunks' at' → day ≡ day'
    corrupt-corrupt day day' chunks at chunks' at' h i =
        let split : map m.Shape schema ++ (map opening h.before ++ m.Opened h.by day ∷ h.rest) ≡ map m.Shape schema ++ (map opening i.before ++ m.Opened i.by day' ∷ i.rest) =
        sym (append_assoc (map m.Shape schema) (map opening h.before) (m.Opened h.by day ∷ h.rest)) ∙ sym h.split ∙ one (disk.now 0).bytes h.records i.records h.has i.has ∙ i.split
        ∙ append_assoc (map m.Shape schema) (map opening i.before) (m.Opened i.by day' ∷ i.rest) in
        first-damaged schema (files_of disk) (λ d updates holds c a. never schema (disk.now (log_file d)).bytes updates c a lawful holds) h.before i.before h.by i.by day day' h.rest i.rest chunks at chunks' at' h.whole i.whole h.damaged i.damaged
        (same-back schema (map opening h.before ++ m.Opened h.by day ∷ h.rest) (map opening i.before ++ m.Opened i.by day' ∷ i.rest) split)

  pub one-cause : OneCause
  one-cause d s t l.DiskFault those lawful told h i = tt
  one-cause d s t l.NoMemory those lawful told h i = tt
  one-cause d s t (l.BadManifest a) (l.BadManifest a') lawful told h i = tt
  one-cause d s t (l.BadManifest a) (l.SchemaDiffers name kept given) lawful told h i = bad-has d s t lawful told a (i told).0 h (i told).1
  one-cause d s t (l.BadManifest a) (l.EarlierDate last) lawful told h i = bad-has d s t lawful told a (i told).0 h (i told).1
  one-cause d s t (l.BadManifest a) (l.CorruptLog day chunks at) lawful told h i = bad-has d s t lawful told a (i told).records h (i told).has
  one-cause d s t (l.BadManifest a) l.DiskFault lawful told h i = tt
  one-cause d s t (l.BadManifest a) l.NumbersSpent lawful told h i = spent-other d s t lawful told (l.BadManifest a) i h
  one-cause d s t (l.BadManifest a) l.NoMemory lawful told h i = tt
  one-cause d s t (l.SchemaDiffers name kept given) (l.BadManifest a) lawful told h i = bad-has d s t lawful told a (h told).0 i (h told).1
  one-cause d s t (l.SchemaDiffers name kept given) (l.SchemaDiffers name' kept' given') lawful told h i = other-other d s t lawful told name name' kept given kept' given' h i
  one-cause d s t (l.SchemaDiffers name kept given) (l.EarlierDate last) lawful told h i = other-same d s t lawful told name kept given (i told).0 h (i told).1 (i told).2.0
  one-cause d s t (l.SchemaDiffers name kept given) (l.CorruptLog day chunks at) lawful told h i = other-same d s t lawful told name kept given (i told).records h (i told).has (i told).tables
  one-cause d s t (l.SchemaDiffers name kept given) l.DiskFault lawful told h i = tt
  one-cause d s t (l.SchemaDiffers name kept given) l.NumbersSpent lawful told h i = spent-other d s t lawful told (l.SchemaDiffers name kept given) i h
  one-cause d s t (l.SchemaDiffers name kept given) l.NoMemory lawful told h i = tt
  one-cause d s t (l.EarlierDate last) (l.BadManifest a) lawful told h i = bad-has d s t lawful told a (h told).0 i (h told).1
  one-cause d s t (l.EarlierDate last) (l.SchemaDiffers name kept given) lawful told h i = other-same d s t lawful told name kept given (h told).0 i (h told).1 (h told).2.0
  one-cause d s t (l.EarlierDate last) (l.EarlierDate last') lawful told h i = early-early d s t lawful told last last' h i
  one-cause d s t (l.EarlierDate last) (l.CorruptLog day chunks at) lawful told h i = early-corrupt d s t lawful told last day chunks at h i
  one-cause d s t (l.EarlierDate last) l.DiskFault lawful told h i = tt
  one-cause d s t (l.EarlierDate last) l.NumbersSpent lawful told h i = spent-other d s t lawful told (l.EarlierDate last) i h
  one-cause d s t (l.EarlierDate last) l.NoMemory lawful told h i = tt
  one-cause d s t (l.CorruptLog day chunks at) (l.BadManifest a) lawful told h i = bad-has d s t lawful told a (h told).records i (h told).has
  one-cause d s t (l.CorruptLog day chunks at) (l.SchemaDiffers name kept given) lawful told h i = other-same d s t lawful told name kept given (h told).records i (h told).has (h told).tables
  one-cause d s t (l.CorruptLog day chunks at) (l.EarlierDate last) lawful told h i = early-corrupt d s t lawful told last day chunks at i h
  one-cause d s t (l.CorruptLog day chunks at) (l.CorruptLog day' chunks' at') lawful told h i = corrupt-corrupt d s t lawful told day day' chunks at chunks' at' (h told) (i told)
  one-cause d s t (l.CorruptLog day chunks at) l.DiskFault lawful told h i = tt
  one-cause d s t (l.CorruptLog day chunks at) l.NumbersSpent lawful told h i = spent-other d s t lawful told (l.CorruptLog day chunks at) i h
  one-cause d s t (l.CorruptLog day chunks at) l.NoMemory lawful told h i = tt
  one-cause d s t l.NumbersSpent (l.BadManifest a) lawful told h i = spent-other d s t lawful told (l.BadManifest a) h i
  one-cause d s t l.NumbersSpent (l.SchemaDiffers name kept given) lawful told h i = spent-other d s t lawful told (l.SchemaDiffers name kept given) h i
  one-cause d s t l.NumbersSpent (l.EarlierDate last) lawful told h i = spent-other d s t lawful told (l.EarlierDate last) h i
  one-cause d s t l.NumbersSpent (l.CorruptLog day chunks at) lawful told h i = spent-other d s t lawful told (l.CorruptLog day chunks at) h i
  one-cause d s t l.NumbersSpent l.DiskFault lawful told h i = tt
  one-cause d s t l.NumbersSpent l.NumbersSpent lawful told h i = tt
  one-cause d s t l.NumbersSpent l.NoMemory lawful told h i = tt
