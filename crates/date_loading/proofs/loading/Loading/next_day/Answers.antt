use Rattle.std.proofs.Common.{◌≡◌, ◌≢◌, ◌+◌, IsTrue, [], ◌∷◌, ◌++◌, Some, ℕ, ℤ, slice_get, refl, ap, sym, subst, ◌∙◌}
use Rattle.std.specs.Int.{w32}
use Rattle.std.proofs.lemmas.Int.{to_z-of_z}
use Rattle.outside_api.specs.Disk.{IsSettled}
use Rattle.partition_set.specs.Records.{IsRecord}
use Rattle.partition_set.specs.declared.record.ManifestRecord.TheVariants as m
use Rattle.date_logs.specs.Restart.{log_file, LogHolds}
use Rattle.date_logs.proofs.Files.{log-not-zero}
use Rattle.date_loading.specs.Loading.{LoadingView, IsOneFurther, ReadIn, LoadedIn, loaded_date}
use Rattle.date_loading.specs.Logs.{IsLoadedLog}
use Rattle.date_loading.specs.Manifests.{IsBefore}
use Rattle.date_loading.proofs.DiskLemmas.{keeps-files, reads-same}
use Rattle.date_loading.proofs.LoadingLemmas.{next-own, next-later, date-fits, further, under-way, one-read, one-loaded}
use Rattle.date_loading.proofs.loading.Loading.next_day.Goals as goal

pub returns-in_err-log-clause-any_moment : goal.returns-in_err-log-clause-any_moment
returns-in_err-log-clause-any_moment g c =
    keeps-files (g.D.Disk.shown c.args.disk.now) (g.D.Disk.shown c.load_log.new.disk) _ c.load_log.ensures.any_moment

pub returns-clause-any_moment : goal.returns-clause-any_moment
returns-clause-any_moment g c =
    keeps-files (g.D.Disk.shown c.args.disk.now) (g.D.Disk.shown c.load_log.new.disk) _ c.load_log.ensures.any_moment

pub invariant_of-self : goal.invariant_of-self
invariant_of-self g c =
    let loading : LoadingView = record { manifest = c.self.inside.manifest; next = c.self.inside.next; log = c.self.inside.log } in
    let at = subst (λ (v : LoadingView). slice_get v.manifest.records v.next ≡ Some (m.Opened c.in-Some.by c.in-Some.date)) (sym c.self.view_is)
    c.in-Some.ensures.found in
    let same = to_z-of_z w32 c.in-Some.date (date-fits loading c.self.invariant c.in-Some.by c.in-Some.date at) in
    under-way loading c.self.invariant c.in-Some.by c.in-Some.date at (c.self.inside.next + 1) c.in_ok-log.field-0.log refl
    (c.in_ok-log.ensures.file ∙ ap log_file same)

pub returns-clause-under_way : goal.returns-clause-under_way
returns-clause-under_way g c =
    let loading : LoadingView = record { manifest = c.self.inside.manifest; next = c.self.inside.next; log = c.self.inside.log } in
    let at = subst (λ (v : LoadingView). slice_get v.manifest.records v.next ≡ Some (m.Opened c.in-Some.by c.in-Some.date)) (sym c.self.view_is)
    c.in-Some.ensures.found in
    let same = to_z-of_z w32 c.in-Some.date (date-fits loading c.self.invariant c.in-Some.by c.in-Some.date at) in
    under-way loading c.self.invariant c.in-Some.by c.in-Some.date at (c.self.inside.next + 1) c.in_ok-log.field-0.log refl
    (c.in_ok-log.ensures.file ∙ ap log_file same)

pub returns-clause-day : goal.returns-clause-day
returns-clause-day g c =
    let loading : LoadingView = record { manifest = c.self.inside.manifest; next = c.self.inside.next; log = c.self.inside.log } in
    let at = subst (λ (v : LoadingView). slice_get v.manifest.records v.next ≡ Some (m.Opened c.in-Some.by c.in-Some.date)) (sym c.self.view_is)
    c.in-Some.ensures.found in
    let same = to_z-of_z w32 c.in-Some.date (date-fits loading c.self.invariant c.in-Some.by c.in-Some.date at) in
    let log = c.in_ok-log.field-0 in
    let date : log.day.day.date ≡ c.in-Some.date = c.in_ok-log.ensures.day.date_is ∙ same in
    record {
      opened = c.in-Some.ensures.found ∙ ap (λ (d : ℤ). Some (m.Opened c.in-Some.by d)) (sym date);
      own = subst (λ (d : ℤ). IsRecord (m.Opened c.in-Some.by d)) (sym date) (next-own loading c.self.invariant c.in-Some.by c.in-Some.date at);
      later = subst (λ (d : ℤ). IsBefore (loaded_date c.args.self.now) d) (sym date)
          (subst (λ (v : LoadingView). IsBefore (loaded_date v) c.in-Some.date) c.self.view_is
          (next-later loading c.self.invariant c.in-Some.by c.in-Some.date at));
      day = record { date_is = refl; kinds = c.in_ok-log.ensures.day.kinds; counted = c.in_ok-log.ensures.day.counted };
    }

pub returns-clause-goes_on : goal.returns-clause-goes_on
returns-clause-goes_on g c =
    let loading : LoadingView = record { manifest = c.self.inside.manifest; next = c.self.inside.next; log = c.self.inside.log } in
    let at = subst (λ (v : LoadingView). slice_get v.manifest.records v.next ≡ Some (m.Opened c.in-Some.by c.in-Some.date)) (sym c.self.view_is)
    c.in-Some.ensures.found in
    let same = to_z-of_z w32 c.in-Some.date (date-fits loading c.self.invariant c.in-Some.by c.in-Some.date at) in
    let log = c.in_ok-log.field-0 in
    let date : log.day.day.date ≡ c.in-Some.date = c.in_ok-log.ensures.day.date_is ∙ same in
    let next : LoadingView = record { manifest = c.self.inside.manifest; next = c.self.inside.next + 1; log = Some log.log } in
    subst (λ (d : ℤ). IsOneFurther c.args.self.now next d) (sym date)
    (subst (λ (v : LoadingView). IsOneFurther v next c.in-Some.date) c.self.view_is
    (further loading c.self.invariant c.in-Some.by c.in-Some.date at (c.self.inside.next + 1) log.log refl))

pub returns-clause-read : goal.returns-clause-read
returns-clause-read g c = λ dates h t.
    let before = g.D.Disk.shown c.args.disk.now in
    let after = g.D.Disk.shown c.load_log.new.disk in
    let loading : LoadingView = record { manifest = c.self.inside.manifest; next = c.self.inside.next; log = c.self.inside.log } in
    let at = subst (λ (v : LoadingView). slice_get v.manifest.records v.next ≡ Some (m.Opened c.in-Some.by c.in-Some.date)) (sym c.self.view_is)
    c.in-Some.ensures.found in
    let same = to_z-of_z w32 c.in-Some.date (date-fits loading c.self.invariant c.in-Some.by c.in-Some.date at) in
    let log = c.in_ok-log.field-0 in
    let date : log.day.day.date ≡ c.in-Some.date = c.in_ok-log.ensures.day.date_is ∙ same in
    let told : IsTrue before.tells = subst IsTrue c.in_ok-log.ensures.counts.1 t in
    let own : ReadIn before.now loading c.args.schema.now dates =
    subst (λ (v : LoadingView). ReadIn before.now v c.args.schema.now dates) (sym c.self.view_is) (h told) in
    let holds = subst (λ (d : ℤ). LogHolds c.args.schema.now (before.now (log_file d)).bytes log.day.day.updates) same (c.in_ok-log.ensures.read told) in
    let next : LoadingView = record { manifest = c.self.inside.manifest; next = c.self.inside.next + 1; log = Some log.log } in
    subst (λ (d : ℤ). ReadIn after.now next c.args.schema.now (dates ++ (record { by = c.in-Some.by; date = d; updates = log.day.day.updates }) ∷ []))
    (sym date)
    (one-read loading c.self.invariant c.in-Some.by c.in-Some.date at before.now after.now c.args.schema.now dates log.day.day.updates own.records
    (c.self.inside.next + 1) log.log refl own holds
    (reads-same before.now after.now _ (c.load_log.ensures.bytes told) (c.load_log.ensures.any_moment told).others_now))

pub returns-clause-loaded : goal.returns-clause-loaded
returns-clause-loaded g c = λ dates h t.
    let before = g.D.Disk.shown c.args.disk.now in
    let after = g.D.Disk.shown c.load_log.new.disk in
    let loading : LoadingView = record { manifest = c.self.inside.manifest; next = c.self.inside.next; log = c.self.inside.log } in
    let at = subst (λ (v : LoadingView). slice_get v.manifest.records v.next ≡ Some (m.Opened c.in-Some.by c.in-Some.date)) (sym c.self.view_is)
    c.in-Some.ensures.found in
    let same = to_z-of_z w32 c.in-Some.date (date-fits loading c.self.invariant c.in-Some.by c.in-Some.date at) in
    let log = c.in_ok-log.field-0 in
    let date : log.day.day.date ≡ c.in-Some.date = c.in_ok-log.ensures.day.date_is ∙ same in
    let told : IsTrue before.tells = subst IsTrue c.in_ok-log.ensures.counts.1 t in
    let own : LoadedIn before.now loading c.args.schema.now dates =
    subst (λ (v : LoadingView). LoadedIn before.now v c.args.schema.now dates) (sym c.self.view_is) (h told) in
    let next : LoadingView = record { manifest = c.self.inside.manifest; next = c.self.inside.next + 1; log = Some log.log } in
    let file : log.log.file ≡ log_file c.in-Some.date = c.in_ok-log.ensures.file ∙ ap log_file same in
    let spares : (k : ℕ) → k ≢ log_file c.in-Some.date → after.now k ≡ before.now k =
    λ k apart. (c.load_log.ensures.any_moment told).others_now k (subst (λ (d : ℤ). k ≢ log_file d) (sym same) apart) in
    let settled = subst (λ (d : ℤ). IsSettled (before.now (log_file d))) (sym same)
    (own.settled (log_file c.in-Some.date) (log-not-zero c.in-Some.date (next-own loading c.self.invariant c.in-Some.by c.in-Some.date at).1)) in
    let still : IsSettled (after.now (log_file c.in-Some.date)) =
    subst (λ (d : ℤ). IsSettled (after.now (log_file d))) same (c.in_ok-log.ensures.settled told settled) in
    let loaded : IsLoadedLog c.args.schema.now after.now log.log log.day.day.updates = c.in_ok-log.ensures.loaded told settled in
    subst (λ (d : ℤ). LoadedIn after.now next c.args.schema.now
    (dates ++ (record { by = c.in-Some.by; date = d; updates = log.day.day.updates }) ∷ [])) (sym date)
    (one-loaded loading c.self.invariant c.in-Some.by c.in-Some.date at before.now after.now c.args.schema.now dates log.day.day.updates own.records
    (c.self.inside.next + 1) log.log refl file own spares still loaded)
