use Rattle.std.proofs.Common.{rules, ◌≡◌, inl, inr, ℕ, ℤ, negsuc, ◌≤ℤ◌, Some, None, IsTrue, List, [], ◌∷◌, ◌++◌, subst, sym, ap, ◌∙◌}
use Rattle.std.proofs.lemmas.Result.{on_ok_weaker, on_err_weaker}
use Rattle.std.specs.Int.{w32}
use Rattle.std.proofs.lemmas.Int.{to_z-of_z}
use Rattle.outside_api.specs.Disk.{Passes}
use Rattle.partition_set.specs.Records.{IsManifest}
use Rattle.partition_set.specs.declared.record.ManifestRecord.{ManifestRecord}
use Rattle.partition_set.specs.declared.record.ManifestRecord.TheVariants as m
use Rattle.day_rows.specs.declared.entry.Entry.TheVariants as e
use Rattle.date_logs.specs.Moments.{Throughout, RestartsAs, RestartsEither}
use Rattle.date_logs.specs.Restart.{log_file}
use Rattle.date_logs.specs.Stores.{Stores, left_of}
use Rattle.date_logs.proofs.Files.{own-last}
use Rattle.date_logs.proofs.Mending.{at-err, widened}
use Rattle.date_logs.proofs.Adding.{left-leaves, fresh-kept, fresh-moment, fresh-ready}
use Rattle.date_logs.proofs.Moments.{throughout-join, throughout-weaker}
use Rattle.date_logs.proofs.logs.DateLogs.roll.Goals as goal

pub returns-in_err-mend-clause-failed : goal.returns-in_err-mend-clause-failed
returns-in_err-mend-clause-failed g c = at-err _ c.from_residual.result (λ schema first entries late stores. widened (c.in_err-mend.ensures.failed schema first entries late stores))

pub returns-in_err-mend-clause-any_moment : goal.returns-in_err-mend-clause-any_moment
returns-in_err-mend-clause-any_moment g c = λ schema first entries late stores tells.
    throughout-weaker (g.D.Disk.shown c.args.disk.now) (g.D.Disk.shown c.mend.new.disk) (RestartsAs schema first entries late) (RestartsEither schema first entries late (Some (e.Roll c.args.by c.args.date))) (λ files r image is. inl (r image is))
    (c.mend.ensures.any_moment schema first entries late stores tells)

pub log_file-requires : goal.log_file-requires
log_file-requires g c =
    subst (λ (d : ℤ). negsuc 106751 ≤ℤ d) (sym (to_z-of_z w32 c.args.date c.ranges.date)) (own-last c.args.self.now.manifest.records (m.Opened c.args.by c.args.date) c.requires.allowed).1

pub returns-in_err-log-clause-failed : goal.returns-in_err-log-clause-failed
returns-in_err-log-clause-failed g c =
    let before = g.D.Disk.shown c.args.disk.now in
    let mid = g.D.Disk.shown c.mend.new.disk in
    let made = g.D.Disk.shown c.fresh.new.disk in
    let told : mid.tells ≡ before.tells = c.in_ok-mend.ensures.counts.1 in
    let tells : made.tells ≡ mid.tells = search rules in
    let same = to_z-of_z w32 c.args.date c.ranges.date in
    let moment = subst (λ (k : ℕ). IsTrue mid.tells → Passes mid made k (λ _. Unit {0})) (c.log_file.ensures ∙ ap log_file same) c.fresh.ensures.any_moment in
    let allowed = subst (λ (l : List ManifestRecord). IsManifest (l ++ m.Opened c.args.by c.args.date ∷ [])) (sym c.in_ok-mend.ensures.records) c.requires.allowed in
    at-err _ c.from_residual-in_err-log.result (λ schema first entries late stores. inr (inl (fresh-kept mid made tells c.mend.new.self c.in_ok-mend.ensures.whole c.args.by c.args.date allowed moment schema first entries (c.in_ok-mend.ensures.mended schema first entries late stores))))

pub returns-in_err-log-clause-any_moment : goal.returns-in_err-log-clause-any_moment
returns-in_err-log-clause-any_moment g c = λ schema first entries late stores t.
    let before = g.D.Disk.shown c.args.disk.now in
    let mid = g.D.Disk.shown c.mend.new.disk in
    let made = g.D.Disk.shown c.fresh.new.disk in
    let told : mid.tells ≡ before.tells = c.in_ok-mend.ensures.counts.1 in
    let tells : made.tells ≡ mid.tells = search rules in
    let same = to_z-of_z w32 c.args.date c.ranges.date in
    let moment = subst (λ (k : ℕ). IsTrue mid.tells → Passes mid made k (λ _. Unit {0})) (c.log_file.ensures ∙ ap log_file same) c.fresh.ensures.any_moment in
    let allowed = subst (λ (l : List ManifestRecord). IsManifest (l ++ m.Opened c.args.by c.args.date ∷ [])) (sym c.in_ok-mend.ensures.records) c.requires.allowed in
    throughout-join before mid made (RestartsEither schema first entries late (Some (e.Roll c.args.by c.args.date)))
    (throughout-weaker before mid (RestartsAs schema first entries late) (RestartsEither schema first entries late (Some (e.Roll c.args.by c.args.date))) (λ files r image is. inl (r image is)) (c.mend.ensures.any_moment schema first entries late stores t))
    (throughout-weaker mid made (RestartsAs schema first entries None) (RestartsEither schema first entries late (Some (e.Roll c.args.by c.args.date))) (λ files r image is. inr (inl (r image is)))
    (fresh-moment mid made tells c.mend.new.self c.in_ok-mend.ensures.whole c.args.by c.args.date allowed moment schema first entries (c.in_ok-mend.ensures.mended schema first entries late stores) (subst IsTrue (sym told) t)))

pub returns-in_err-log-clause-ready : goal.returns-in_err-log-clause-ready
returns-in_err-log-clause-ready g c =
    let before = g.D.Disk.shown c.args.disk.now in
    let mid = g.D.Disk.shown c.mend.new.disk in
    let made = g.D.Disk.shown c.fresh.new.disk in
    let told : mid.tells ≡ before.tells = c.in_ok-mend.ensures.counts.1 in
    let tells : made.tells ≡ mid.tells = search rules in
    let same = to_z-of_z w32 c.args.date c.ranges.date in
    let moment = subst (λ (k : ℕ). IsTrue mid.tells → Passes mid made k (λ _. Unit {0})) (c.log_file.ensures ∙ ap log_file same) c.fresh.ensures.any_moment in
    let allowed = subst (λ (l : List ManifestRecord). IsManifest (l ++ m.Opened c.args.by c.args.date ∷ [])) (sym c.in_ok-mend.ensures.records) c.requires.allowed in
    fresh-ready mid made tells c.mend.new.self c.in_ok-mend.ensures.whole c.args.by c.args.date allowed moment c.in_ok-mend.ensures.ready

pub open_date-requires-clause-ready : goal.open_date-requires-clause-ready
open_date-requires-clause-ready g c =
    let before = g.D.Disk.shown c.args.disk.now in
    let mid = g.D.Disk.shown c.mend.new.disk in
    let made = g.D.Disk.shown c.fresh.new.disk in
    let told : mid.tells ≡ before.tells = c.in_ok-mend.ensures.counts.1 in
    let tells : made.tells ≡ mid.tells = search rules in
    let same = to_z-of_z w32 c.args.date c.ranges.date in
    let moment = subst (λ (k : ℕ). IsTrue mid.tells → Passes mid made k (λ _. Unit {0})) (c.log_file.ensures ∙ ap log_file same) c.fresh.ensures.any_moment in
    let allowed = subst (λ (l : List ManifestRecord). IsManifest (l ++ m.Opened c.args.by c.args.date ∷ [])) (sym c.in_ok-mend.ensures.records) c.requires.allowed in
    fresh-ready mid made tells c.mend.new.self c.in_ok-mend.ensures.whole c.args.by c.args.date allowed moment c.in_ok-mend.ensures.ready

pub returns-clause-added : goal.returns-clause-added
returns-clause-added g c =
    let before = g.D.Disk.shown c.args.disk.now in
    let mid = g.D.Disk.shown c.mend.new.disk in
    let made = g.D.Disk.shown c.fresh.new.disk in
    let told : mid.tells ≡ before.tells = c.in_ok-mend.ensures.counts.1 in
    let tells : made.tells ≡ mid.tells = search rules in
    let same = to_z-of_z w32 c.args.date c.ranges.date in
    let moment = subst (λ (k : ℕ). IsTrue mid.tells → Passes mid made k (λ _. Unit {0})) (c.log_file.ensures ∙ ap log_file same) c.fresh.ensures.any_moment in
    let allowed = subst (λ (l : List ManifestRecord). IsManifest (l ++ m.Opened c.args.by c.args.date ∷ [])) (sym c.in_ok-mend.ensures.records) c.requires.allowed in
    on_ok_weaker c.open_date.result
    (λ added schema first entries late stores.
    subst (λ (d : ℤ). Stores (g.D.Disk.shown c.open_date.new.disk) c.open_date.new.self schema first (entries ++ e.Roll c.args.by d ∷ []) None) same
    (added schema first entries (fresh-kept mid made tells c.mend.new.self c.in_ok-mend.ensures.whole c.args.by c.args.date allowed moment schema first entries (c.in_ok-mend.ensures.mended schema first entries late stores))))
    c.open_date.ensures.added

pub returns-clause-failed : goal.returns-clause-failed
returns-clause-failed g c =
    let before = g.D.Disk.shown c.args.disk.now in
    let mid = g.D.Disk.shown c.mend.new.disk in
    let made = g.D.Disk.shown c.fresh.new.disk in
    let told : mid.tells ≡ before.tells = c.in_ok-mend.ensures.counts.1 in
    let tells : made.tells ≡ mid.tells = search rules in
    let same = to_z-of_z w32 c.args.date c.ranges.date in
    let moment = subst (λ (k : ℕ). IsTrue mid.tells → Passes mid made k (λ _. Unit {0})) (c.log_file.ensures ∙ ap log_file same) c.fresh.ensures.any_moment in
    let allowed = subst (λ (l : List ManifestRecord). IsManifest (l ++ m.Opened c.args.by c.args.date ∷ [])) (sym c.in_ok-mend.ensures.records) c.requires.allowed in
    on_err_weaker c.open_date.result
    (λ failed schema first entries late stores.
    left-leaves (Stores (g.D.Disk.shown c.open_date.new.disk) c.open_date.new.self schema first entries) late c.open_date.new.self.manifest.journal.state (e.Roll c.args.by c.args.date)
    (subst (λ (d : ℤ). Stores (g.D.Disk.shown c.open_date.new.disk) c.open_date.new.self schema first entries (left_of c.open_date.new.self.manifest.journal.state (e.Roll c.args.by d))) same
    (failed schema first entries (fresh-kept mid made tells c.mend.new.self c.in_ok-mend.ensures.whole c.args.by c.args.date allowed moment schema first entries (c.in_ok-mend.ensures.mended schema first entries late stores)))))
    c.open_date.ensures.failed

pub returns-clause-any_moment : goal.returns-clause-any_moment
returns-clause-any_moment g c = λ schema first entries late stores t.
    let before = g.D.Disk.shown c.args.disk.now in
    let mid = g.D.Disk.shown c.mend.new.disk in
    let made = g.D.Disk.shown c.fresh.new.disk in
    let told : mid.tells ≡ before.tells = c.in_ok-mend.ensures.counts.1 in
    let tells : made.tells ≡ mid.tells = search rules in
    let same = to_z-of_z w32 c.args.date c.ranges.date in
    let moment = subst (λ (k : ℕ). IsTrue mid.tells → Passes mid made k (λ _. Unit {0})) (c.log_file.ensures ∙ ap log_file same) c.fresh.ensures.any_moment in
    let allowed = subst (λ (l : List ManifestRecord). IsManifest (l ++ m.Opened c.args.by c.args.date ∷ [])) (sym c.in_ok-mend.ensures.records) c.requires.allowed in
    let after = g.D.Disk.shown c.open_date.new.disk in
    let kept = fresh-kept mid made tells c.mend.new.self c.in_ok-mend.ensures.whole c.args.by c.args.date allowed moment schema first entries (c.in_ok-mend.ensures.mended schema first entries late stores) in
    throughout-join before made after (RestartsEither schema first entries late (Some (e.Roll c.args.by c.args.date)))
    (
    throughout-join before mid made (RestartsEither schema first entries late (Some (e.Roll c.args.by c.args.date)))
    (throughout-weaker before mid (RestartsAs schema first entries late) (RestartsEither schema first entries late (Some (e.Roll c.args.by c.args.date))) (λ files r image is. inl (r image is)) (c.mend.ensures.any_moment schema first entries late stores t))
    (throughout-weaker mid made (RestartsAs schema first entries None) (RestartsEither schema first entries late (Some (e.Roll c.args.by c.args.date))) (λ files r image is. inr (inl (r image is)))
    (fresh-moment mid made tells c.mend.new.self c.in_ok-mend.ensures.whole c.args.by c.args.date allowed moment schema first entries (c.in_ok-mend.ensures.mended schema first entries late stores) (subst IsTrue (sym told) t))))
    (throughout-weaker made after (RestartsAs schema first entries (Some (e.Roll c.args.by c.args.date))) (RestartsEither schema first entries late (Some (e.Roll c.args.by c.args.date))) (λ files r image is. inr (r image is))
    (subst (λ (d : ℤ). Throughout made after (RestartsAs schema first entries (Some (e.Roll c.args.by d)))) same
    (c.open_date.ensures.any_moment schema first entries kept (subst IsTrue (sym (tells ∙ told)) t))))
