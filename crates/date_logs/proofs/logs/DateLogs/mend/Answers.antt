use Rattle.std.proofs.Common.{◌≡◌, inl, IsTrue, subst, sym}
use Rattle.std.proofs.lemmas.Result.{on_ok_weaker, on_err_weaker}
use Rattle.date_logs.specs.Moments.{RestartsAs}
use Rattle.date_logs.specs.Stores.{Stores, without_update}
use Rattle.date_logs.proofs.Mending.{none-late, either-left, either-restarts, at-err}
use Rattle.date_logs.proofs.Moments.{throughout-join, throughout-weaker}
use Rattle.date_logs.proofs.logs.DateLogs.mend.Goals as goal

pub returns-in_err-mend_log-clause-failed : goal.returns-in_err-mend_log-clause-failed
returns-in_err-mend_log-clause-failed g c = at-err _ c.from_residual.result (λ schema first entries late stores. inl (c.in_err-mend_log.ensures.failed schema first entries late stores))

pub returns-clause-mended : goal.returns-clause-mended
returns-clause-mended g c =
    on_ok_weaker c.mend_manifest.result
    (λ mended schema first entries late stores. subst (Stores (g.D.Disk.shown c.mend_manifest.new.disk) c.mend_manifest.new.self schema first entries) (none-late late) (mended schema first entries (without_update late) (c.in_ok-mend_log.ensures.mended schema first entries late stores)))
    c.mend_manifest.ensures.mended

pub returns-clause-failed : goal.returns-clause-failed
returns-clause-failed g c =
    on_err_weaker c.mend_manifest.result
    (λ failed schema first entries late stores. either-left (Stores (g.D.Disk.shown c.mend_manifest.new.disk) c.mend_manifest.new.self schema first entries) late (failed schema first entries (without_update late) (c.in_ok-mend_log.ensures.mended schema first entries late stores)))
    c.mend_manifest.ensures.failed

pub returns-clause-any_moment : goal.returns-clause-any_moment
returns-clause-any_moment g c = λ schema first entries late stores tells.
    let before = g.D.Disk.shown c.args.disk.now in
    let mid = g.D.Disk.shown c.mend_log.new.disk in
    let told : mid.tells ≡ before.tells = c.in_ok-mend_log.ensures.counts.1 in
    throughout-join before mid (g.D.Disk.shown c.mend_manifest.new.disk) (RestartsAs schema first entries late) (c.mend_log.ensures.any_moment schema first entries late stores tells)
    (throughout-weaker mid (g.D.Disk.shown c.mend_manifest.new.disk) (RestartsAs schema first entries (without_update late)) (RestartsAs schema first entries late) (either-restarts schema first entries late)
    (c.mend_manifest.ensures.any_moment schema first entries (without_update late) (c.in_ok-mend_log.ensures.mended schema first entries late stores) (subst IsTrue (sym told) tells)))
