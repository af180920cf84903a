use Rattle.std.proofs.Common.{◌≡◌, inl, inr, Some, IsTrue, subst, sym}
use Rattle.std.proofs.lemmas.Result.{on_err_weaker}
use Rattle.date_logs.specs.Moments.{RestartsAs, RestartsEither}
use Rattle.date_logs.specs.Stores.{Stores}
use Rattle.date_logs.proofs.Mending.{at-err, widened}
use Rattle.date_logs.proofs.Adding.{left-leaves}
use Rattle.date_logs.proofs.Moments.{throughout-join, throughout-weaker}
use Rattle.date_logs.proofs.logs.DateLogs.append.Goals as goal

pub returns-in_err-mend-clause-failed : goal.returns-in_err-mend-clause-failed
returns-in_err-mend-clause-failed g c = at-err _ c.from_residual.result (λ schema first entries late entry stores chunk. widened (c.in_err-mend.ensures.failed schema first entries late stores))

pub returns-in_err-mend-clause-any_moment : goal.returns-in_err-mend-clause-any_moment
returns-in_err-mend-clause-any_moment g c = λ schema first entries late entry stores chunk tells.
    throughout-weaker (g.D.Disk.shown c.args.disk.now) (g.D.Disk.shown c.mend.new.disk) (RestartsAs schema first entries late) (RestartsEither schema first entries late (Some entry)) (λ files r image is. inl (r image is))
    (c.mend.ensures.any_moment schema first entries late stores tells)

pub returns-clause-failed : goal.returns-clause-failed
returns-clause-failed g c =
    on_err_weaker c.append_clean.result
    (λ failed schema first entries late entry stores chunk.
    left-leaves (Stores (g.D.Disk.shown c.append_clean.new.disk) c.append_clean.new.self schema first entries) late c.append_clean.new.self.log.state entry
    (failed schema first entries entry (c.in_ok-mend.ensures.mended schema first entries late stores) chunk))
    c.append_clean.ensures.failed

pub returns-clause-any_moment : goal.returns-clause-any_moment
returns-clause-any_moment g c = λ schema first entries late entry stores chunk tells.
    let before = g.D.Disk.shown c.args.disk.now in
    let mid = g.D.Disk.shown c.mend.new.disk in
    let after = g.D.Disk.shown c.append_clean.new.disk in
    let told : mid.tells ≡ before.tells = c.in_ok-mend.ensures.counts.1 in
    throughout-join before mid after (RestartsEither schema first entries late (Some entry))
    (throughout-weaker before mid (RestartsAs schema first entries late) (RestartsEither schema first entries late (Some entry)) (λ files r image is. inl (r image is)) (c.mend.ensures.any_moment schema first entries late stores tells))
    (throughout-weaker mid after (RestartsAs schema first entries (Some entry)) (RestartsEither schema first entries late (Some entry)) (λ files r image is. inr (r image is))
    (c.append_clean.ensures.any_moment schema first entries entry (c.in_ok-mend.ensures.mended schema first entries late stores) chunk (subst IsTrue (sym told) tells)))
