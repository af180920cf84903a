use Rattle.std.proofs.Common.{rules, ◌≡◌, ap}
use Rattle.std.proofs.lemmas.Result.{on_ok_weaker, on_err_weaker}
use Rattle.gated_journal.specs.Journal.{JournalView}
use Rattle.date_logs.proofs.Mending.{log-mended, log-failed, log-moment, log-ready}
use Rattle.date_logs.proofs.logs.DateLogs.mend_log.Goals as goal

pub returns-clause-mended : goal.returns-clause-mended
returns-clause-mended g c =
    let before = g.D.Disk.shown c.args.disk.now in
    let after = g.D.Disk.shown c.mend.new.disk in
    let tells : after.tells ≡ before.tells = search rules in
    let file : c.mend.new.self.file ≡ c.self.inside.log.file = ap (λ (j : JournalView). j.file) c.mend.ensures.same in
    on_ok_weaker c.mend.result (λ mended. log-mended before after tells c.self.inside.manifest c.self.inside.log c.mend.new.self c.args.self.now c.self.view_is file c.mend.ensures.any_moment mended) c.mend.ensures.mended

pub returns-clause-failed : goal.returns-clause-failed
returns-clause-failed g c =
    let before = g.D.Disk.shown c.args.disk.now in
    let after = g.D.Disk.shown c.mend.new.disk in
    let tells : after.tells ≡ before.tells = search rules in
    let file : c.mend.new.self.file ≡ c.self.inside.log.file = ap (λ (j : JournalView). j.file) c.mend.ensures.same in
    on_err_weaker c.mend.result (λ failed. log-failed before after tells c.self.inside.manifest c.self.inside.log c.mend.new.self c.args.self.now c.self.view_is file c.mend.ensures.any_moment failed) c.mend.ensures.failed

pub returns-clause-any_moment : goal.returns-clause-any_moment
returns-clause-any_moment g c =
    let before = g.D.Disk.shown c.args.disk.now in
    let after = g.D.Disk.shown c.mend.new.disk in
    let tells : after.tells ≡ before.tells = search rules in
    let file : c.mend.new.self.file ≡ c.self.inside.log.file = ap (λ (j : JournalView). j.file) c.mend.ensures.same in
    log-moment before after tells c.self.inside.manifest c.self.inside.log c.mend.new.self c.args.self.now c.self.view_is file c.mend.ensures.any_moment

pub returns-clause-ready : goal.returns-clause-ready
returns-clause-ready g c =
    let before = g.D.Disk.shown c.args.disk.now in
    let after = g.D.Disk.shown c.mend.new.disk in
    let tells : after.tells ≡ before.tells = search rules in
    let file : c.mend.new.self.file ≡ c.self.inside.log.file = ap (λ (j : JournalView). j.file) c.mend.ensures.same in
    log-ready before after tells c.self.inside.manifest c.self.inside.log c.mend.new.self c.args.self.now c.self.view_is file c.mend.ensures.any_moment c.self.invariant c.mend.ensures.others c.requires c.mend.ensures.has_gate
