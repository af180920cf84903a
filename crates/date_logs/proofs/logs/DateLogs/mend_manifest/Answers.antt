use Rattle.std.proofs.Common.{rules, ◌≡◌}
use Rattle.std.proofs.lemmas.Result.{on_ok_weaker, on_err_weaker}
use Rattle.date_logs.proofs.Mending.{manifest-mended, manifest-failed, manifest-moment, manifest-ready}
use Rattle.date_logs.proofs.logs.DateLogs.mend_manifest.Goals as goal

pub returns-clause-mended : goal.returns-clause-mended
returns-clause-mended g c =
    let before = g.D.Disk.shown c.args.disk.now in
    let after = g.D.Disk.shown c.mend.new.disk in
    let tells : after.tells ≡ before.tells = search rules in
    on_ok_weaker c.mend.result
    (λ mended. manifest-mended before after tells c.self.inside.manifest c.mend.new.self c.self.inside.log c.args.self.now c.self.view_is c.mend.ensures.file c.mend.ensures.records c.mend.ensures.any_moment mended)
    c.mend.ensures.mended

pub returns-clause-failed : goal.returns-clause-failed
returns-clause-failed g c =
    let before = g.D.Disk.shown c.args.disk.now in
    let after = g.D.Disk.shown c.mend.new.disk in
    let tells : after.tells ≡ before.tells = search rules in
    on_err_weaker c.mend.result
    (λ failed. manifest-failed before after tells c.self.inside.manifest c.mend.new.self c.self.inside.log c.args.self.now c.self.view_is c.mend.ensures.file c.mend.ensures.records c.mend.ensures.any_moment failed)
    c.mend.ensures.failed

pub returns-clause-any_moment : goal.returns-clause-any_moment
returns-clause-any_moment g c =
    let before = g.D.Disk.shown c.args.disk.now in
    let after = g.D.Disk.shown c.mend.new.disk in
    let tells : after.tells ≡ before.tells = search rules in
    manifest-moment before after tells c.self.inside.manifest c.mend.new.self c.self.inside.log c.args.self.now c.self.view_is c.mend.ensures.file c.mend.ensures.records c.mend.ensures.any_moment

pub returns-clause-ready : goal.returns-clause-ready
returns-clause-ready g c =
    let before = g.D.Disk.shown c.args.disk.now in
    let after = g.D.Disk.shown c.mend.new.disk in
    let tells : after.tells ≡ before.tells = search rules in
    manifest-ready before after tells c.self.inside.manifest c.mend.new.self c.self.inside.log c.args.self.now c.self.view_is c.mend.ensures.file c.mend.ensures.records c.mend.ensures.any_moment c.self.invariant c.mend.ensures.others c.requires c.mend.ensures.has_gate
