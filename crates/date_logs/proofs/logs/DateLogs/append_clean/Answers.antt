use Rattle.std.proofs.Common.{rules, ◌≡◌}
use Rattle.std.proofs.lemmas.Result.{on_ok_weaker, on_err_weaker}
use Rattle.date_logs.proofs.Adding.{append-added, append-failed, append-moment, append-ready}
use Rattle.date_logs.proofs.logs.DateLogs.append_clean.Goals as goal

pub returns-clause-added : goal.returns-clause-added
returns-clause-added g c =
    let before = g.D.Disk.shown c.args.disk.now in
    let after = g.D.Disk.shown c.append.new.disk in
    let tells : after.tells ≡ before.tells = search rules in
    on_ok_weaker c.append.result
    (λ added schema first entries entry stores chunk. append-added before after tells c.self.inside.manifest c.self.inside.log c.append.new.self c.args.self.now c.self.view_is c.append.ensures.file c.args.chunk.now.bytes c.append.ensures.any_moment schema first entries entry stores chunk added)
    c.append.ensures.added

pub returns-clause-failed : goal.returns-clause-failed
returns-clause-failed g c =
    let before = g.D.Disk.shown c.args.disk.now in
    let after = g.D.Disk.shown c.append.new.disk in
    let tells : after.tells ≡ before.tells = search rules in
    on_err_weaker c.append.result
    (λ failed schema first entries entry stores chunk. append-failed before after tells c.self.inside.manifest c.self.inside.log c.append.new.self c.args.self.now c.self.view_is c.append.ensures.file c.args.chunk.now.bytes c.append.ensures.any_moment schema first entries entry stores chunk failed)
    c.append.ensures.failed

pub returns-clause-any_moment : goal.returns-clause-any_moment
returns-clause-any_moment g c = λ schema first entries entry stores chunk.
    let before = g.D.Disk.shown c.args.disk.now in
    let after = g.D.Disk.shown c.append.new.disk in
    let tells : after.tells ≡ before.tells = search rules in
    append-moment before after tells c.self.inside.manifest c.self.inside.log c.append.new.self c.args.self.now c.self.view_is c.append.ensures.file c.args.chunk.now.bytes c.append.ensures.any_moment schema first entries entry stores chunk

pub returns-clause-ready : goal.returns-clause-ready
returns-clause-ready g c =
    let before = g.D.Disk.shown c.args.disk.now in
    let after = g.D.Disk.shown c.append.new.disk in
    let tells : after.tells ≡ before.tells = search rules in
    append-ready before after tells c.self.inside.manifest c.self.inside.log c.append.new.self c.args.self.now c.self.view_is c.append.ensures.file c.args.chunk.now.bytes c.append.ensures.any_moment c.self.invariant c.append.ensures.others c.requires.ready c.append.ensures.has_gate
