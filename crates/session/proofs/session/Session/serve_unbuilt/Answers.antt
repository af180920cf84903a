use Rattle.std.proofs.Common.{Some, None}
use Rattle.session.proofs.DeviceLemmas.{asks-none}
use Rattle.session.proofs.PerformLemmas.{serves-then, ends-anyhow}
use Rattle.session.proofs.ServingLemmas.{unbuilt_performs}
use Rattle.session.proofs.session.Session.serve_unbuilt.Goals as goal

pub returns-in-Some-clause-performs : goal.returns-in-Some-clause-performs
returns-in-Some-clause-performs g c = λ at.
    let n = c.in-Some.ensures in
    let u = c.unserved.ensures in
    ends-anyhow _ _ _ _ _ _ _ (unbuilt_performs g.A.Access.shown g.L.Link.shown g.C.Clock.readings g.N.Recorder.noted c.args.self.now c.finish.new.self c.args.self.now.limits.now c.args.sync at c.unserved.result (Some c.in-Some.end) (asks-none c.args.self.now) c.requires.same u.roll u.turn u.reply n.same n.access n.clock n.noted n.sent)

pub returns-clause-performs : goal.returns-clause-performs
returns-clause-performs g c = λ at.
    let n = c.in-None.ensures in
    let u = c.unserved.ensures in
    serves-then _ _ _ _ _ _ _ _ (unbuilt_performs g.A.Access.shown g.L.Link.shown g.C.Clock.readings g.N.Recorder.noted c.args.self.now c.finish.new.self c.args.self.now.limits.now c.args.sync at c.unserved.result None (asks-none c.args.self.now) c.requires.same u.roll u.turn u.reply n.same n.access n.clock n.noted n.sent) c.publish.ensures.performs
