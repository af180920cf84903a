use Rattle.q_values.specs.Tree.{trees}
use Rattle.session_requests.specs.Request.{update, mistyped, other}
use Rattle.session.proofs.DeviceLemmas.{asks-none}
use Rattle.session.proofs.PerformLemmas.{value_performs}
use Rattle.session.proofs.ServedLemmas.{does_mistyped, does_unserved}
use Rattle.session.proofs.session.Session.serve_asked.Goals as goal

pub returns-in-Update-clause-performs : goal.returns-in-Update-clause-performs
returns-in-Update-clause-performs g c = λ value asks.
    let n = c.finish.ensures in
    let u = c.answer_update-answer.ensures in
    value_performs g.A.Access.shown g.L.Link.shown g.C.Clock.readings g.N.Recorder.noted c.args.self.now c.answer_update-answer.new.self c.finish.new.self c.args.sync value (update c.in-Update.update.table (trees c.in-Update.update.items)) c.answer_update-answer.result c.finish.result (rw c.in-Update.is at asks) u.same n.same n.access n.clock u.does n.noted n.sent

pub returns-in-Mistyped-clause-performs : goal.returns-in-Mistyped-clause-performs
returns-in-Mistyped-clause-performs g c = λ value asks.
    let n = c.finish-in-Mistyped.ensures in
    let d = c.declined.ensures in
    value_performs g.A.Access.shown g.L.Link.shown g.C.Clock.readings g.N.Recorder.noted c.args.self.now c.args.self.now c.finish-in-Mistyped.new.self c.args.sync value mistyped c.declined.result c.finish-in-Mistyped.result (rw c.in-Mistyped.is at asks) (asks-none c.args.self.now) n.same n.access n.clock
    (does_mistyped _ _ c.args.self.now.limits.now c.args.sync _ c.requires.same d.roll d.turn d.reply) n.noted n.sent

pub returns-in-Other-clause-performs : goal.returns-in-Other-clause-performs
returns-in-Other-clause-performs g c = λ value asks.
    let n = c.finish-in-Other.ensures in
    let d = c.unserved.ensures in
    value_performs g.A.Access.shown g.L.Link.shown g.C.Clock.readings g.N.Recorder.noted c.args.self.now c.args.self.now c.finish-in-Other.new.self c.args.sync value other c.unserved.result c.finish-in-Other.result (rw c.in-Other.is at asks) (asks-none c.args.self.now) n.same n.access n.clock
    (does_unserved _ _ c.args.self.now.limits.now c.args.sync _ c.requires.same d.roll d.turn d.reply) n.noted n.sent
