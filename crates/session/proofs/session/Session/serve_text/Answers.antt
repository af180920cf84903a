use Rattle.std.proofs.Common.{refl}
use Rattle.session_requests.specs.Request.{request_of, text}
use Rattle.session.proofs.DeviceLemmas.{asks-none}
use Rattle.session.proofs.PerformLemmas.{value_performs}
use Rattle.session.proofs.ServedLemmas.{does_short}
use Rattle.session.proofs.session.Session.serve_text.Goals as goal

pub returns-in_default-clause-performs : goal.returns-in_default-clause-performs
returns-in_default-clause-performs g c = λ value is.
    let n = c.finish.ensures in
    let s = c.short.ensures in
    value_performs g.A.Access.shown g.L.Link.shown g.C.Clock.readings g.N.Recorder.noted c.args.self.now c.args.self.now c.finish.new.self c.args.sync value (request_of value) c.short.result c.finish.result refl (asks-none c.args.self.now) n.same n.access n.clock
    (does_short _ _ c.args.sync (request_of value) _ s.roll s.turn s.reply) n.noted n.sent

pub returns-clause-performs : goal.returns-clause-performs
returns-clause-performs g c = λ value is.
    let n = c.finish-in_default-question.ensures in
    let t = c.answer_text-answer.ensures in
    value_performs g.A.Access.shown g.L.Link.shown g.C.Clock.readings g.N.Recorder.noted c.args.self.now c.answer_text-answer.new.self c.finish-in_default-question.new.self c.args.sync value (text c.args.bytes.now) c.answer_text-answer.result c.finish-in_default-question.result is t.same n.same n.access n.clock
    (rw t.clock (t.does c.args.bytes.now (g.C.Clock.readings c.args.self.now.clock.now) c.in-Ok.ensures)) n.noted n.sent
