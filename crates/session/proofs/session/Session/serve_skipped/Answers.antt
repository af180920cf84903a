use Rattle.std.proofs.Common.{refl, Some, None}
use Rattle.session_requests.specs.Request.{request_of}
use Rattle.session.proofs.DeviceLemmas.{asks-none}
use Rattle.session.proofs.PerformLemmas.{value_performs, serves-then, ends-anyhow}
use Rattle.session.proofs.ServedLemmas.{does_short}
use Rattle.session.proofs.session.Session.serve_skipped.Goals as goal

pub returns-in-Some-clause-performs : goal.returns-in-Some-clause-performs
returns-in-Some-clause-performs g c = λ value.
    let n = c.in-Some.ensures in
    let s = c.short.ensures in
    ends-anyhow _ _ _ _ _ _ _ (value_performs g.A.Access.shown g.L.Link.shown g.C.Clock.readings g.N.Recorder.noted c.args.self.now c.args.self.now c.finish.new.self c.args.sync value (request_of value) c.short.result (Some c.in-Some.end) refl (asks-none c.args.self.now) n.same n.access n.clock
    (does_short _ _ c.args.sync (request_of value) _ s.roll s.turn s.reply) n.noted n.sent)

pub returns-clause-performs : goal.returns-clause-performs
returns-clause-performs g c = λ value.
    let n = c.in-None.ensures in
    let s = c.short.ensures in
    serves-then _ _ _ _ _ _ _ _ (value_performs g.A.Access.shown g.L.Link.shown g.C.Clock.readings g.N.Recorder.noted c.args.self.now c.args.self.now c.finish.new.self c.args.sync value (request_of value) c.short.result None refl (asks-none c.args.self.now) n.same n.access n.clock
    (does_short _ _ c.args.sync (request_of value) _ s.roll s.turn s.reply) n.noted n.sent) c.publish.ensures.performs
