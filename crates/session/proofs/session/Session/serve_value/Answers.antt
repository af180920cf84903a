use Rattle.std.proofs.Common.{refl}
use Rattle.q_values.specs.Tree.{tree}
use Rattle.session_requests.specs.Request.{request_of}
use Rattle.session.proofs.DeviceLemmas.{asks-none}
use Rattle.session.proofs.PerformLemmas.{value_performs}
use Rattle.session.proofs.ServedLemmas.{does_short}
use Rattle.session.proofs.session.Session.serve_value.Goals as goal

pub returns-in-Ok-clause-performs : goal.returns-in-Ok-clause-performs
returns-in-Ok-clause-performs g c = c.serve_asked.ensures.performs (tree c.args.value) c.in-Ok.ensures

pub returns-in-Err-clause-performs : goal.returns-in-Err-clause-performs
returns-in-Err-clause-performs g c =
    let n = c.finish.ensures in
    let s = c.short.ensures in
    value_performs g.A.Access.shown g.L.Link.shown g.C.Clock.readings g.N.Recorder.noted c.args.self.now c.args.self.now c.finish.new.self c.args.sync (tree c.args.value) (request_of (tree c.args.value)) c.short.result c.finish.result refl (asks-none c.args.self.now) n.same n.access n.clock
    (does_short _ _ c.args.sync (request_of (tree c.args.value)) _ s.roll s.turn s.reply) n.noted n.sent
