use Rattle.std.proofs.Common.{refl, sym, ◌∙◌}
use Rattle.qsql_request.specs.Views.{sub_of}
use Rattle.session_requests.specs.Request.{request_of}
use Rattle.session.proofs.DeviceLemmas.{asks-none}
use Rattle.session.proofs.PerformLemmas.{value_performs}
use Rattle.session.proofs.ServedLemmas.{does_short}
use Rattle.session.proofs.ServingLemmas.{formless_performs}
use Rattle.session.proofs.session.Session.serve_form.Goals as goal

pub returns-in-Ok-None-clause-performs : goal.returns-in-Ok-None-clause-performs
returns-in-Ok-None-clause-performs g c = λ value is.
    let n = c.finish.ensures in
    let d = c.declined.ensures in
    formless_performs g.A.Access.shown g.L.Link.shown g.C.Clock.readings g.N.Recorder.noted c.args.self.now c.finish.new.self c.args.self.now.limits.now c.args.sync value (sub_of c.args.form.now) c.declined.result c.finish.result (asks-none c.args.self.now) c.requires.same is (sym c.in-Ok-None.ensures ∙ c.in-Ok-None.field-0-is) d.roll d.turn d.reply n.same n.access n.clock n.noted n.sent

pub returns-in-Err-clause-performs : goal.returns-in-Err-clause-performs
returns-in-Err-clause-performs g c = λ value is.
    let n = c.finish-in-Err.ensures in
    let s = c.short.ensures in
    value_performs g.A.Access.shown g.L.Link.shown g.C.Clock.readings g.N.Recorder.noted c.args.self.now c.args.self.now c.finish-in-Err.new.self c.args.sync value (request_of value) c.short.result c.finish-in-Err.result refl (asks-none c.args.self.now) n.same n.access n.clock
    (does_short _ _ c.args.sync (request_of value) _ s.roll s.turn s.reply) n.noted n.sent
