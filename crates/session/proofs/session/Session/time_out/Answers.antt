use Rattle.std.proofs.Common.{arith}
use Rattle.session.proofs.ServingLemmas.{idle_performs, times_out_end, times_out_last, times_out_more}
use Rattle.session.proofs.session.Session.time_out.Goals as goal

pub returns-in-Some-clause-times_out : goal.returns-in-Some-clause-times_out
returns-in-Some-clause-times_out g c =
    let h = c.serve_timeout.ensures in
    times_out_end _ _ _ _ _ _ c.publish.new.self.idles_left _ (idle_performs g.A.Access.shown g.L.Link.shown g.C.Clock.readings g.N.Recorder.noted c.args.self.now c.serve_timeout.new.self h.same h.idled) c.in-Some.ensures.performs

pub returns-in-None-clause-times_out : goal.returns-in-None-clause-times_out
returns-in-None-clause-times_out g c =
    let h = c.serve_timeout.ensures in
    times_out_last _ _ _ _ _ _ c.publish.new.self.idles_left c.if-self-eq0.true (idle_performs g.A.Access.shown g.L.Link.shown g.C.Clock.readings g.N.Recorder.noted c.args.self.now c.serve_timeout.new.self h.same h.idled) c.in-None.ensures.performs

pub returns-in-None-2-clause-times_out : goal.returns-in-None-2-clause-times_out
returns-in-None-2-clause-times_out g c =
    let h = c.serve_timeout.ensures in
    times_out_more _ _ _ _ _ _ c.publish.new.self.idles_left (omega (arith, c.if-self-eq0.false)) (idle_performs g.A.Access.shown g.L.Link.shown g.C.Clock.readings g.N.Recorder.noted c.args.self.now c.serve_timeout.new.self h.same h.idled) c.in-None-2.ensures.performs
