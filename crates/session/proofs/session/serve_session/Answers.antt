use Rattle.std.proofs.Common.{rules}
use Rattle.session.specs.Devices.{world_of}
use Rattle.session.proofs.EndLemmas.{whole_session, no_session, ends_as}
use Rattle.session.proofs.session.serve_session.Goals as goal

pub returns-in-Ok : goal.returns-in-Ok
returns-in-Ok g c =
    let made = c.new-session.ensures in
    let left = c.serve_all-end.new.self in
    ends_as g.A.Access.shown g.L.Link.shown g.C.Clock.readings g.N.Recorder.noted c.args.limits.now _ c.serve_all-end.result left.link.now _ left.clock.now _ left.recorder.now _ left.access.now _
    (search rules) (search rules) (search rules) (search rules)
    (whole_session c.args.limits.now _ (world_of g.A.Access.shown g.L.Link.shown g.C.Clock.readings g.N.Recorder.noted left) c.serve_all-end.result
    (rw (made.access.value, made.link.value, made.clock.value, made.recorder.value, made.limits, made.client, made.idles_left, c.in-Ok.ensures) at c.serve_all-end.ensures.converses))

pub returns-in-Err : goal.returns-in-Err
returns-in-Err g c = no_session c.args.limits.now _ _ _ _
