use Rattle.std.proofs.Common.{◌<◌}
use Rattle.session.specs.Devices.{HasSameDevices, world_of, state_of}
use Rattle.session.specs.Ended.{Runs}
use Rattle.session.proofs.session.Session.serve_all.Given as goal

abbrev pub invariant-loop : goal.invariant-loop
invariant-loop g l =
    (goal.iterator-loop g).can_next l.iterator' × (goal.iterator-loop g).is_finite l.iterator' × HasSameDevices l.fn.self l.self × Runs l.fn.self.limits.now 0
    (world_of g.A.Access.shown g.L.Link.shown g.C.Clock.readings g.N.Recorder.noted l.fn.self)
    (world_of g.A.Access.shown g.L.Link.shown g.C.Clock.readings g.N.Recorder.noted l.self)
    (state_of g.A.Access.shown l.fn.self) (state_of g.A.Access.shown l.self) l.fn.self.client.now.reader l.self.client.now.reader l.fn.self.idles_left l.self.idles_left × (0 < l.self.idles_left)
