use Rattle.session.proofs.PublishLemmas.{publishes_none}
use Rattle.session.proofs.session.Session.publish.Goals as goal

pub returns-in-None-clause-performs : goal.returns-in-None-clause-performs
returns-in-None-clause-performs g c = publishes_none g.A.Access.shown g.L.Link.shown g.C.Clock.readings g.N.Recorder.noted c.args.self.now c.in-None.is
