use Rattle.std.proofs.Common.{refl}
use Rattle.session.proofs.PublishLemmas.{publishes_nothing, publishes_told, publishes_too_long, publishes_short}
use Rattle.session.proofs.session.Session.publish_owed.Goals as goal

pub returns-in-Ok-Nothing-clause-performs : goal.returns-in-Ok-Nothing-clause-performs
returns-in-Ok-Nothing-clause-performs g c =
    let h = c.in-Ok-Nothing.ensures in
    let owes = rw c.in-Ok-Nothing.field-0-is at h.owes in
    publishes_nothing g.A.Access.shown g.L.Link.shown g.C.Clock.readings g.N.Recorder.noted c.args.self.now c.owed.new.self c.requires.some.0 _ h.same h.clock h.sees c.requires.some.1 c.requires.fits owes.0 owes.1

pub returns-in-Ok-Messages-clause-performs : goal.returns-in-Ok-Messages-clause-performs
returns-in-Ok-Messages-clause-performs g c =
    let h = c.in-Ok-Messages.ensures in
    let owes = rw c.in-Ok-Messages.field-0-is at h.owes in
    let t = c.tell.ensures in
    publishes_told g.A.Access.shown g.L.Link.shown g.C.Clock.readings g.N.Recorder.noted c.args.self.now c.owed.new.self c.tell.new.self _ c.in-Ok-Messages.from c.in-Ok-Messages.to _ _ h.same h.clock h.sees owes t.access t.clock t.subscriber t.noted (rw c.deref.ensures.value at t.sent) refl refl

pub returns-in-Ok-TooLong-clause-performs : goal.returns-in-Ok-TooLong-clause-performs
returns-in-Ok-TooLong-clause-performs g c =
    let h = c.in-Ok-TooLong.ensures in
    let owes = rw c.in-Ok-TooLong.field-0-is at h.owes in
    let n = c.note.ensures in
    publishes_too_long g.A.Access.shown g.L.Link.shown g.C.Clock.readings g.N.Recorder.noted c.args.self.now c.owed.new.self c.note.new.self c.in-Ok-TooLong.from c.in-Ok-TooLong.to h.same h.clock h.sees owes n.access n.clock n.same.subscriber n.link n.noted

pub returns-in-Err-clause-performs : goal.returns-in-Err-clause-performs
returns-in-Err-clause-performs g c =
    let h = c.in-Err.ensures in
    let n = c.note-in-Err.ensures in
    publishes_short g.A.Access.shown g.L.Link.shown g.C.Clock.readings g.N.Recorder.noted c.args.self.now c.owed.new.self c.note-in-Err.new.self c.requires.some.0 h.same h.clock h.sees c.requires.some.1 n.access n.clock n.same.subscriber n.link n.noted
