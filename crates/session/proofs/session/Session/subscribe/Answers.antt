use Rattle.std.proofs.Common.{◌≡◌, refl, ap, subst, true, List, Some, inl, inr}
use Rattle.day_rows.specs.declared.schema.Shape.{Shape}
use Rattle.pubsub.specs.Filters.{is_known, table_names}
use Rattle.session.specs.Answering.{sent_by}
use Rattle.session.specs.Devices.{state_of}
use Rattle.session_requests.specs.Request.{request_of}
use Rattle.session.proofs.DeviceLemmas.{asks-none}
use Rattle.session.proofs.PerformLemmas.{value_performs, ends-anyhow}
use Rattle.session.proofs.PublishLemmas.{publishes_told}
use Rattle.session.proofs.ServedLemmas.{does_short}
use Rattle.session.proofs.SubscribeLemmas.{chosen-schema, does_short_look, subscribed_performs, told_subscribed, too_much_performs, unknown_performs}
use Rattle.session.proofs.session.Session.subscribe.Goals as goal

pub returns-in-Err-clause-performs : goal.returns-in-Err-clause-performs
returns-in-Err-clause-performs g c = λ value is.
    let n = c.finish.ensures in
    unknown_performs g.A.Access.shown g.L.Link.shown g.C.Clock.readings g.N.Recorder.noted c.args.self.now c.finish.new.self c.args.self.now.limits.now c.args.sync value c.args.request.now c.in-Err.why c.unknown.result c.finish.result (asks-none c.args.self.now) is c.requires.same c.requires.fits c.in-Err.ensures.refused c.unknown.ensures n.same n.access n.clock n.noted n.sent

pub returns-in_default-clause-performs : goal.returns-in_default-clause-performs
returns-in_default-clause-performs g c = λ value is.
    let n = c.finish-in_default.ensures in
    let s = c.short.ensures in
    value_performs g.A.Access.shown g.L.Link.shown g.C.Clock.readings g.N.Recorder.noted c.args.self.now c.args.self.now c.finish-in_default.new.self c.args.sync value (request_of value) c.short.result c.finish-in_default.result refl (asks-none c.args.self.now) n.same n.access n.clock
    (does_short _ _ c.args.sync (request_of value) _ s.roll s.turn s.reply) n.noted n.sent

pub returns-in-Ok-Nothing-clause-performs : goal.returns-in-Ok-Nothing-clause-performs
returns-in-Ok-Nothing-clause-performs g c = λ value is.
    let h = c.in-Ok-Nothing.ensures in
    let owes = rw c.in-Ok-Nothing.field-0-is at h.owes in
    let t = c.take_up.ensures in
    let known = subst (λ (schema : List Shape). is_known c.args.request.now.tables (table_names schema) ≡ true) (chosen-schema (g.A.Access.shown c.args.self.now.access.now).frame _ _ c.requires.fits) c.in-Ok.ensures.known in
    inl (subscribed_performs g.A.Access.shown g.L.Link.shown g.C.Clock.readings g.N.Recorder.noted c.args.self.now c.owed.new.self c.take_up.new.self c.args.self.now.limits.now c.args.sync value c.args.request.now c.in-Ok.subscription (sent_by c.in-Ok-reply_to.reply) c.in-Ok-Nothing.to c.take_up.result is c.requires.same c.requires.fits
    h.same.recorder h.same.link h.clock h.sees owes.0 owes.1 known c.in-Ok.ensures.ok c.in-Ok-reply_to.ensures t.access t.clock t.subscriber t.noted t.sent)

pub returns-in-Some-clause-performs : goal.returns-in-Some-clause-performs
returns-in-Some-clause-performs g c = λ value is.
    let h = c.in-Ok-Messages.ensures in
    let owes = rw c.in-Ok-Messages.field-0-is at h.owes in
    let t = c.in-Some.ensures in
    let sent = rw c.deref.ensures.value at t.sent in
    ends-anyhow _ _ _ _ _ _ _ (inr (ap Some sent.0, publishes_told g.A.Access.shown g.L.Link.shown g.C.Clock.readings g.N.Recorder.noted c.args.self.now c.owed.new.self c.tell.new.self (state_of g.A.Access.shown c.args.self.now) c.in-Ok-Messages.from c.in-Ok-Messages.to _ (Some c.in-Some.end) h.same h.clock h.sees owes t.access t.clock t.subscriber t.noted sent refl refl))

pub returns-in-None-clause-performs : goal.returns-in-None-clause-performs
returns-in-None-clause-performs g c = λ value is.
    let h = c.in-Ok-Messages.ensures in
    let owes = rw c.in-Ok-Messages.field-0-is at h.owes in
    let w = c.in-None.ensures in
    let sent = rw c.deref.ensures.value at w.sent in
    let t = c.take_up-in-None.ensures in
    let known = subst (λ (schema : List Shape). is_known c.args.request.now.tables (table_names schema) ≡ true) (chosen-schema (g.A.Access.shown c.args.self.now.access.now).frame _ _ c.requires.fits) c.in-Ok.ensures.known in
    told_subscribed g.A.Access.shown g.L.Link.shown g.C.Clock.readings g.N.Recorder.noted c.args.self.now c.owed.new.self c.tell.new.self c.take_up-in-None.new.self c.args.self.now.limits.now c.args.sync value c.args.request.now c.in-Ok.subscription (sent_by c.in-Ok-reply_to.reply) _ c.in-Ok-Messages.from c.in-Ok-Messages.to c.take_up-in-None.result is c.requires.same c.requires.fits
    h.same h.clock h.sees owes w.access w.clock w.subscriber w.noted sent known c.in-Ok.ensures.ok c.in-Ok-reply_to.ensures t.access t.clock t.subscriber t.noted t.sent

pub returns-in-Ok-TooLong-clause-performs : goal.returns-in-Ok-TooLong-clause-performs
returns-in-Ok-TooLong-clause-performs g c = λ value is.
    let h = c.in-Ok-TooLong.ensures in
    let owes = rw c.in-Ok-TooLong.field-0-is at h.owes in
    let n = c.finish-in-Ok-TooLong.ensures in
    let u = c.too_long.ensures in
    too_much_performs g.A.Access.shown g.L.Link.shown g.C.Clock.readings g.N.Recorder.noted c.args.self.now c.owed.new.self c.finish-in-Ok-TooLong.new.self c.args.self.now.limits.now c.args.sync value c.args.request.now c.in-Ok-TooLong.from c.in-Ok-TooLong.to c.too_long.result c.finish-in-Ok-TooLong.result is c.requires.same h.same h.clock h.sees owes u.roll u.turn (rw h.same.unheard.unheard.devices.limits at u.reply) n.same n.access n.clock n.noted n.sent

pub returns-in-Err-owed-clause-performs : goal.returns-in-Err-owed-clause-performs
returns-in-Err-owed-clause-performs g c = λ value is.
    let h = c.in-Err-owed.ensures in
    let n = c.finish-in-Err-owed.ensures in
    let s = c.short-in-Err-owed.ensures in
    value_performs g.A.Access.shown g.L.Link.shown g.C.Clock.readings g.N.Recorder.noted c.args.self.now c.owed.new.self c.finish-in-Err-owed.new.self c.args.sync value (request_of value) c.short-in-Err-owed.result c.finish-in-Err-owed.result refl h.same n.same n.access n.clock
    (does_short_look _ _ _ _ c.args.sync (request_of value) _ (ap g.C.Clock.readings h.clock) h.sees s.roll s.turn s.reply) n.noted n.sent
