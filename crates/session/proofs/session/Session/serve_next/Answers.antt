use Rattle.std.proofs.Common.{refl, ◌∙◌}
use Rattle.session.proofs.EventLemmas.{greeting_goes, message_goes, outside_goes}
use Rattle.session.proofs.QuietEndLemmas.{bad_end, failed_end, input_end}
use Rattle.session.proofs.StepLemmas.{more_step, idle_goes}
use Rattle.session.proofs.session.Session.serve_next.Goals as goal

pub returns-in-More-clause-goes : goal.returns-in-More-clause-goes
returns-in-More-clause-goes g c = λ place at. more_step c.args.self.now.limits.now place _ _ _ _ _ _ _ _ _ c.requires.known at c.requires.some c.in-More.ensures

pub returns-in-Greeting-clause-goes : goal.returns-in-Greeting-clause-goes
returns-in-Greeting-clause-goes g c = λ place at. greeting_goes c.args.self.now.limits.now place _ _ _ _ _ _ _ _ _ _ _ c.in-Greeting.capability _ refl refl c.requires.known at c.requires.some c.in-Greeting.ensures c.greet.ensures.noted c.greet.ensures.sent

pub returns-in-Message-clause-goes : goal.returns-in-Message-clause-goes
returns-in-Message-clause-goes g c = λ place at.
    let h = c.in-Message.ensures in
    let same = c.serve_message.ensures.same in
    rw same.idles_left (message_goes c.args.self.now.limits.now place _ _ _ _ _ _ _ _ _ _ _ _ _ _ _ _ _ c.requires.known at c.requires.some h.0 h.1 (same.reader ∙ h.2) c.serve_message.ensures.performs)

pub returns-in-Outside-clause-goes : goal.returns-in-Outside-clause-goes
returns-in-Outside-clause-goes g c = λ place at.
    let h = c.in-Outside.ensures in
    let same = c.serve_unbuilt.ensures.same in
    rw (same.idles_left, same.reader) (outside_goes c.args.self.now.limits.now place _ _ _ _ _ _ _ _ _ _ _ _ _ _ c.in-Outside.sync _ c.requires.known at c.requires.some h c.serve_unbuilt.ensures.performs)

pub returns-in-Skipped-clause-goes : goal.returns-in-Skipped-clause-goes
returns-in-Skipped-clause-goes g c = λ place at.
    let h = c.in-Skipped.ensures in
    let same = c.serve_skipped.ensures.same in
    rw same.idles_left (message_goes c.args.self.now.limits.now place _ _ _ _ _ _ _ _ _ _ _ _ _ _ _ _ _ c.requires.known at c.requires.some h.0 h.1.1 (same.reader ∙ h.2) (c.serve_skipped.ensures.performs h.1.0))

pub returns-in-Bad-clause-goes : goal.returns-in-Bad-clause-goes
returns-in-Bad-clause-goes g c = λ place at.
    let h = c.in-Bad.ensures in
    bad_end c.args.self.now.limits.now place _ _ _ _ _ _ _ _ _ _ refl c.requires.known at c.requires.some h.0 h.1

pub returns-in-Idle-clause-goes : goal.returns-in-Idle-clause-goes
returns-in-Idle-clause-goes g c = λ place at.
    let h = c.in-Idle.ensures in
    rw c.time_out.ensures.reader (idle_goes c.args.self.now.limits.now place _ _ _ _ _ _ _ _ _ _ _ _ _ _ _ _ refl c.requires.known at h.0 h.1 h.2 c.time_out.ensures.times_out c.time_out.ensures.left)

pub returns-in-Ended-clause-goes : goal.returns-in-Ended-clause-goes
returns-in-Ended-clause-goes g c = λ place at.
    let h = c.in-Ended.ensures in
    rw c.end_of_input.ensures (input_end c.args.self.now.limits.now place _ _ _ _ _ _ _ _ _ c.in-Ended.between refl c.requires.known c.requires.some h.0 h.1 h.2 h.3)

pub returns-in-Failed-clause-goes : goal.returns-in-Failed-clause-goes
returns-in-Failed-clause-goes g c = λ place at.
    let h = c.in-Failed.ensures in
    failed_end c.args.self.now.limits.now place _ _ _ _ _ _ _ _ _ refl c.requires.known c.requires.some h.0 h.1 h.2
