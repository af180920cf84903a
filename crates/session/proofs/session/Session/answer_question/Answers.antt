use Rattle.gateway.specs.Views.{verdict_of}
use Rattle.session_requests.specs.Request.{text}
use Rattle.session.proofs.ServedLemmas.{does_replied, does_short_text}
use Rattle.session.proofs.session.Session.answer_question.Goals as goal

pub returns-in-Ok-reply_over-clause-does : goal.returns-in-Ok-reply_over-clause-does
returns-in-Ok-reply_over-clause-does g c = λ bytes k is.
    let h = c.in-Ok.ensures in
    does_replied _ _ k c.args.self.now.limits.now bytes (verdict_of c.args.question.now) _ c.schema.result.now c.in-Ok.snapshot c.in-Ok-reply_over.reply c.requires.same h.0 h.1 c.schema.ensures c.length-length.ensures c.in-Ok-reply_over.ensures is c.requires.asks

pub returns-in-Ok-clause-does : goal.returns-in-Ok-clause-does
returns-in-Ok-clause-does g c = λ bytes k is.
    let h = c.in-Ok.ensures in
    does_short_text _ _ k (text bytes) _ h.0 c.short.ensures.roll c.short.ensures.turn c.short.ensures.reply

pub returns-clause-does : goal.returns-clause-does
returns-clause-does g c = λ bytes k is. does_short_text _ _ k (text bytes) _ c.in-Err.ensures c.short-in-Err.ensures.roll c.short-in-Err.ensures.turn c.short-in-Err.ensures.reply
