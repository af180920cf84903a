use Rattle.gateway.specs.Views.{verdict_of}
use Rattle.session.proofs.ServedLemmas.{does_passed}
use Rattle.session.proofs.session.Session.answer_text.Goals as goal

pub returns-else-sync-clause-does : goal.returns-else-sync-clause-does
returns-else-sync-clause-does g c = λ bytes k is.
    let u = c.unserved.ensures in
    rw c.if-sync.false (does_passed _ k bytes (verdict_of c.args.question.now) c.unserved.result is c.requires.asks u.roll u.turn u.reply)
