use Rattle.session.proofs.PlainLemmas.{within_plain}
use Rattle.session.proofs.answer.reply_over.Goals as goal

pub respond-requires-clause-plain : goal.respond-requires-clause-plain
respond-requires-clause-plain c = within_plain c.args.limits.now _ c.requires.limits c.in_ok-value.ensures.shaped
