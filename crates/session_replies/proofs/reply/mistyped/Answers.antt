use Rattle.session_replies.proofs.ReplyLemmas.{mistyped_is}
use Rattle.session_replies.proofs.reply.mistyped.Goals as goal

pub returns : goal.returns
returns c = mistyped_is c.args.limits.now _ c.fixed.ensures
