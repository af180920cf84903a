use Rattle.session_replies.proofs.ReplyLemmas.{done_is}
use Rattle.session_replies.proofs.reply.done.Goals as goal

pub returns : goal.returns
returns c = done_is c.args.limits.now _ c.fixed.ensures
