use Rattle.session_replies.proofs.ReplyLemmas.{limit_is}
use Rattle.session_replies.proofs.reply.over_the_limit.Goals as goal

pub returns : goal.returns
returns c = limit_is c.args.limits.now _ c.fixed.ensures
