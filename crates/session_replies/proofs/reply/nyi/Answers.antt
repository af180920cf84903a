use Rattle.session_replies.proofs.ReplyLemmas.{nyi_is}
use Rattle.session_replies.proofs.reply.nyi.Goals as goal

pub returns : goal.returns
returns c = nyi_is c.args.limits.now _ c.fixed.ensures
