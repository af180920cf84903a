use Rattle.session_replies.proofs.ReplyLemmas.{length_is}
use Rattle.session_replies.proofs.reply.wrong_length.Goals as goal

pub returns : goal.returns
returns c = length_is c.args.limits.now _ c.fixed.ensures
