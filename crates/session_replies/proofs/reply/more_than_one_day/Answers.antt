use Rattle.session_replies.proofs.ReplyLemmas.{more_than_one_day_is}
use Rattle.session_replies.proofs.reply.more_than_one_day.Goals as goal

pub returns : goal.returns
returns c = more_than_one_day_is c.args.limits.now _ c.fixed.ensures
