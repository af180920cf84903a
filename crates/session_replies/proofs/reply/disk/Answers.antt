use Rattle.session_replies.proofs.ReplyLemmas.{disk_is}
use Rattle.session_replies.proofs.reply.disk.Goals as goal

pub returns : goal.returns
returns c = disk_is c.args.limits.now _ c.fixed.ensures
