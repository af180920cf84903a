use Rattle.std.proofs.Common.{sym}
use Rattle.session_replies.proofs.ReplyLemmas.{response-wsfull}
use Rattle.session_replies.proofs.reply.wsfull.Goals as goal

pub returns : goal.returns
returns c = sym response-wsfull
