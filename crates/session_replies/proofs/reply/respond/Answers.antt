use Rattle.std.proofs.Common.{arith}
use Rattle.q_values.specs.Tree.{tree}
use Rattle.session_replies.proofs.ReplyLemmas.{too_long}
use Rattle.session_replies.proofs.reply.respond.Goals as goal

pub returns-then-length-limits-clause-value : goal.returns-then-length-limits-clause-value
returns-then-length-limits-clause-value c = too_long c.args.limits.now (tree c.args.value.now) c.response_length-length.result c.response_length-length.ensures c.if-length-limits.true

pub encode-requires : goal.encode-requires
encode-requires c = c.requires.plain (omega (arith, c.response_length-length.ensures, c.if-length-limits.false, c.requires.limits.reply))
