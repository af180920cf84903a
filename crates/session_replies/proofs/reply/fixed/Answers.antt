use Rattle.std.proofs.Common.{◌≡◌, ltb, true, refl, length}
use Rattle.std.proofs.lemmas.Bool.{lt-ltb}
use Rattle.session_replies.proofs.ReplyLemmas.{response-limit}
use Rattle.session_replies.proofs.reply.fixed.Goals as goal

pub returns-then-bytes-limits : goal.returns-then-bytes-limits
returns-then-bytes-limits c =
    let longer : ltb c.args.limits.now.reply (length c.args.bytes.now) ≡ true = lt-ltb _ _ c.if-bytes-limits.true in
    rw (longer, response-limit) refl
