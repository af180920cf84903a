use Rattle.std.proofs.Common.{◌∙◌, sym, subst}
use Rattle.q_values.specs.Bytes.{HasNoNul}
use Rattle.session_replies.proofs.ReplyLemmas.{tree-wrong, wrong_plain}
use Rattle.session_replies.proofs.reply.respond_wrong.Goals as goal

pub respond-requires-clause-plain : goal.respond-requires-clause-plain
respond-requires-clause-plain c =
    let clean = subst HasNoNul (sym (c.in_ok-text.ensures ∙ c.in_ok-from_slice.ensures.items)) c.requires.no_nul in
    rw (tree-wrong c.in_ok-text.text) (λ within. wrong_plain c.in_ok-text.text clean)
