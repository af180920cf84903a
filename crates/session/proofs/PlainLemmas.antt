-- Values that can be written.
use Rattle.std.proofs.Common.{◌≤◌, ◌+◌, ◌∷◌, length, arith}
use Rattle.std.specs.Int.{w32, to_le_bytes}
use Rattle.std.proofs.lemmas.List.{length-append}
use Rattle.gateway.specs.Shaped.{IsShaped}
use Rattle.gateway.proofs.ShapedLemmas.{shaped_plain}
use Rattle.ipc_codec.specs.Written.{IsPlain, written}
use Rattle.q_values.specs.Limits.{AreLimits}
use Rattle.q_values.specs.Tree.{Tree}
use Rattle.q_values.specs.declared.limits.Limits.{Limits}
use Rattle.session_replies.specs.Reply.{response}

-- a value in shape whose response is within the limit can be written
pub within_plain : (limits : Limits) (t : Tree) → AreLimits limits → IsShaped t → length (response t) ≤ limits.reply → IsPlain t
within_plain limits t are shaped within = shaped_plain t shaped (omega (arith, within, are.reply, length-append (1 ∷ 2 ∷ 0 ∷ 0 ∷ to_le_bytes w32 (8 + length (written t))) (written t)))
