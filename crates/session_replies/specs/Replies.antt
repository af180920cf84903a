-- The responses of the code.
use Rattle.std.specs.Prelude.{◌≡◌, ℕ, nat_lt, if◌then◌else◌, List, length, codes}
use Rattle.plant_memory.specs.declared.refusal.UpdRefusal.{UpdRefusal}
use Rattle.plant_memory.specs.declared.refusal.UpdRefusal.TheVariants as r
use Rattle.q_values.specs.Tree.{wrong}
use Rattle.q_values.specs.declared.limits.Limits.{Limits}
use Rattle.session_replies.specs.Reply.{response, reply}
use Rattle.session_replies.specs.declared.reply.Reply.{Reply}
use Rattle.session_replies.specs.declared.reply.Reply.TheVariants.{Fixed, Made}

-- the bytes of a response, constant or encoded
abbrev pub reply_bytes : Reply → List ℕ
reply_bytes (Fixed bytes) = bytes.now
reply_bytes (Made bytes) = bytes.items

-- these bytes, or the error `limit` where they are longer than the limit
abbrev pub fixed_reply : Limits → List ℕ → List ℕ
fixed_reply limits bytes = if nat_lt limits.reply (length bytes) then response (wrong (codes "limit")) else bytes

-- the response is the text of a refusal; out of memory has none
abbrev pub Refuses : Limits → UpdRefusal → Reply → Type 0
Refuses limits (r.NoTable name) made = reply_bytes made ≡ reply limits (wrong name)
Refuses limits r.Length made = reply_bytes made ≡ reply limits (wrong (codes "length"))
Refuses limits (r.WrongType column) made = reply_bytes made ≡ reply limits (wrong (codes "type"))
Refuses limits r.MoreThanOneDay made = reply_bytes made ≡ reply limits (wrong (codes "more than one day?"))
Refuses limits r.Limit made = reply_bytes made ≡ reply limits (wrong (codes "limit"))
Refuses limits r.NoMemory made = ⊥

-- the response to this refusal takes memory, or there was none to find out why the update is refused
abbrev pub NeedsMemory : UpdRefusal → Type 0
NeedsMemory (r.NoTable name) = Unit {0}
NeedsMemory r.NoMemory = Unit {0}
NeedsMemory why = ⊥
