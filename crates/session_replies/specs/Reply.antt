-- The bytes of a response (KX, IPC reference).
use Rattle.std.specs.Prelude.{ℕ, ◌+◌, Bool, nat_lt, if◌then◌else◌, List, [], ◌∷◌, ◌++◌, length, codes}
use Rattle.std.specs.Int.{w32, to_le_bytes}
use Rattle.ipc_codec.specs.Written.{written}
use Rattle.plant_memory.specs.declared.refusal.UpdRefusal.{UpdRefusal}
use Rattle.plant_memory.specs.declared.refusal.UpdRefusal.TheVariants as r
use Rattle.q_values.specs.Tree.{Tree, wrong}
use Rattle.q_values.specs.declared.limits.Limits.{Limits}

-- the response with a value
abbrev pub response : Tree → List ℕ
response value = (1 ∷ 2 ∷ 0 ∷ 0 ∷ to_le_bytes w32 (8 + length (written value))) ++ written value

-- the response, or the error `limit` where it would be longer than the limit
abbrev pub reply : Limits → Tree → List ℕ
reply limits value = if nat_lt limits.reply (length (response value)) then response (wrong (codes "limit")) else response value

-- what is sent: the response to a sync message, nothing for an async one
abbrev pub replied : Bool → List ℕ → List ℕ
replied sync bytes = if sync then bytes else []

-- a refusal's text, as kdb+ users know it
abbrev pub refusal_text : UpdRefusal → List ℕ
refusal_text (r.NoTable name) = name
refusal_text r.Length = codes "length"
refusal_text (r.WrongType column) = codes "type"
refusal_text r.MoreThanOneDay = codes "more than one day?"
refusal_text r.Limit = codes "limit"
refusal_text r.NoMemory = codes "wsfull"
