-- What `decode` returns.
use Rattle.std.specs.Prelude.{◌≡◌, ℕ, Result, Ok, Err}
use Rattle.q_values.specs.Tree.{Tree, tree}
use Rattle.q_values.specs.declared.value.Value.{Value}
use Rattle.ipc_codec.specs.declared.refusal.DecodeRefusal.{DecodeRefusal}
use Rattle.ipc_codec.specs.declared.refusal.DecodeRefusal.TheVariants as r

-- this value and length in bytes, unless memory ran out
abbrev pub Reads : Tree → ℕ → Result (Value × ℕ) DecodeRefusal → Type 0
Reads t n (Ok x) = (tree x.0 ≡ t) × (x.1 ≡ n)
Reads t n (Err e) = e ≡ r.NoMemory
