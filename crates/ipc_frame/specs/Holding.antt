-- What a framer holds is never more than a handshake or a message.
use Rattle.std.specs.Prelude.{◌≤◌, ◌+◌, ◌-◌, ℕ, Bool, if◌then◌else◌, nat_lt, List, length, take, max, Result, Ok, Err, MatchBool}
use Rattle.q_values.specs.Bytes.{HasNoNul}
use Rattle.q_values.specs.declared.limits.Limits.{Limits}
use Rattle.ipc_frame.specs.Stream.{header_of}
use Rattle.ipc_frame.specs.declared.head.Head.{Head}
use Rattle.ipc_frame.specs.declared.head.BadHeader.{BadHeader}

-- the length of a message with this header; of a faulty one that of the header alone
abbrev pub extent_by : Result Head BadHeader → ℕ
extent_by (Err f) = 8
extent_by (Ok head) = head.length

-- the length up to which bytes are taken
abbrev pub reach : Limits → List ℕ → ℕ
reach limits held = if nat_lt (length held) 8 then 8 else extent_by (header_of limits held)

-- a 0 is at the end at most, and at most one byte is too many
pub record IsOneGreeting (limits : Limits) (held : List ℕ) : Type 0 where
  pub no_nul : HasNoNul (take (length held - 1) held)
  pub short : length held ≤ limits.greeting + 1

pub record IsOneMessage (limits : Limits) (held : List ℕ) : Type 0 where
  pub short : length held ≤ reach limits held

abbrev pub IsOne : Limits → Bool → List ℕ → Type 0
IsOne limits greeted held = MatchBool greeted (IsOneMessage limits held) (IsOneGreeting limits held)

-- room for the longest handshake, header or message
abbrev pub room : Limits → ℕ
room limits = max (max limits.message 8) (limits.greeting + 1)

-- what a framer keeps: room, and no more than one handshake or message
pub record Keeps (limits : Limits) (greeted : Bool) (held : List ℕ) (capacity : ℕ) : Type 0 where
  pub roomy : room limits ≤ capacity
  pub one : IsOne limits greeted held
