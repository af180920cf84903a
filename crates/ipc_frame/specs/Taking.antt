-- How much is taken of a piece.
use Rattle.std.specs.Prelude.{◌≡◌, ◌<◌, ◌≤◌, ◌-◌, ℕ, List, ◌++◌, length, take, slice_index}
use Rattle.q_values.specs.Bytes.{HasNoNul}
use Rattle.q_values.specs.declared.limits.Limits.{Limits}
use Rattle.ipc_frame.specs.Stream.{Front, nothing, partial, whole, fault, front_of}

-- where these bytes are held, `taken` bytes are taken of a piece: up to and including the first one after which no more
-- is needed, or all
pub record Takes (IsNeeded : List ℕ → Type 0) (held piece : List ℕ) (taken : ℕ) : Type 0 where
  pub within : taken ≤ length piece
  pub before : (k : ℕ) → k < taken → IsNeeded (held ++ take k piece)
  pub enough : taken < length piece → IsNeeded (held ++ take taken piece) → ⊥

-- bytes at the start of a stream are less than a handshake, and show no fault
pub record NeedsGreeting (limits : Limits) (held : List ℕ) : Type 0 where
  pub no_nul : HasNoNul held
  pub short : length held ≤ limits.greeting

-- neither a whole message nor a fault is there
abbrev pub IsUnfinished : Front → Type 0
IsUnfinished nothing = Unit {0}
IsUnfinished partial = Unit {0}
IsUnfinished (whole n message) = ⊥
IsUnfinished (fault code at) = ⊥

-- bytes after the handshake are less than a message, and show no fault
abbrev pub NeedsMessage : Limits → List ℕ → Type 0
NeedsMessage limits held = IsUnfinished (front_of limits held)

-- the first 0 is at this index
pub record IsFirstNul (bytes : List ℕ) (at : ℕ) : Type 0 where
  pub within : at < length bytes
  pub no_nul : HasNoNul (take at bytes)
  pub nul : slice_index bytes at ≡ 0

-- the number of bytes up to and including the first 0, or `most`
pub record UpToNul (piece : List ℕ) (most taken : ℕ) : Type 0 where
  pub within : taken ≤ most
  pub no_nul : HasNoNul (take (taken - 1) piece)
  pub ends : taken < most → (0 < taken) × (slice_index piece (taken - 1) ≡ 0)

-- the last byte is 0
pub record EndsInNul (bytes : List ℕ) : Type 0 where
  pub some : 0 < length bytes
  pub nul : slice_index bytes (length bytes - 1) ≡ 0
