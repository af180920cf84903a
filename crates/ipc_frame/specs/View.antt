-- A framer, as its callers see it.
use Rattle.std.specs.Prelude.{ℕ, Bool, true, false, List, [], ◌+◌, min, length}
use Rattle.q_values.specs.declared.limits.Limits.{Limits}

pub record FramerView : Type 0 where
  pub limits : Limits
  -- whether the handshake was returned
  pub greeted : Bool
  -- the offset in the stream of the first byte held, in a `u64` that saturates
  pub place : ℕ
  -- the bytes that were taken since the last handshake or message that was returned
  pub held : List ℕ

-- an offset in a `u64` that saturates
abbrev pub told_place : ℕ → ℕ
told_place n = min n 18446744073709551615

-- a framer that took nothing
abbrev pub fresh : Limits → FramerView
fresh limits = record { limits = limits; greeted = false; place = 0; held = [] }

-- a framer after the bytes that it held
abbrev pub passed : FramerView → FramerView
passed v = record { limits = v.limits; greeted = true; place = told_place (v.place + length v.held); held = [] }
