-- The lengths of the chronicle that turns report, one after the other.
use Rattle.std.specs.Prelude.{◌≡◌, ◌≤◌, ◌+◌, ℕ, List, [], ◌∷◌}
use Rattle.q_values.specs.declared.turn.Turn.{Turn}
use Rattle.q_values.specs.declared.turn.Turn.TheVariants.{Logged, Rolled, Refused, Failed, Quiet, Answered, Subscribed, Told, TooLong}

-- the chronicle's length after a turn: as the turn reports it, or else the length before it
abbrev pub length_after : ℕ → Turn → ℕ
length_after n (Logged place now) = place + 1
length_after n (Rolled place now) = place + 1
length_after n (Refused count now) = count
length_after n (Failed place now) = place + 1
length_after n (Quiet count now) = count
length_after n (Answered count) = count
length_after n (Subscribed count) = count
length_after n (Told from to) = to
length_after n (TooLong from to) = to
length_after n turn = n

-- R holds of the length before a turn and the length that it reports
abbrev pub GoesOn : (ℕ → ℕ → Type 0) → ℕ → Turn → Type 0
GoesOn R n (Logged place now) = R n place
GoesOn R n (Rolled place now) = R n place
GoesOn R n (Refused count now) = R n count
GoesOn R n (Failed place now) = R n place
GoesOn R n (Quiet count now) = R n count
GoesOn R n (Answered count) = R n count
GoesOn R n (Subscribed count) = R n count
GoesOn R n (Told from to) = R n to
GoesOn R n (TooLong from to) = R n to
GoesOn R n turn = Unit {0}

-- the length after all turns
abbrev pub last_length : ℕ → List Turn → ℕ
last_length n [] = n
last_length n (turn ∷ turns) = last_length (length_after n turn) turns

-- R holds of each length and the next one, the first being this one
abbrev pub AllGoOn : (ℕ → ℕ → Type 0) → ℕ → List Turn → Type 0
AllGoOn R n [] = Unit {0}
AllGoOn R n (turn ∷ turns) = GoesOn R n turn × AllGoOn R (length_after n turn) turns

-- the lengths begin at no less than `from`, never fall, and end at no more than `to`; so no two entries have one index
pub record AreLengths (from to : ℕ) (turns : List Turn) : Type 0 where
  pub rising : AllGoOn (λ a b. a ≤ b) from turns
  pub within : last_length from turns ≤ to

-- each length is the one before it and what was made since; they begin at `from` and end at `to`
pub record AreExact (from to : ℕ) (turns : List Turn) : Type 0 where
  pub each : AllGoOn (λ a b. a ≡ b) from turns
  pub last : last_length from turns ≡ to
