-- What a recorder in memory is seen as.
use Rattle.std.specs.Prelude.{ℕ, Bool, true, List, [], ◌∷◌, ◌++◌, length, nat_lt, Option, Some, None, if◌then◌else◌}
use Rattle.q_values.specs.declared.turn.Turn.{Turn}

pub record MemRecorderView : Type 0 where
  -- the turns that it keeps, at most as many as it has room for
  pub kept : List Turn
  pub room : ℕ
  -- whether it lost a turn for lack of room
  pub full : Bool

-- what it reports: its turns, until one was lost
abbrev pub noted_by : MemRecorderView → Option (List Turn)
noted_by view = if view.full then None else Some view.kept

-- after one more turn
abbrev pub after_note : MemRecorderView → Turn → MemRecorderView
after_note old turn =
    if nat_lt (length old.kept) old.room then record old { kept = old.kept ++ turn ∷ [] } else record old { full = true }
