-- What a tap in memory is seen as, and how its script decides its takes.
use Rattle.std.specs.Prelude.{◌≡◌, ◌<◌, ◌⊎◌, ℕ, Bool, true, false, List, [], ◌∷◌, ◌++◌, drop, length, Option, Some, None, Result, Ok, Err, if◌then◌else◌}
use Rattle.outside_api.specs.Counts.{counted}
use Rattle.outside_api.specs.Tap.{TapView}
use Rattle.outside_api.specs.declared.tap.TapFault.{TapFault}
use Rattle.outside_api.specs.declared.tap.TapMessage.{TapMessage}
use Rattle.outside_mem.specs.declared.tap.Receiving.{Receiving}
use Rattle.outside_mem.specs.declared.tap.Receiving.TheVariants.{Succeeds, Fails}

pub record MemTapView : Type 0 where
  -- the messages that it keeps, at most as many as it has room for
  pub kept : List TapMessage
  pub room : ℕ
  -- whether it took a message that it didn't keep
  pub full : Bool
  -- how its next takes go
  pub receivings : List Receiving
  pub faults : ℕ

-- a tap that has taken nothing
abbrev pub new_tap : ℕ → List Receiving → MemTapView
new_tap room receivings = record { kept = []; room = room; full = false; receivings = receivings; faults = 0 }

-- what it shows: its messages, until it took one that it didn't keep
abbrev pub shown_by : MemTapView → TapView
shown_by view = record { taken = if view.full then None else Some view.kept; faults = view.faults }

-- whether the next take is to fail
abbrev pub is_planned : List Receiving → Bool
is_planned [] = false
is_planned (Succeeds ∷ receivings) = false
is_planned (Fails ∷ receivings) = true

-- a message is kept within the room, and lost for lack of room or memory
abbrev pub Keeps : MemTapView → MemTapView → TapMessage → Type 0
Keeps old new message =
    ((old.full ≡ false) × (length old.kept < old.room) × (new ≡ record old { kept = old.kept ++ message ∷ [] })) ⊎ (new ≡ record old { full = true })

-- a take fails where it is to fail, and nowhere else
abbrev pub Receives : {T : Type 0} → MemTapView → MemTapView → TapMessage → Result T TapFault → Type 0
Receives old new message (Ok _) = (is_planned old.receivings ≡ false) × Keeps (record old { receivings = drop 1 old.receivings }) new message
Receives old new message (Err _) =
    (is_planned old.receivings ≡ true) × (new ≡ record old { receivings = drop 1 old.receivings; faults = counted old.faults 1 })
