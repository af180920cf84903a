-- The taps of a board, and what becomes of them.
use Rattle.std.specs.Prelude.{◌≡◌, ◌<◌, ◌⊎◌, ℕ, Bool, true, false, List, [], ◌∷◌, ◌++◌, length, map, take}
use Rattle.outside_api.specs.Counts.{counted}
use Rattle.outside_api.specs.Tap.{TapView}
use Rattle.outside_api.specs.Told.{Tells}
use Rattle.outside_api.specs.declared.tap.TapMessage.{TapMessage}

-- a tap on a board: its number, and what it shows
pub record SeatView : Type 0 where
  pub number : ℕ
  pub shown : TapView

-- the taps of a board, each by its number and what it shows
abbrev pub living : {S : Type 0} → (S → ℕ) → (S → TapView) → List S → List SeatView
living number shown seats = map (λ seat. record { number = number seat; shown = shown seat }) seats

-- a tap took all these messages, in order
pub record Lives (messages : List TapMessage) (old new : TapView) : Type 0 where
  pub taken : Tells old.taken new.taken messages
  pub faults : new.faults ≡ old.faults

-- a tap took the first of these messages, in order, and failed at the next one: its count of faults rose
pub record Fails (messages : List TapMessage) (old new : TapView) : Type 0 where
  pub count : ℕ
  pub within : count < length messages
  pub taken : Tells old.taken new.taken (take count messages)
  pub faults : new.faults ≡ counted old.faults 1

-- after all messages, or the first fault
abbrev pub Ends : Bool → List TapMessage → TapView → TapView → Type 0
Ends true messages old new = Lives messages old new
Ends false messages old new = Fails messages old new

-- each tap took all messages and stays, or failed and is dropped: then its number is among these, in order
abbrev pub Driven : List TapMessage → List SeatView → List SeatView → List ℕ → Type 0
Driven messages [] new dropped = (new ≡ []) × (dropped ≡ [])
Driven messages (seat ∷ old) new dropped =
    ((shown : TapView) × (rest : List SeatView) × (new ≡ record { number = seat.number; shown = shown } ∷ rest) × Lives messages seat.shown shown
    × Driven messages old rest dropped)
    ⊎ ((shown : TapView) × (rest : List ℕ) × (dropped ≡ seat.number ∷ rest) × Fails messages seat.shown shown × Driven messages old new rest)

-- a tap is taken off
pub record TakenOff (number : ℕ) (shown : TapView) (old new : List SeatView) : Type 0 where
  pub before : List SeatView
  pub after : List SeatView
  pub was : old ≡ before ++ record { number = number; shown = shown } ∷ after
  pub left : new ≡ before ++ after
