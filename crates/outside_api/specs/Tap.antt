-- What a tap shows, and what its calls change.
use Rattle.std.specs.Prelude.{◌≡◌, ℕ, List, [], ◌∷◌, Option, Result, Ok, Err}
use Rattle.outside_api.specs.Told.{Tells}
use Rattle.outside_api.specs.Counts.{counted}
use Rattle.outside_api.specs.declared.tap.TapMessage.{TapMessage}
use Rattle.outside_api.specs.declared.tap.TapFault.{TapFault}

-- what a tap shows
pub record TapView : Type 0 where
  -- the messages that it took
  pub taken : Option (List TapMessage)
  pub faults : ℕ

-- a tap takes a message, or nothing of it, and counts the fault
abbrev pub Takes : {T : Type 0} → TapView → TapView → TapMessage → Result T TapFault → Type 0
Takes old new message (Ok _) = Tells old.taken new.taken (message ∷ []) × (new.faults ≡ old.faults)
Takes old new message (Err _) = Tells old.taken new.taken [] × (new.faults ≡ counted old.faults 1)
