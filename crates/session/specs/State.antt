-- What a session knows between two events, and consecutive steps from one state to another.
use Rattle.std.specs.Prelude.{◌≡◌, ℕ, Bool, false, nat_lt, List, [], ◌∷◌, length, Option, Some, None}
use Rattle.plant_core.specs.Access.{AccessView}
use Rattle.session.specs.declared.subscriber.Subscriber.{Subscriber}

-- what a session knows between two events; whatever else a later event is judged by becomes a field here
pub record State : Type 0 where
  -- the length of the chronicle, as far as the session has seen it
  pub known : ℕ
  -- what its client is subscribed to, and up to which length of the chronicle it was told; none before the first subscription
  pub subscriber : Option Subscriber
  -- whether publications are to be looked for before another event is served
  pub due : Bool

-- a session that has served nothing: it knows what its access has seen
abbrev pub fresh_state : AccessView → State
fresh_state access = record { known = length access.seen; subscriber = None; due = false }

-- whether the chronicle is longer than what a subscriber was told
abbrev pub is_owed : Option Subscriber → ℕ → Bool
is_owed None known = false
is_owed (Some subscriber) known = nat_lt subscriber.cursor known

-- consecutive steps from one state to another, each of which goes on from the state that the one before it left
abbrev pub Chain : {S : Type 0} → (State → State → S → Type 0) → State → State → List S → Type 0
Chain R before after [] = after ≡ before
Chain R before after (s ∷ steps) = (next : State) × R before next s × Chain R next after steps
