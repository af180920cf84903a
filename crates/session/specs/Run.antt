-- A part of a session: what its devices showed before and after it, and the steps in between.
use Rattle.std.specs.Prelude.{◌≡◌, ℕ, ℤ, true, List, ◌++◌, length, sum_by, Option}
use Rattle.std.specs.List.{flat_map}
use Rattle.day_rows.specs.declared.entry.Entry.{Entry}
use Rattle.outside_api.specs.Counts.{counted}
use Rattle.outside_api.specs.Link.{LinkView}
use Rattle.outside_api.specs.Told.{told, Tells}
use Rattle.plant_core.specs.Access.{AccessView}
use Rattle.q_values.specs.declared.turn.Turn.{Turn}
use Rattle.session.specs.Lawful.{AreLengths, AreExact}
use Rattle.session.specs.Served.{Step}
use Rattle.session.specs.State.{State, Chain}
use Rattle.session.specs.Steps.{IsStep}

-- what the devices of a session show
pub record World : Type 0 where
  pub link : LinkView
  pub clock : Option (List ℤ)
  pub notes : Option (List Turn)
  pub access : AccessView

abbrev pub world : LinkView → Option (List ℤ) → Option (List Turn) → AccessView → World
world link clock notes access = record { link = link; clock = clock; notes = notes; access = access }

-- an access after it saw these entries more, made those, and asked for n snapshots and m ticks
abbrev pub advanced : AccessView → List Entry → List Entry → ℕ → ℕ → AccessView
advanced access gained made asked ticked =
    record access { seen = access.seen ++ gained; mine = access.mine ++ made; snapshots = counted access.snapshots asked; ticks = counted access.ticks ticked }

-- how the access changed while these turns were noted, these entries made, and this many snapshots and ticks asked for
pub record Advances (a b : AccessView) (turns : List Turn) (made : List Entry) (asked ticked : ℕ) : Type 0 where
  pub gained : List Entry
  pub after : b ≡ advanced a gained made asked ticked
  -- the lengths never fall, begin at no less than what was seen at first, and end within what is seen
  pub lengths : AreLengths (length a.seen) (length b.seen) turns
  -- where nobody else makes entries, each length is exact
  pub alone : a.alone ≡ true → AreExact (length a.seen) (length b.seen) turns

-- all that was noted, read, made, sent and asked for in these steps
abbrev pub turns_of : List Step → List Turn
turns_of = flat_map (λ s. s.deed.turns)

abbrev pub readings_of : List Step → List ℤ
readings_of = flat_map (λ s. s.deed.readings)

abbrev pub made_in : List Step → List Entry
made_in = flat_map (λ s. s.deed.made)

abbrev pub sent_in : List Step → List ℕ
sent_in = flat_map (λ s. s.deed.sent)

abbrev pub snapshots_in : List Step → ℕ
snapshots_in = sum_by (λ s. s.deed.snapshots)

abbrev pub ticks_in : List Step → ℕ
ticks_in = sum_by (λ s. s.deed.ticks)

-- what was done in these steps, from one state to another
pub record Works (a b : World) (before after : State) (steps : List Step) : Type 0 where
  pub clock : b.clock ≡ told a.clock (readings_of steps)
  pub notes : Tells a.notes b.notes (turns_of steps)
  pub access : Advances a.access b.access (turns_of steps) (made_in steps) (snapshots_in steps) (ticks_in steps)
  pub served : Chain (IsStep a.access.frame a.access.by b.access.seen) before after steps
