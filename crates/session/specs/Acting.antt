-- What a session does with one event.
use Rattle.std.specs.Prelude.{◌≡◌, ◌<◌, ◌≤◌, ◌⊎◌, ℕ, List, [], ◌∷◌, length, map, take, Option, Some, None}
use Rattle.std.specs.List.{flat_map}
use Rattle.outside_api.specs.Counts.{counted}
use Rattle.outside_api.specs.Link.{LinkView}
use Rattle.outside_api.specs.Told.{told, Tells}
use Rattle.q_values.specs.declared.turn.Turn.{Turn}
use Rattle.session.specs.Ended.{IsCut}
use Rattle.session.specs.Run.{World, Works, Advances}
use Rattle.session.specs.Served.{Event, greeted, asked, idled, published, Deed, Step, ServesIdle}
use Rattle.session.specs.State.{State}
use Rattle.session.specs.declared.end.End.{End}
use Rattle.session.specs.declared.end.End.TheVariants.{WriteFault, Idle}

-- all the bytes were written; or a prefix of them, and then the session ends
abbrev pub Finishes : LinkView → LinkView → List ℕ → Option End → Type 0
Finishes old new sent None = new ≡ record old { taken = told old.taken sent }
Finishes old new sent (Some end) =
    (end ≡ WriteFault) × (n : ℕ) × (n ≤ length sent) × (new ≡ record old { taken = told old.taken (take n sent); write_faults = counted old.write_faults 1 })

-- the clock was read, the access went on, the turns were noted, and the bytes sent
pub record Acts (Done : Deed → Type 0) (a b : World) (end : Option End) : Type 0 where
  pub deed : Deed
  pub done : Done deed
  pub clock : b.clock ≡ told a.clock deed.readings
  pub access : Advances a.access b.access deed.turns deed.made deed.snapshots deed.ticks
  pub notes : Tells a.notes b.notes deed.turns
  pub link : Finishes a.link b.link deed.sent end

-- a roll's turn was noted, if there was one
abbrev pub NotesRoll : Option (List Turn) → Option (List Turn) → Option Turn → Type 0
NotesRoll old new None = new ≡ old
NotesRoll old new (Some roll) = Tells old new (roll ∷ [])

-- a read timeout was served: the clock was read, the access went on, and its turns were noted; nothing was sent
pub record IdlesBy (before : State) (a b : World) : Type 0 where
  pub deed : Deed
  pub done : ServesIdle a.access.frame a.access.by b.access.seen before deed
  pub clock : b.clock ≡ told a.clock deed.readings
  pub access : Advances a.access b.access deed.turns deed.made deed.snapshots deed.ticks
  pub notes : Tells a.notes b.notes deed.turns
  pub link : b.link ≡ a.link

-- the events of a session that come from outside: all but the publications
abbrev pub heard_of : List Event → List Event
heard_of [] = []
heard_of (greeted capability ∷ events) = greeted capability ∷ heard_of events
heard_of (asked message ∷ events) = asked message ∷ heard_of events
heard_of (idled ∷ events) = idled ∷ heard_of events
heard_of (published ∷ events) = heard_of events

-- all the parts were written, in order; or some of them and a prefix of the next, and then the session ends
abbrev pub FinishesAll : LinkView → LinkView → List (List ℕ) → Option End → Type 0
FinishesAll old new parts None = new ≡ record old { taken = told old.taken (flat_map (λ part. part) parts) }
FinishesAll old new parts (Some end) =
    (end ≡ WriteFault) × (written : List ℕ) × IsCut parts written
    × (new ≡ record old { taken = told old.taken written; write_faults = counted old.write_faults 1 })

-- The events that were heard were served, with publications before and after them, from one state to another; nothing was read. Where
-- the session goes on, the other state is this one.
pub record Performs (heard : List Event) (a b : World) (before settled : State) (end : Option End) : Type 0 where
  pub after : State
  pub steps : List Step
  pub works : Works a b before after steps
  pub link : FinishesAll a.link b.link (map (λ s. s.deed.sent) steps) end
  pub events : heard_of (map (λ s. s.event) steps) ≡ heard
  pub goes_on : end ≡ None → after ≡ settled

-- an event that was heard was served; or a write of what was published before it failed
abbrev pub ServesHeard : Event → World → World → State → State → Option End → Type 0
ServesHeard event a b before settled end =
    Performs (event ∷ []) a b before settled end ⊎ ((end ≡ Some WriteFault) × Performs [] a b before settled end)

-- a read timeout was served, with what was published after it; it was the last one, or this many are left, or a write failed
abbrev pub TimesOut : World → World → State → State → ℕ → Option End → Type 0
TimesOut a b before after left None = Performs (idled ∷ []) a b before after None × (0 < left)
TimesOut a b before after left (Some end) =
    ((end ≡ Idle) × (left ≡ 0) × Performs (idled ∷ []) a b before after None) ⊎ Performs (idled ∷ []) a b before after (Some end)
