-- What a session is: what it read from its link, and what it did with that.
use Rattle.std.specs.Prelude.{◌≡◌, ◌<◌, ◌≤◌, ◌⊎◌, ℕ, Bool, false, List, [], ◌++◌, map, min}
use Rattle.link_reader.specs.Moved.{moved}
use Rattle.outside_api.specs.Counts.{last_count}
use Rattle.outside_api.specs.Told.{told, Tells}
use Rattle.ipc_frame.specs.Stream.{Ending, Message, closed, truncated, bad, IsStream}
use Rattle.q_values.specs.declared.limits.Limits.{Limits}
use Rattle.session.specs.Ended.{ended_link, HasReadAll, WasOpenAt, IsSent, LeavesNoneDue}
use Rattle.session.specs.Heard.{Hears, greeting_heard, messages_heard, idles_heard}
use Rattle.session.specs.Run.{World, Advances, turns_of, readings_of, made_in, snapshots_in, ticks_in}
use Rattle.session.specs.Served.{Event, Step}
use Rattle.session.specs.State.{State, Chain, fresh_state}
use Rattle.session.specs.Steps.{IsStep}
use Rattle.session.specs.declared.end.End.{End}
use Rattle.session.specs.declared.end.End.TheVariants.{Closed, Truncated, BadMessage, ReadFault, WriteFault, Idle, NoMemory}

-- the bytes read so far have no fault
abbrev pub HasNoFault : Ending → Type 0
HasNoFault ending = (ending ≡ closed) ⊎ (ending ≡ truncated)

-- the cause of each end: how the bytes read end, and how many reads timed out
abbrev pub HasCause : Limits → End → Ending → ℕ → Type 0
HasCause limits Closed ending idled = (ending ≡ closed) × (idled < limits.idle)
HasCause limits Truncated ending idled = (ending ≡ truncated) × (idled < limits.idle)
HasCause limits (BadMessage code at) ending idled = (place : ℕ) × (ending ≡ bad code place) × (at ≡ min place last_count) × (idled < limits.idle)
HasCause limits ReadFault ending idled = HasNoFault ending × (idled < limits.idle)
HasCause limits WriteFault ending idled = idled ≤ limits.idle
HasCause limits Idle ending idled = HasNoFault ending × (idled ≡ limits.idle)
HasCause limits NoMemory ending idled = (ending ≡ closed) × (idled ≡ 0)

-- a session without memory for its buffers reads nothing
abbrev pub ReadsNothing : End → List ℕ → Type 0
ReadsNothing NoMemory read = read ≡ []
ReadsNothing Closed read = Unit {0}
ReadsNothing Truncated read = Unit {0}
ReadsNothing (BadMessage code at) read = Unit {0}
ReadsNothing ReadFault read = Unit {0}
ReadsNothing WriteFault read = Unit {0}
ReadsNothing Idle read = Unit {0}

-- each message of the bytes read was served, unless a write failed
abbrev pub LeavesNone : End → List Message → Type 0
LeavesNone WriteFault unserved = Unit {0}
LeavesNone NoMemory unserved = unserved ≡ []
LeavesNone Closed unserved = unserved ≡ []
LeavesNone Truncated unserved = unserved ≡ []
LeavesNone (BadMessage code at) unserved = unserved ≡ []
LeavesNone ReadFault unserved = unserved ≡ []
LeavesNone Idle unserved = unserved ≡ []

-- what was served in these steps
abbrev pub events_of : List Step → List Event
events_of = map (λ s. s.event)

-- a whole session: its devices before and after it, and its end
pub record IsSession (limits : Limits) (a b : World) (end : End) : Type 0 where
  -- the bytes that were read and written, and how many reads timed out
  pub read : List ℕ
  pub written : List ℕ
  pub idled : ℕ
  -- no count of faults rose but that of the end's fault, and the input has ended only where the end says so
  pub link : b.link ≡ ended_link end (moved a.link read written idled)
  pub input : HasReadAll end b.link
  pub opened : WasOpenAt end a.link
  -- the bytes read are a handshake, messages and an ending; they were heard in order from the first on, among the timeouts
  pub steps : List Step
  pub unserved : List Message
  pub ending : Ending
  pub stream : IsStream limits read (greeting_heard (events_of steps)) (messages_heard (events_of steps) ++ unserved) ending
  pub heard : List ℕ
  pub rest : List ℕ
  pub greeted : Bool
  pub parts : read ≡ heard ++ rest
  pub order : Hears limits false 0 heard (events_of steps) greeted
  pub idles : idles_heard (events_of steps) ≡ idled
  pub all : LeavesNone end unserved
  pub cause : HasCause limits end ending idled
  pub nothing : ReadsNothing end read
  -- what was heard was served, over prefixes of the chronicle, each step in the state that the one before it left
  pub after : State
  pub served : Chain (IsStep a.access.frame a.access.by b.access.seen) (fresh_state a.access) after steps
  pub looked : LeavesNoneDue end after
  -- what was noted, what was written, and the readings of the clock
  pub notes : Tells a.notes b.notes (turns_of steps)
  pub sent : IsSent end (map (λ s. s.deed.sent) steps) written
  pub clock : b.clock ≡ told a.clock (readings_of steps)
  -- the lengths that turns report never fall; the entries made, and the snapshots and ticks asked for, are those of the steps
  pub access : Advances a.access b.access (turns_of steps) (made_in steps) (snapshots_in steps) (ticks_in steps)
