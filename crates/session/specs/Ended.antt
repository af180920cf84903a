-- How a session, or the rest of one, ends.
use Rattle.std.specs.Prelude.{◌≡◌, ◌≤◌, ◌<◌, ◌+◌, ◌⊎◌, ℕ, Bool, true, false, List, [], ◌∷◌, ◌++◌, length, map, take, MatchBool, MatchOption, Option}
use Rattle.std.specs.List.{flat_map}
use Rattle.link_reader.specs.Moved.{moved}
use Rattle.outside_api.specs.Counts.{counted}
use Rattle.outside_api.specs.Link.{LinkView, HasGivenAll}
use Rattle.ipc_frame.specs.Framing.{IsNeeded}
use Rattle.ipc_frame.specs.Stream.{fault, front_of}
use Rattle.ipc_frame.specs.View.{told_place}
use Rattle.ipc_frame.specs.declared.bad.Bad.{Bad}
use Rattle.ipc_frame.specs.declared.bad.Bad.TheVariants as b
use Rattle.q_values.specs.Bytes.{HasNoNul}
use Rattle.q_values.specs.declared.limits.Limits.{Limits}
use Rattle.link_reader.specs.Arrival.{ReaderView, unheard}
use Rattle.session.specs.Heard.{Hears, idles_heard}
use Rattle.session.specs.Run.{World, Works, sent_in}
use Rattle.session.specs.Served.{Step}
use Rattle.session.specs.State.{State}
use Rattle.session.specs.declared.end.End.{End}
use Rattle.session.specs.declared.end.End.TheVariants.{Closed, Truncated, BadMessage, ReadFault, WriteFault, Idle, NoMemory}

-- the link as an end leaves it: its input has ended, or a fault was counted, or nothing more
abbrev pub ended_link : End → LinkView → LinkView
ended_link Closed link = record link { ended = true }
ended_link Truncated link = record link { ended = true }
ended_link (BadMessage code at) link = link
ended_link ReadFault link = record link { read_faults = counted link.read_faults 1 }
ended_link WriteFault link = record link { write_faults = counted link.write_faults 1 }
ended_link Idle link = link
ended_link NoMemory link = link

-- the input had not ended before, where the end says so
abbrev pub WasOpenAt : End → LinkView → Type 0
WasOpenAt Closed link = Unit {0}
WasOpenAt Truncated link = Unit {0}
WasOpenAt (BadMessage code at) link = link.ended ≡ false
WasOpenAt ReadFault link = link.ended ≡ false
WasOpenAt WriteFault link = link.ended ≡ false
WasOpenAt Idle link = link.ended ≡ false
WasOpenAt NoMemory link = Unit {0}

-- where the input has ended, a link that reports its input has given all of it
abbrev pub HasReadAll : End → LinkView → Type 0
HasReadAll Closed link = HasGivenAll link
HasReadAll Truncated link = HasGivenAll link
HasReadAll (BadMessage code at) link = Unit {0}
HasReadAll ReadFault link = Unit {0}
HasReadAll WriteFault link = Unit {0}
HasReadAll Idle link = Unit {0}
HasReadAll NoMemory link = Unit {0}

-- At `Idle` all the read timeouts that were left have come, at another end not all; but the write that failed may be that of what is
-- published after the last one.
abbrev pub SpendsIdles : End → ℕ → ℕ → Type 0
SpendsIdles Closed left idled = idled < left
SpendsIdles Truncated left idled = idled < left
SpendsIdles (BadMessage code at) left idled = idled < left
SpendsIdles ReadFault left idled = idled < left
SpendsIdles WriteFault left idled = idled ≤ left
SpendsIdles Idle left idled = idled ≡ left
SpendsIdles NoMemory left idled = idled < left

-- the bytes from an offset of the stream on begin with no handshake or message; the fault is at this offset
abbrev pub IsBad : Limits → Bool → ℕ → List ℕ → Bad → ℕ → Type 0
IsBad limits greeted place rest code at =
    MatchBool greeted
    ((k : ℕ) × (front_of limits rest ≡ fault code k) × (at ≡ told_place (place + k)))
    (HasNoNul (take (limits.greeting + 1) rest) × (limits.greeting < length rest) × (code ≡ b.Greeting) × (at ≡ told_place (place + limits.greeting)))

-- The bytes that were read and not heard, from an offset of the stream on, at each end. A write fails after a handshake, or after a
-- read timeout, at which all that was read is a part of what comes next.
abbrev pub Rests : End → Limits → Bool → ℕ → List ℕ → Type 0
Rests Closed limits greeted place rest = rest ≡ []
Rests Truncated limits greeted place rest = IsNeeded limits greeted rest × (0 < length rest)
Rests (BadMessage code at) limits greeted place rest = IsBad limits greeted place rest code at
Rests ReadFault limits greeted place rest = IsNeeded limits greeted rest
Rests WriteFault limits greeted place rest = (greeted ≡ true) ⊎ IsNeeded limits greeted rest
Rests Idle limits greeted place rest = IsNeeded limits greeted rest
Rests NoMemory limits greeted place rest = ⊥

-- all parts but the last were written, and a prefix of the last
pub record IsCut (parts : List (List ℕ)) (written : List ℕ) : Type 0 where
  pub whole : List (List ℕ)
  pub last : List ℕ
  pub count : ℕ
  pub made : parts ≡ whole ++ last ∷ []
  pub within : count ≤ length last
  pub taken : written ≡ flat_map (λ part. part) whole ++ take count last

-- the parts were written in order; at `WriteFault` the last of them may be incomplete
abbrev pub IsSent : End → List (List ℕ) → List ℕ → Type 0
IsSent WriteFault parts written = IsCut parts written
IsSent Closed parts written = written ≡ flat_map (λ part. part) parts
IsSent Truncated parts written = written ≡ flat_map (λ part. part) parts
IsSent (BadMessage code at) parts written = written ≡ flat_map (λ part. part) parts
IsSent ReadFault parts written = written ≡ flat_map (λ part. part) parts
IsSent Idle parts written = written ≡ flat_map (λ part. part) parts
IsSent NoMemory parts written = written ≡ flat_map (λ part. part) parts

-- the end may come without another read, where the handshake was heard or wasn't
abbrev pub NeedsNoRead : End → Bool → Type 0
NeedsNoRead Closed greeted = Unit {0}
NeedsNoRead Truncated greeted = Unit {0}
NeedsNoRead (BadMessage code at) greeted = Unit {0}
NeedsNoRead ReadFault greeted = ⊥
NeedsNoRead WriteFault greeted = greeted ≡ true
NeedsNoRead Idle greeted = ⊥
NeedsNoRead NoMemory greeted = ⊥

-- no publications are to be looked for in the end, unless a write failed
abbrev pub LeavesNoneDue : End → State → Type 0
LeavesNoneDue WriteFault after = Unit {0}
LeavesNoneDue NoMemory after = after.due ≡ false
LeavesNoneDue Closed after = after.due ≡ false
LeavesNoneDue Truncated after = after.due ≡ false
LeavesNoneDue (BadMessage code at) after = after.due ≡ false
LeavesNoneDue ReadFault after = after.due ≡ false
LeavesNoneDue Idle after = after.due ≡ false

-- some steps of a session, from an offset of the stream on
pub record Runs (limits : Limits) (place : ℕ) (a b : World) (before after : State) (r s : ReaderView) (left_old left_new : ℕ) : Type 0 where
  pub steps : List Step
  pub heard : List ℕ
  pub given : List ℕ
  pub idled : ℕ
  pub link : b.link ≡ moved a.link given (sent_in steps) idled
  pub works : Works a b before after steps
  -- the bytes that were left and those that came are those that were heard and those that are left
  pub bytes : unheard r ++ given ≡ heard ++ unheard s
  pub hears : Hears limits r.framer.greeted place heard (map (λ s. s.event) steps) s.framer.greeted
  pub limits_same : s.framer.limits ≡ limits
  pub placed : s.framer.place ≡ told_place (place + length heard)
  pub counted : idles_heard (map (λ s. s.event) steps) ≡ idled
  pub idles : left_old ≡ left_new + idled
  pub opened : ((given ≡ []) × (idled ≡ 0)) ⊎ (a.link.ended ≡ false)

-- steps of a session from an offset of the stream on, and then its end
pub record Converses (limits : Limits) (place : ℕ) (a b : World) (before : State) (r : ReaderView) (left : ℕ) (end : End) : Type 0 where
  pub after : State
  pub steps : List Step
  pub heard : List ℕ
  pub rest : List ℕ
  pub given : List ℕ
  pub written : List ℕ
  pub idled : ℕ
  pub greeted : Bool
  pub link : b.link ≡ ended_link end (moved a.link given written idled)
  pub input : HasReadAll end b.link
  pub works : Works a b before after steps
  pub bytes : unheard r ++ given ≡ heard ++ rest
  pub hears : Hears limits r.framer.greeted place heard (map (λ s. s.event) steps) greeted
  pub rests : Rests end limits greeted (place + length heard) rest
  pub sent : IsSent end (map (λ s. s.deed.sent) steps) written
  pub looked : LeavesNoneDue end after
  pub counted : idles_heard (map (λ s. s.event) steps) ≡ idled
  pub idles : SpendsIdles end left idled
  pub opened : ((given ≡ []) × (idled ≡ 0) × NeedsNoRead end greeted) ⊎ WasOpenAt end a.link

-- a session goes on after some steps, with read timeouts left, or ends
abbrev pub Goes : Limits → ℕ → World → World → State → State → ReaderView → ReaderView → ℕ → ℕ → Option End → Type 0
Goes limits place a b before after r s left_old left_new result =
    MatchOption result (Runs limits place a b before after r s left_old left_new × (0 < left_new)) (λ end. Converses limits place a b before r left_old end)
