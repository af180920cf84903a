-- What a session does with what it hears.
use Rattle.std.specs.Prelude.{◌≡◌, ◌≤◌, ◌+◌, ◌⊎◌, ℕ, ℤ, Bool, true, false, List, [], ◌∷◌, ◌++◌, length, min, codes}
use Rattle.day_rows.specs.Chronicle.{date_of}
use Rattle.day_rows.specs.declared.entry.Entry.{Entry}
use Rattle.day_rows.specs.declared.entry.Entry.TheVariants as e
use Rattle.gateway.specs.Answer.{IsAnswer, Subscribes}
use Rattle.ipc_frame.specs.Stream.{Message}
use Rattle.plant_memory.specs.Frame.{Frame}
use Rattle.plant_memory.specs.Memory.{next_roll}
use Rattle.plant_memory.specs.Verdict.{accepts, refuses, verdict, is_next_day}
use Rattle.plant_memory.specs.declared.refusal.UpdRefusal.{UpdRefusal}
use Rattle.q_values.specs.Tree.{Tree, identity, wrong}
use Rattle.q_values.specs.declared.turn.Turn.{Turn}
use Rattle.q_values.specs.declared.turn.Turn.TheVariants as t
use Rattle.session.specs.Chronicle.{IsFront}
use Rattle.session_replies.specs.Reply.{response, reply, replied, refusal_text}
use Rattle.session_requests.specs.Request.{Request, update, subscribe, mistyped, text, other}
use Rattle.session.specs.State.{State}

-- what a session serves: a handshake with this capability, a message, a read timeout, or what its subscriber is owed
pub data Event : Type 0 where
  greeted : ℕ → Event
  asked : Message → Event
  idled : Event
  published : Event

-- what was done with an event: the turns noted, the bytes sent, the readings of the clock, the entries made, and how many
-- snapshots and ticks the access was asked for
pub record Deed : Type 0 where
  pub turns : List Turn
  pub sent : List ℕ
  pub readings : List ℤ
  pub made : List Entry
  pub snapshots : ℕ
  pub ticks : ℕ

-- an event, and what was done with it
pub record Step : Type 0 where
  pub event : Event
  pub deed : Deed

-- these entries stand in the chronicle right after this prefix of it
pub record StandsAfter (front made chronicle : List Entry) : Type 0 where
  pub more : List Entry
  pub whole : chronicle ≡ (front ++ made) ++ more

-- the turn of an entry that was made at an index
abbrev pub entry_turn : ℕ → ℤ → Entry → Turn
entry_turn place now (e.Upd by table columns) = t.Logged place now
entry_turn place now (e.Roll by date) = t.Rolled place now
entry_turn place now (e.Fault by) = t.Failed place now

-- the turns of consecutive entries, the first at an index
abbrev pub entry_turns : ℕ → ℤ → List Entry → List Turn
entry_turns place now [] = []
entry_turns place now (entry ∷ entries) = entry_turn place now entry ∷ entry_turns (place + 1) now entries

-- the access was asked for this many snapshots, and for this many ticks
abbrev pub AsksFor : ℕ → ℕ → Deed → Type 0
AsksFor snapshots ticks deed = (deed.snapshots ≡ snapshots) × (deed.ticks ≡ ticks)

-- nothing was made, the clock was not read, and the access was asked for no snapshot and no tick
pub record IsStill (deed : Deed) : Type 0 where
  pub unread : deed.readings ≡ []
  pub unmade : deed.made ≡ []
  pub unasked : AsksFor 0 0 deed

-- an update was logged: what the verdict on it adds stands in the chronicle, and the answer is `(::)`
pub record IsLogged (frame : Frame) (by : ℕ) (seen : List Entry) (sync : Bool)
    (table : List ℕ) (items : List Tree) (deed : Deed) : Type 0 where
  pub front : List Entry
  pub now : ℤ
  pub accepted : verdict frame by front table items now ≡ accepts deed.made
  pub stands : StandsAfter front deed.made seen
  pub noted : deed.turns ≡ entry_turns (length front) now deed.made
  pub answered : deed.sent ≡ replied sync (reply frame.limits identity)
  pub read : deed.readings ≡ now ∷ []
  pub unasked : AsksFor 0 0 deed

-- an update was refused: the answer is the text of the verdict's refusal, and nothing was made
pub record IsRefused (frame : Frame) (by : ℕ) (seen : List Entry) (sync : Bool)
    (table : List ℕ) (items : List Tree) (deed : Deed) : Type 0 where
  pub count : ℕ
  pub front : List Entry
  pub is_front : IsFront count front seen
  pub now : ℤ
  pub why : UpdRefusal
  pub refused : verdict frame by front table items now ≡ refuses why
  pub noted : deed.turns ≡ t.Refused count now ∷ []
  pub answered : deed.sent ≡ replied sync (reply frame.limits (wrong (refusal_text why)))
  pub read : deed.readings ≡ now ∷ []
  pub unmade : deed.made ≡ []
  pub unasked : AsksFor 0 0 deed

-- the disk failed at an entry that the verdict on an update adds: those before it, and then a fault of this pass, stand in the
-- chronicle, and the answer is the error `disk`
pub record IsFailed (frame : Frame) (by : ℕ) (seen : List Entry) (sync : Bool)
    (table : List ℕ) (items : List Tree) (deed : Deed) : Type 0 where
  pub front : List Entry
  pub now : ℤ
  pub before : List Entry
  pub failed : Entry
  pub rest : List Entry
  pub accepted : verdict frame by front table items now ≡ accepts (before ++ failed ∷ rest)
  pub made : deed.made ≡ before ++ e.Fault by ∷ []
  pub stands : StandsAfter front deed.made seen
  pub noted : deed.turns ≡ entry_turns (length front) now deed.made
  pub answered : deed.sent ≡ replied sync (reply frame.limits (wrong (codes "disk")))
  pub read : deed.readings ≡ now ∷ []
  pub unasked : AsksFor 0 0 deed

-- out of memory: nothing was made; the clock was read once, or a snapshot was asked for once, or neither
pub record IsShort (sync : Bool) (deed : Deed) : Type 0 where
  pub noted : deed.turns ≡ t.Short ∷ []
  pub answered : deed.sent ≡ replied sync (response (wrong (codes "wsfull")))
  pub read : length deed.readings + deed.snapshots ≤ 1
  pub unticked : deed.ticks ≡ 0
  pub unmade : deed.made ≡ []

-- a text was answered over a prefix of the chronicle, of which a snapshot was asked for
pub record IsAnswered (frame : Frame) (seen : List Entry) (bytes : List ℕ) (deed : Deed) : Type 0 where
  pub count : ℕ
  pub front : List Entry
  pub is_front : IsFront count front seen
  pub value : Tree
  pub known : IsAnswer frame.first frame.schema front bytes value
  pub unsubscribed : Subscribes bytes → ⊥
  pub noted : deed.turns ≡ t.Answered count ∷ []
  pub answered : deed.sent ≡ reply frame.limits value
  pub unread : deed.readings ≡ []
  pub unmade : deed.made ≡ []
  pub asked : AsksFor 1 0 deed

-- what isn't served is answered with this error
pub record IsDeclined (frame : Frame) (sync : Bool) (error : List ℕ) (deed : Deed) : Type 0 where
  pub noted : deed.turns ≡ t.Declined ∷ []
  pub answered : deed.sent ≡ replied sync (reply frame.limits (wrong error))
  pub still : IsStill deed

-- an async message that asks for nothing that is served
pub record IsPassed (deed : Deed) : Type 0 where
  pub noted : deed.turns ≡ t.Passed ∷ []
  pub unanswered : deed.sent ≡ []
  pub still : IsStill deed

-- a message that is no request is declined with `nyi` where it is sync, and else passed over
abbrev pub IsUnserved : Frame → Bool → Deed → Type 0
IsUnserved frame true deed = IsDeclined frame true (codes "nyi") deed
IsUnserved frame false deed = IsPassed deed

-- a sync text is answered; an async text that doesn't subscribe is never evaluated
abbrev pub ServesText : Frame → List Entry → Bool → List ℕ → Deed → Type 0
ServesText frame seen true bytes deed = IsAnswered frame seen bytes deed
ServesText frame seen false bytes deed = (Subscribes bytes → ⊥) × IsPassed deed

-- what is done with a request that is no subscription, where there is memory
abbrev pub ServesRequest : Frame → ℕ → List Entry → Bool → Request → Deed → Type 0
ServesRequest frame by seen sync (update table items) deed =
    IsLogged frame by seen sync table items deed ⊎ IsRefused frame by seen sync table items deed ⊎ IsFailed frame by seen sync table items deed
ServesRequest frame by seen sync (subscribe request) deed = ⊥
ServesRequest frame by seen sync mistyped deed = IsDeclined frame sync (codes "type") deed
ServesRequest frame by seen sync (text bytes) deed = ServesText frame seen sync bytes deed
ServesRequest frame by seen sync other deed = IsUnserved frame sync deed

-- the handshake is answered with one byte: its capability, but 3 at most
pub record IsGreeted (capability : ℕ) (deed : Deed) : Type 0 where
  pub noted : deed.turns ≡ t.Greeted capability ∷ []
  pub answered : deed.sent ≡ min capability 3 ∷ []
  pub still : IsStill deed

-- a read timeout at which no date ends
pub record IsQuiet (frame : Frame) (seen : List Entry) (deed : Deed) : Type 0 where
  pub count : ℕ
  pub front : List Entry
  pub is_front : IsFront count front seen
  pub now : ℤ
  pub same : is_next_day (date_of frame.first front) now ≡ false
  pub noted : deed.turns ≡ t.Quiet count now ∷ []
  pub read : deed.readings ≡ now ∷ []
  pub unmade : deed.made ≡ []
  pub asked : AsksFor 0 1 deed

-- a read timeout at which the open date is ended, and the next one opened, which is that of the clock
pub record IsRolled (frame : Frame) (by : ℕ) (seen : List Entry) (deed : Deed) : Type 0 where
  pub front : List Entry
  pub now : ℤ
  pub next : is_next_day (date_of frame.first front) now ≡ true
  pub rolled : deed.made ≡ next_roll frame.first front by ∷ []
  pub stands : StandsAfter front deed.made seen
  pub noted : deed.turns ≡ t.Rolled (length front) now ∷ []
  pub read : deed.readings ≡ now ∷ []
  pub asked : AsksFor 0 1 deed

-- a read timeout at which the open date was to be ended, and the disk failed at that: a fault of this pass stands in the chronicle
pub record IsFailedIdle (frame : Frame) (by : ℕ) (seen : List Entry) (deed : Deed) : Type 0 where
  pub front : List Entry
  pub now : ℤ
  pub next : is_next_day (date_of frame.first front) now ≡ true
  pub failed : deed.made ≡ e.Fault by ∷ []
  pub stands : StandsAfter front deed.made seen
  pub noted : deed.turns ≡ t.Failed (length front) now ∷ []
  pub read : deed.readings ≡ now ∷ []
  pub asked : AsksFor 0 1 deed

-- a read timeout at which the open date was to be ended, and the session was out of memory for that
pub record IsShortIdle (frame : Frame) (seen : List Entry) (before : State) (deed : Deed) : Type 0 where
  pub count : ℕ
  pub front : List Entry
  pub is_front : IsFront count front seen
  -- the session has seen no more before
  pub known : before.known ≤ count
  pub now : ℤ
  pub next : is_next_day (date_of frame.first front) now ≡ true
  pub noted : deed.turns ≡ t.Short ∷ []
  pub read : deed.readings ≡ now ∷ []
  pub unmade : deed.made ≡ []
  pub asked : AsksFor 0 1 deed

-- what a read timeout may come to
abbrev pub IsIdle : Frame → ℕ → List Entry → State → Deed → Type 0
IsIdle frame by seen before deed =
    IsQuiet frame seen deed ⊎ IsRolled frame by seen deed ⊎ IsFailedIdle frame by seen deed ⊎ IsShortIdle frame seen before deed

-- a read timeout sends nothing
pub record ServesIdle (frame : Frame) (by : ℕ) (seen : List Entry) (before : State) (deed : Deed) : Type 0 where
  pub unsent : deed.sent ≡ []
  pub done : IsIdle frame by seen before deed
