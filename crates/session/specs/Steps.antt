-- What a session does with each event, from one state to the next.
use Rattle.std.specs.Prelude.{◌≡◌, ◌⊎◌, ℕ, Bool, false, List, Option}
use Rattle.day_rows.specs.declared.entry.Entry.{Entry}
use Rattle.ipc_frame.specs.Stream.{Content, built, unbuilt}
use Rattle.plant_memory.specs.Frame.{Frame}
use Rattle.qsql_request.specs.Forms.{SubForm}
use Rattle.session.specs.Lawful.{AreLengths}
use Rattle.session_requests.specs.Request.{Request, update, subscribe, mistyped, text, other, request_of, subscription_in}
use Rattle.session.specs.Served.{Event, greeted, asked, idled, published, Deed, Step, IsGreeted, IsShort, IsUnserved, ServesIdle, ServesRequest}
use Rattle.session.specs.State.{State, is_owed}
use Rattle.session.specs.Subscribing.{Publishes, ServesSubscription, ServesForm, IsForm}
use Rattle.session.specs.declared.subscriber.Subscriber.{Subscriber}

-- what is done with a request, where there is memory; a subscription and a text that subscribes may change the subscriber
abbrev pub ServesAsked : Frame → ℕ → List Entry → Option Subscriber → Option Subscriber → Bool → Request → Deed → Type 0
ServesAsked frame by seen before after sync (update table items) deed = (after ≡ before) × ServesRequest frame by seen sync (update table items) deed
ServesAsked frame by seen before after sync (subscribe request) deed = ServesSubscription frame seen before after sync request deed
ServesAsked frame by seen before after sync mistyped deed = (after ≡ before) × ServesRequest frame by seen sync mistyped deed
ServesAsked frame by seen before after sync (text bytes) deed =
    ((after ≡ before) × ServesRequest frame by seen sync (text bytes) deed)
    ⊎ ((form : SubForm) × IsForm bytes form × ServesForm frame seen before after sync (subscription_in form) deed)
ServesAsked frame by seen before after sync other deed = (after ≡ before) × ServesRequest frame by seen sync other deed

-- what is done with a message: one outside the profile is not served; with another the session may be out of memory
abbrev pub ServesContent : Frame → ℕ → List Entry → Option Subscriber → Option Subscriber → Bool → Content → Deed → Type 0
ServesContent frame by seen before after sync (unbuilt at) deed = (after ≡ before) × IsUnserved frame sync deed
ServesContent frame by seen before after sync (built value) deed =
    ServesAsked frame by seen before after sync (request_of value) deed ⊎ ((after ≡ before) × IsShort sync deed)

-- what is done with an event in this state, where this is the chronicle in the end; and what the subscriber is after it
abbrev pub Serves : Frame → ℕ → List Entry → State → Option Subscriber → Event → Deed → Type 0
Serves frame by seen before after (greeted capability) deed = (after ≡ before.subscriber) × IsGreeted capability deed
Serves frame by seen before after (asked message) deed = ServesContent frame by seen before.subscriber after message.sync message.content deed
Serves frame by seen before after idled deed = (after ≡ before.subscriber) × ServesIdle frame by seen before deed
Serves frame by seen before after published deed = Publishes frame seen before.subscriber after deed

-- After a message and after a read timeout publications are to be looked for where the chronicle is longer than what the subscriber
-- was told, and before the next of these they were.
abbrev pub IsDue : State → State → Event → Type 0
IsDue before after (greeted capability) = (before.due ≡ false) × (after.due ≡ false)
IsDue before after (asked message) = (before.due ≡ false) × (after.due ≡ is_owed after.subscriber after.known)
IsDue before after idled = (before.due ≡ false) × (after.due ≡ is_owed after.subscriber after.known)
IsDue before after published = after.due ≡ false

-- A step is served as its event asks in the state before it. The lengths that its turns report begin at no less than what
-- was known before it, never fall, and end within what is known after it.
pub record IsStep (frame : Frame) (by : ℕ) (seen : List Entry) (before after : State) (s : Step) : Type 0 where
  pub served : Serves frame by seen before after.subscriber s.event s.deed
  pub lengths : AreLengths before.known after.known s.deed.turns
  pub due : IsDue before after s.event
