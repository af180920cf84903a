-- What a subscriber of a session is owed, as the code finds it.
use Rattle.std.specs.Prelude.{◌≡◌, ◌<◌, ◌≤◌, ◌⊎◌, ℕ, List, All, Any, length, Option, Some, None}
use Rattle.day_rows.specs.declared.entry.Entry.{Entry}
use Rattle.plant_memory.specs.Frame.{Frame}
use Rattle.publications.specs.Notice.{Fits, sent_for}
use Rattle.pubsub.specs.declared.request.SubRequest.{SubRequest}
use Rattle.qsql_request.specs.Forms.{SubForm}
use Rattle.session_requests.specs.Request.{Request, subscribe, text, subscription_in}
use Rattle.session.specs.Subscribing.{owed, IsPaid, IsForm}
use Rattle.session.specs.declared.end.End.{End}
use Rattle.session.specs.declared.subscriber.Owed.{Owed}
use Rattle.session.specs.declared.subscriber.Owed.TheVariants as o
use Rattle.session.specs.declared.subscriber.Subscriber.{Subscriber}

-- up to which length of the chronicle a subscriber was told
abbrev pub cursor_of : Option Subscriber → ℕ
cursor_of None = 0
cursor_of (Some subscriber) = subscriber.cursor

-- a subscriber after it was told up to this length
abbrev pub told_up_to : ℕ → Option Subscriber → Option Subscriber
told_up_to count None = None
told_up_to count (Some subscriber) = Some (record subscriber { cursor = count })

-- a subscriber after a write of what it was owed up to this length: it was told so far, unless the write failed
abbrev pub sent_up_to : ℕ → Option End → Option Subscriber → Option Subscriber
sent_up_to count None subscriber = told_up_to count subscriber
sent_up_to count (Some end) subscriber = subscriber

-- a subscriber to the tables of this plant, which was told of no more than is known
abbrev pub FitsPlant : Frame → ℕ → Option Subscriber → Type 0
FitsPlant frame known None = Unit {0}
FitsPlant frame known (Some subscriber) = (subscriber.subscription.schema ≡ frame.schema) × (subscriber.cursor ≤ known)

-- a subscriber is owed what was published since its cursor, and all of it can be sent
pub record OwesMessages (frame : Frame) (subscriber : Option Subscriber) (entries : List Entry) (from to : ℕ) (bytes : List ℕ) : Type 0 where
  pub of : Subscriber
  pub is : subscriber ≡ Some of
  pub from_is : from ≡ of.cursor
  pub more : from < to
  pub to_is : to ≡ length entries
  pub fit : All Fits (owed frame of entries)
  pub sent : bytes ≡ sent_for (owed frame of entries)

-- a subscriber is owed what was published since its cursor, and one publication of it is too long
pub record OwesTooMuch (frame : Frame) (subscriber : Option Subscriber) (entries : List Entry) (from to : ℕ) : Type 0 where
  pub of : Subscriber
  pub is : subscriber ≡ Some of
  pub from_is : from ≡ of.cursor
  pub more : from < to
  pub to_is : to ≡ length entries
  pub long : Any (λ publication. ¬ Fits publication) (owed frame of entries)

-- what a subscriber is owed of a whole chronicle
abbrev pub Owes : Frame → Option Subscriber → List Entry → Owed → Type 0
Owes frame subscriber entries (o.Nothing to) = (to ≡ length entries) × IsPaid subscriber to
Owes frame subscriber entries (o.Messages from to bytes) = OwesMessages frame subscriber entries from to bytes.items
Owes frame subscriber entries (o.TooLong from to) = OwesTooMuch frame subscriber entries from to

-- a request of a message is a text that subscribes, of this form
abbrev pub IsTextOf : Request → SubForm → Type 0
IsTextOf asked form = (bytes : List ℕ) × (asked ≡ text bytes) × IsForm bytes form

-- a request of a message is this subscription, as a call or as a text
abbrev pub IsSubscriptionTo : Request → SubRequest → Type 0
IsSubscriptionTo asked request =
    (asked ≡ subscribe request) ⊎ ((form : SubForm) × IsTextOf asked form × (subscription_in form ≡ Some request))
