-- What a subscriber is told, and what is done with a subscription (KX, u.q).
use Rattle.std.specs.Prelude.{◌≡◌, ◌<◌, ◌⊎◌, ℕ, Bool, true, false, List, [], ◌∷◌, All, Any, take, drop, codes, Option, Some, None}
use Rattle.day_rows.specs.Chronicle.{date_of}
use Rattle.day_rows.specs.declared.entry.Entry.{Entry}
use Rattle.plant_memory.specs.Frame.{Frame}
use Rattle.publications.specs.Answer.{subscription_tree}
use Rattle.publications.specs.Notice.{Fits, sent_for}
use Rattle.pubsub.specs.Filters.{Subscribed, after_request, is_known, nothing_of, table_names}
use Rattle.pubsub.specs.Told.{Publication, told}
use Rattle.pubsub.specs.declared.request.SubRequest.{SubRequest}
use Rattle.q_values.specs.Tree.{wrong}
use Rattle.q_values.specs.declared.turn.Turn.TheVariants as t
use Rattle.qsql_parse.specs.Verdicts.{IsVerdict, asks}
use Rattle.qsql_request.specs.Forms.{SubForm, sub_form}
use Rattle.session.specs.Chronicle.{IsFront}
use Rattle.session_replies.specs.Reply.{reply, replied}
use Rattle.session.specs.Served.{Deed, IsStill, IsDeclined}
use Rattle.session.specs.declared.subscriber.Subscriber.{Subscriber}

-- what a subscriber is owed of a chronicle: the publications of the entries that it wasn't told of
abbrev pub owed : Frame → Subscriber → List Entry → List Publication
owed frame subscriber entries =
    told frame.limits.batch subscriber.subscription (date_of frame.first (take subscriber.cursor entries)) (drop subscriber.cursor entries)

-- a subscriber was told all that it was owed of a prefix of the chronicle
pub record IsTold (frame : Frame) (seen : List Entry) (subscriber : Subscriber) (after : Option Subscriber) (deed : Deed) : Type 0 where
  pub count : ℕ
  pub front : List Entry
  pub is_front : IsFront count front seen
  pub more : subscriber.cursor < count
  pub after_it : after ≡ Some (record subscriber { cursor = count })
  pub fit : All Fits (owed frame subscriber front)
  pub noted : deed.turns ≡ t.Told subscriber.cursor count ∷ []
  pub sent : deed.sent ≡ sent_for (owed frame subscriber front)
  pub still : IsStill deed

-- one of the publications that a subscriber is owed is too long for a message: nothing is sent, and all are owed still
pub record IsTooMuch (frame : Frame) (seen : List Entry) (subscriber : Subscriber) (sent : List ℕ) (deed : Deed) : Type 0 where
  pub count : ℕ
  pub front : List Entry
  pub is_front : IsFront count front seen
  pub more : subscriber.cursor < count
  pub long : Any (λ publication. ¬ Fits publication) (owed frame subscriber front)
  pub noted : deed.turns ≡ t.TooLong subscriber.cursor count ∷ []
  pub sent_is : deed.sent ≡ sent
  pub still : IsStill deed

-- there was no memory to find out what a subscriber is owed, or to send it: nothing is sent, and it is owed still
pub record IsShortOfTelling (deed : Deed) : Type 0 where
  pub noted : deed.turns ≡ t.Short ∷ []
  pub unsent : deed.sent ≡ []
  pub still : IsStill deed

-- publications are sent where there is a subscriber
abbrev pub Publishes : Frame → List Entry → Option Subscriber → Option Subscriber → Deed → Type 0
Publishes frame seen None after deed = ⊥
Publishes frame seen (Some subscriber) after deed =
    IsTold frame seen subscriber after deed
    ⊎ ((after ≡ Some subscriber) × (IsTooMuch frame seen subscriber [] deed ⊎ IsShortOfTelling deed))

-- what was chosen before: nothing of any table, where there was no subscription
abbrev pub chosen_by : Frame → Option Subscriber → Subscribed
chosen_by frame None = record { schema = frame.schema; filters = nothing_of frame.schema }
chosen_by frame (Some subscriber) = subscriber.subscription

-- a subscriber that was told of all entries of a prefix, or none
abbrev pub IsPaid : Option Subscriber → ℕ → Type 0
IsPaid None count = Unit {0}
IsPaid (Some subscriber) count = subscriber.cursor ≡ count

-- a subscription holds from a prefix of the chronicle on, of which the former one was told all
pub record IsSubscribed (frame : Frame) (seen : List Entry) (before after : Option Subscriber) (sync : Bool) (request : SubRequest) (deed : Deed) : Type 0 where
  pub count : ℕ
  pub front : List Entry
  pub is_front : IsFront count front seen
  pub known : is_known request.tables (table_names frame.schema) ≡ true
  pub paid : IsPaid before count
  pub after_it : after ≡ Some (record { subscription = after_request request (chosen_by frame before); cursor = count })
  pub noted : deed.turns ≡ t.Subscribed count ∷ []
  pub answered : deed.sent ≡ replied sync (reply frame.limits (subscription_tree frame.schema request.tables))
  pub still : IsStill deed

-- a subscription to a table that isn't there is answered with its name
pub record IsUnknown (frame : Frame) (sync : Bool) (request : SubRequest) (deed : Deed) : Type 0 where
  pub unknown : is_known request.tables (table_names frame.schema) ≡ false
  pub declined : IsDeclined frame sync request.tables deed

-- what can't be published before a subscription, since it is too long, is answered with `limit`
abbrev pub IsTooMuchBefore : Frame → List Entry → Option Subscriber → Bool → Deed → Type 0
IsTooMuchBefore frame seen None sync deed = ⊥
IsTooMuchBefore frame seen (Some subscriber) sync deed = IsTooMuch frame seen subscriber (replied sync (reply frame.limits (wrong (codes "limit")))) deed

-- what is done with a subscription, where there is memory
abbrev pub ServesSubscription : Frame → List Entry → Option Subscriber → Option Subscriber → Bool → SubRequest → Deed → Type 0
ServesSubscription frame seen before after sync request deed =
    IsSubscribed frame seen before after sync request deed
    ⊎ ((after ≡ before) × (IsUnknown frame sync request deed ⊎ IsTooMuchBefore frame seen before sync deed))

-- what is done with a text that subscribes: where it doesn't name exactly one table, it is answered with `type`
abbrev pub ServesForm : Frame → List Entry → Option Subscriber → Option Subscriber → Bool → Option SubRequest → Deed → Type 0
ServesForm frame seen before after sync (Some request) deed = ServesSubscription frame seen before after sync request deed
ServesForm frame seen before after sync None deed = (after ≡ before) × IsDeclined frame sync (codes "type") deed

-- a text that subscribes, of this form
abbrev pub IsForm : List ℕ → SubForm → Type 0
IsForm text form = IsVerdict text (asks (sub_form form))
