-- What answering a message changes, notes and sends.
use Rattle.std.specs.Prelude.{◌≡◌, ◌⊎◌, ℕ, ℤ, Bool, List, [], ◌∷◌, codes, Option, Some, None}
use Rattle.day_rows.specs.declared.entry.Entry.{Entry}
use Rattle.outside_api.specs.Told.{told}
use Rattle.plant_core.specs.Access.{AccessView}
use Rattle.plant_memory.specs.Frame.{Frame}
use Rattle.plant_memory.specs.declared.refusal.UpdRefusal.{UpdRefusal}
use Rattle.q_values.specs.Tree.{wrong}
use Rattle.q_values.specs.declared.limits.Limits.{Limits}
use Rattle.q_values.specs.declared.turn.Turn.{Turn}
use Rattle.q_values.specs.declared.turn.Turn.TheVariants as t
use Rattle.session_replies.specs.Replies.{reply_bytes, Refuses}
use Rattle.session_replies.specs.Reply.{response, reply, replied}
use Rattle.session_requests.specs.Request.{Request}
use Rattle.session.specs.Run.{Advances}
use Rattle.session.specs.Served.{Deed, ServesRequest, IsShort}
use Rattle.pubsub.specs.declared.request.SubRefusal.{SubRefusal}
use Rattle.pubsub.specs.declared.request.SubRefusal.TheVariants as s
use Rattle.session.specs.declared.answer.Answer.{Answer}
use Rattle.session_replies.specs.declared.reply.Reply.{Reply}

-- the turn of a roll, if there was one, and that of the message
abbrev pub turns_by : Option Turn → Turn → List Turn
turns_by None turn = turn ∷ []
turns_by (Some roll) turn = roll ∷ turn ∷ []

-- what is sent
abbrev pub sent_by : Option Reply → List ℕ
sent_by None = []
sent_by (Some reply) = reply_bytes reply

-- the turn of a roll that stands at an index of the chronicle
abbrev pub roll_turn : Option ℕ → ℤ → Option Turn
roll_turn None now = None
roll_turn (Some place) now = Some (t.Rolled place now)

-- the answer where the session was out of memory
pub record AnswersShort (sync : Bool) (answer : Answer) : Type 0 where
  pub roll : answer.roll ≡ None
  pub turn : answer.turn ≡ t.Short
  pub reply : sent_by answer.reply ≡ replied sync (response (wrong (codes "wsfull")))

-- the answer to a refused update: the text of the refusal; out of memory has none
pub record AnswersRefused (limits : Limits) (sync : Bool) (count : ℕ) (now : ℤ) (why : UpdRefusal) (answer : Answer) : Type 0 where
  pub roll : answer.roll ≡ None
  pub turn : answer.turn ≡ t.Refused count now
  pub made : Reply
  pub text : Refuses limits why made
  pub reply : sent_by answer.reply ≡ replied sync (reply_bytes made)

abbrev pub AnswersRefusal : Limits → Bool → ℕ → ℤ → UpdRefusal → Answer → Type 0
AnswersRefusal limits sync count now why answer = AnswersRefused limits sync count now why answer ⊎ AnswersShort sync answer

-- the answer to a subscription to a table that isn't there: its name
pub record AnswersName (limits : Limits) (sync : Bool) (name : List ℕ) (answer : Answer) : Type 0 where
  pub roll : answer.roll ≡ None
  pub turn : answer.turn ≡ t.Declined
  pub reply : sent_by answer.reply ≡ replied sync (reply limits (wrong name))

abbrev pub AnswersUnknown : Limits → Bool → SubRefusal → Answer → Type 0
AnswersUnknown limits sync (s.NoTable name) answer = AnswersName limits sync name answer ⊎ AnswersShort sync answer
AnswersUnknown limits sync s.NoMemory answer = AnswersShort sync answer

-- an answer, with the clock's readings, the entries that were made, and the snapshots and ticks that were asked for
abbrev pub deed_of : Answer → List ℤ → List Entry → ℕ → ℕ → Deed
deed_of answer readings made asked ticked = record {
  turns = turns_by answer.roll answer.turn;
  sent = sent_by answer.reply;
  readings = readings;
  made = made;
  snapshots = asked;
  ticks = ticked;
}

-- the clock was read, the access went on, and the answer is part of a deed of this kind
pub record Does (Done : Deed → Type 0) (clock_old clock_new : Option (List ℤ)) (old new : AccessView) (answer : Answer) : Type 0 where
  pub readings : List ℤ
  pub made : List Entry
  pub asked : ℕ
  pub ticked : ℕ
  pub clock : clock_new ≡ told clock_old readings
  pub access : Advances old new (turns_by answer.roll answer.turn) made asked ticked
  pub done : Done (deed_of answer readings made asked ticked)

-- what is done with a message that has a value and is no subscription
abbrev pub ServesValue : Frame → ℕ → List Entry → Bool → Request → Deed → Type 0
ServesValue frame by seen sync request deed = ServesRequest frame by seen sync request deed ⊎ IsShort sync deed
