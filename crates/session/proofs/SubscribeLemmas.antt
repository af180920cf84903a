-- What is done with a subscription.
use Rattle.std.proofs.Common.{◌≡◌, ℕ, ℤ, Bool, true, List, [], ◌∷◌, ◌++◌, length, refl, sym, ap, subst, ◌∙◌, inl, inr, ◌⊎◌, Option, Some, None, codes, arith}
use Rattle.std.proofs.lemmas.List.{append-nil}
use Rattle.day_rows.specs.declared.entry.Entry.{Entry}
use Rattle.ipc_frame.specs.Stream.{built}
use Rattle.outside_api.specs.Link.{LinkView}
use Rattle.outside_api.specs.Told.{Tells}
use Rattle.plant_core.specs.Access.{AccessView, Sees}
use Rattle.plant_memory.specs.Frame.{Frame}
use Rattle.publications.specs.Answer.{subscription_tree}
use Rattle.pubsub.specs.Filters.{Subscribed, after_request, is_known, table_names, Refuses}
use Rattle.pubsub.specs.declared.request.SubRefusal.{SubRefusal}
use Rattle.pubsub.specs.declared.request.SubRefusal.TheVariants as r
use Rattle.pubsub.specs.declared.request.SubRequest.{SubRequest}
use Rattle.q_values.specs.Tree.{Tree, wrong}
use Rattle.q_values.specs.declared.limits.Limits.{Limits}
use Rattle.q_values.specs.declared.turn.Turn.{Turn}
use Rattle.q_values.specs.declared.turn.Turn.TheVariants as t
use Rattle.session.specs.Acting.{Finishes, Performs, ServesHeard}
use Rattle.session.specs.Answering.{Does, ServesValue, AnswersUnknown, turns_by, sent_by}
use Rattle.session.specs.Devices.{OnlyAsks, KeepsSubscriber, world_of, state_of, served_of}
use Rattle.session.specs.Owing.{FitsPlant, OwesMessages, OwesTooMuch, told_up_to, IsSubscriptionTo}
use Rattle.session_replies.specs.Reply.{reply, replied, response}
use Rattle.session_requests.specs.Request.{Request, request_of}
use Rattle.session.specs.Run.{Advances}
use Rattle.session.specs.Served.{asked, Deed, IsShort}
use Rattle.session.specs.Steps.{ServesContent}
use Rattle.session.specs.Subscribing.{ServesSubscription, IsPaid, chosen_by}
use Rattle.session.specs.declared.answer.Answer.{Answer}
use Rattle.session.specs.declared.end.End.{End}
use Rattle.session.specs.declared.session.Session.{Session}
use Rattle.session.specs.declared.subscriber.Subscriber.{Subscriber}
use Rattle.session.proofs.PerformLemmas.{performs-one, performs-append, content_performs}
use Rattle.session.proofs.PublishLemmas.{sees_after, whole_turn, reports_all, publishes_told}
use Rattle.session.proofs.ServedLemmas.{advances_idle, does_nothing, tells_declined, tells_short}
use Rattle.session.proofs.ServingLemmas.{performed-frame, performed-fits}
use Rattle.session.proofs.ToldLemmas.{told-nil}

-- what is done with a subscription is done with the message, be it a call or a text
pub subscription_content : (frame : Frame) (by : ℕ) (seen : List Entry) (x y : Option Subscriber) (sync : Bool) (value : Tree) (request : SubRequest) (deed : Deed) → IsSubscriptionTo (request_of value) request
    → ServesSubscription frame seen x y sync request deed → ServesContent frame by seen x y sync (built value) deed
subscription_content frame by seen x y sync value request deed (inl is) h = inl (rw is h)
subscription_content frame by seen x y sync value request deed (inr is) h = inl (rw is.1.1 (inr (is.0, is.1.2, rw is.2 h)))

-- the schema of what was chosen is the plant's
pub chosen-schema : (frame : Frame) (n : ℕ) (x : Option Subscriber) → FitsPlant frame n x → (chosen_by frame x).schema ≡ frame.schema
chosen-schema frame n None fits = refl
chosen-schema frame n (Some s) fits = fits.0

-- a table that isn't there, or there was no memory to say so
does_unknown : (a : AccessView) (k : Option (List ℤ)) (x : Option Subscriber) (limits : Limits) (sync : Bool) (request : SubRequest) (why : SubRefusal) (answer : Answer)
    → a.frame.limits ≡ limits → Refuses request a.frame.schema why → AnswersUnknown limits sync why answer
    → Does (λ deed. ServesSubscription a.frame a.seen x x sync request deed ⊎ IsShort sync deed) k k a a answer
does_unknown a k x limits sync request (r.NoTable name) answer same refuses (inl is) =
    does_nothing a k (λ deed. ServesSubscription a.frame a.seen x x sync request deed ⊎ IsShort sync deed) answer t.Declined is.roll is.turn (tells_declined _)
    (inl (inr (
      refl,
      inl (record {
        unknown = refuses.1;
        declined = record {
          noted = rw (is.roll, is.turn) refl;
          answered = is.reply ∙ (λ i. replied sync (reply (sym same i) (wrong (refuses.0 i))));
          still = record { unread = refl; unmade = refl; unasked = (refl, refl) };
        };
      }),
    )))
does_unknown a k x limits sync request (r.NoTable name) answer same refuses (inr is) =
    does_nothing a k (λ deed. ServesSubscription a.frame a.seen x x sync request deed ⊎ IsShort sync deed) answer t.Short is.roll is.turn (tells_short _)
    (inr (record { noted = rw (is.roll, is.turn) refl; answered = is.reply; read = omega arith; unticked = refl; unmade = refl }))
does_unknown a k x limits sync request r.NoMemory answer same refuses is =
    does_nothing a k (λ deed. ServesSubscription a.frame a.seen x x sync request deed ⊎ IsShort sync deed) answer t.Short is.roll is.turn (tells_short _)
    (inr (record { noted = rw (is.roll, is.turn) refl; answered = is.reply; read = omega arith; unticked = refl; unmade = refl }))

-- an answer that changes no subscription
kept_performs : {A L C G N : Type 0} (access : A → AccessView) (link : L → LinkView) (clock : C → Option (List ℤ)) (notes : N → Option (List Turn)) (s m z : Session A L C G N)
    (sync : Bool) (value : Tree) (request : SubRequest) (answer : Answer) (end : Option End)
    → IsSubscriptionTo (request_of value) request
    → OnlyAsks s m → KeepsSubscriber m z → z.access.now ≡ m.access.now → z.clock.now ≡ m.clock.now
    → Does (λ deed. ServesSubscription (access s.access.now).frame (access m.access.now).seen s.client.now.subscriber s.client.now.subscriber sync request deed ⊎ IsShort sync deed) (clock s.clock.now) (clock m.clock.now) (access s.access.now) (access m.access.now) answer
    → Tells (notes m.recorder.now) (notes z.recorder.now) (turns_by answer.roll answer.turn)
    → Finishes (link m.link.now) (link z.link.now) (sent_by answer.reply) end
    → ServesHeard (asked (record { sync = sync; content = built value })) (world_of access link clock notes s) (world_of access link clock notes z) (state_of access s) (served_of access z) end
kept_performs access link clock notes s m z sync value request answer end is asks keeps same still does noted sent =
    content_performs access link clock notes s m z (asked (record { sync = sync; content = built value }))
    (λ deed. ServesSubscription (access s.access.now).frame (access m.access.now).seen s.client.now.subscriber s.client.now.subscriber sync request deed ⊎ IsShort sync deed) answer end asks keeps same still does noted sent
    (λ deed done. by_case deed done) refl (refl, refl)
  where
    kept : z.client.now.subscriber ≡ s.client.now.subscriber
    kept = keeps.subscriber ∙ asks.unheard.subscriber

    by_case : (deed : Deed) → ServesSubscription (access s.access.now).frame (access m.access.now).seen s.client.now.subscriber s.client.now.subscriber sync request deed ⊎ IsShort sync deed → ServesContent (access s.access.now).frame (access s.access.now).by (access m.access.now).seen s.client.now.subscriber z.client.now.subscriber sync (built value) deed
    by_case deed (inl h) = rw kept (subscription_content (access s.access.now).frame (access s.access.now).by (access m.access.now).seen s.client.now.subscriber s.client.now.subscriber sync value request deed is h)
    by_case deed (inr h) = inr (kept, h)

-- a subscription to a table that isn't there
pub unknown_performs : {A L C G N : Type 0} (access : A → AccessView) (link : L → LinkView) (clock : C → Option (List ℤ)) (notes : N → Option (List Turn)) (s z : Session A L C G N)
    (limits : Limits) (sync : Bool) (value : Tree) (request : SubRequest) (why : SubRefusal) (answer : Answer) (end : Option End)
    → OnlyAsks s s → IsSubscriptionTo (request_of value) request → (access s.access.now).frame.limits ≡ limits
    → FitsPlant (access s.access.now).frame (length (access s.access.now).seen) s.client.now.subscriber
    → Refuses request (chosen_by (access s.access.now).frame s.client.now.subscriber).schema why → AnswersUnknown limits sync why answer
    → KeepsSubscriber s z → z.access.now ≡ s.access.now → z.clock.now ≡ s.clock.now
    → Tells (notes s.recorder.now) (notes z.recorder.now) (turns_by answer.roll answer.turn)
    → Finishes (link s.link.now) (link z.link.now) (sent_by answer.reply) end
    → ServesHeard (asked (record { sync = sync; content = built value })) (world_of access link clock notes s) (world_of access link clock notes z) (state_of access s) (served_of access z) end
unknown_performs access link clock notes s z limits sync value request why answer end none is same fits refuses answers keeps own still noted sent =
    let a = access s.access.now in
    kept_performs access link clock notes s s z sync value request answer end is none keeps own still
    (does_unknown a (clock s.clock.now) s.client.now.subscriber limits sync request why answer same (subst (λ schema. Refuses request schema why) (chosen-schema a.frame (length a.seen) s.client.now.subscriber fits) refuses) answers)
    noted sent

-- what is owed before a subscription is too long to be sent
pub too_much_performs : {A L C G N : Type 0} (access : A → AccessView) (link : L → LinkView) (clock : C → Option (List ℤ)) (notes : N → Option (List Turn)) (s m z : Session A L C G N)
    (limits : Limits) (sync : Bool) (value : Tree) (request : SubRequest) (from to : ℕ) (answer : Answer) (end : Option End)
    → IsSubscriptionTo (request_of value) request → (access s.access.now).frame.limits ≡ limits
    → OnlyAsks s m → m.clock.now ≡ s.clock.now → Sees (access s.access.now) (access m.access.now)
    → OwesTooMuch (access s.access.now).frame s.client.now.subscriber (access m.access.now).seen from to
    → answer.roll ≡ None → answer.turn ≡ t.TooLong from to → sent_by answer.reply ≡ replied sync (reply limits (wrong (codes "limit")))
    → KeepsSubscriber m z → z.access.now ≡ m.access.now → z.clock.now ≡ m.clock.now
    → Tells (notes m.recorder.now) (notes z.recorder.now) (turns_by answer.roll answer.turn)
    → Finishes (link m.link.now) (link z.link.now) (sent_by answer.reply) end
    → ServesHeard (asked (record { sync = sync; content = built value })) (world_of access link clock notes s) (world_of access link clock notes z) (state_of access s) (served_of access z) end
too_much_performs access link clock notes s m z limits sync value request from to answer end is same asks unread l owes roll turn answered keeps own still noted sent =
    let a = access s.access.now in
    let b = access m.access.now in
    let turns : turns_by answer.roll answer.turn ≡ t.TooLong from to ∷ [] = rw (roll, turn) refl in
    let size = reports_all a b l to owes.to_is in
    kept_performs access link clock notes s m z sync value request answer end is asks keeps own still (record {
      readings = [];
      made = [];
      asked = 0;
      ticked = 0;
      clock = ap clock unread ∙ sym (told-nil (clock s.clock.now));
      access = rw turns (whole_turn a b l (t.TooLong from to) to owes.to_is (record { each = (size, tt); last = sym size }));
      done = inl (rw owes.is (inr (
        refl,
        inr (record {
          count = to;
          front = b.seen;
          is_front = record { count = owes.to_is; more = []; whole = sym (append-nil b.seen) };
          more = rw (← owes.from_is) owes.more;
          long = owes.long;
          noted = turns ∙ ap (λ n. t.TooLong n to ∷ []) owes.from_is;
          sent_is = answered ∙ ap (λ (v : Limits). replied sync (reply v (wrong (codes "limit")))) (sym same);
          still = record { unread = refl; unmade = refl; unasked = (refl, refl) };
        }),
      )));
    }) noted sent

-- the session was out of memory after it looked at the chronicle
pub does_short_look : (a b : AccessView) (k k' : Option (List ℤ)) (sync : Bool) (request : Request) (answer : Answer) → k' ≡ k → Sees a b → answer.roll ≡ None → answer.turn ≡ t.Short → sent_by answer.reply ≡ replied sync (response (wrong (codes "wsfull")))
    → Does (ServesValue a.frame a.by b.seen sync request) k k' a b answer
does_short_look a b k k' sync request answer unread l roll turn answered =
    let turns : turns_by answer.roll answer.turn ≡ t.Short ∷ [] = rw (roll, turn) refl in
    record {
      readings = [];
      made = [];
      asked = 0;
      ticked = 0;
      clock = unread ∙ sym (told-nil k);
      access = advances_idle a b l.others (turns_by answer.roll answer.turn) 0 0 l.saw (sees_after a b l) (rw turns (tells_short (length (a.seen ++ l.others))));
      done = inr (record { noted = turns; answered = answered; read = omega arith; unticked = refl; unmade = refl });
    }

-- a subscription holds, of which the former one was told all
pub subscribed_performs : {A L C G N : Type 0} (access : A → AccessView) (link : L → LinkView) (clock : C → Option (List ℤ)) (notes : N → Option (List Turn)) (s m z : Session A L C G N)
    (limits : Limits) (sync : Bool) (value : Tree) (request : SubRequest) (subscription : Subscribed) (bytes : List ℕ) (to : ℕ) (end : Option End)
    → IsSubscriptionTo (request_of value) request → (access s.access.now).frame.limits ≡ limits
    → FitsPlant (access s.access.now).frame (length (access s.access.now).seen) s.client.now.subscriber
    → m.recorder.now ≡ s.recorder.now → m.link.now ≡ s.link.now → m.clock.now ≡ s.clock.now → Sees (access s.access.now) (access m.access.now)
    → to ≡ length (access m.access.now).seen → IsPaid s.client.now.subscriber to
    → is_known request.tables (table_names (access s.access.now).frame.schema) ≡ true
    → subscription ≡ after_request request (chosen_by (access s.access.now).frame s.client.now.subscriber)
    → bytes ≡ replied sync (reply limits (subscription_tree (access s.access.now).frame.schema request.tables))
    → z.access.now ≡ m.access.now → z.clock.now ≡ m.clock.now → z.client.now.subscriber ≡ Some (record { subscription = subscription; cursor = to })
    → Tells (notes m.recorder.now) (notes z.recorder.now) (t.Subscribed to ∷ [])
    → Finishes (link m.link.now) (link z.link.now) bytes end
    → Performs (asked (record { sync = sync; content = built value }) ∷ []) (world_of access link clock notes s) (world_of access link clock notes z) (state_of access s) (served_of access z) end
subscribed_performs access link clock notes s m z limits sync value request subscription bytes to end is same fits recorder unsent unread l to_is paid known chosen answered own still holds noted sent =
    let a = access s.access.now in
    let b = access m.access.now in
    let size = reports_all a b l to to_is in
    let deed : Deed = record { turns = t.Subscribed to ∷ []; sent = bytes; readings = []; made = []; snapshots = 0; ticks = 0 } in
    let serves : ServesSubscription a.frame b.seen s.client.now.subscriber z.client.now.subscriber sync request deed = inl (record {
      count = to;
      front = b.seen;
      is_front = record { count = to_is; more = []; whole = sym (append-nil b.seen) };
      known = known;
      paid = paid;
      after_it = holds ∙ ap (λ c. Some (record { subscription = c; cursor = to })) chosen;
      noted = refl;
      answered = answered ∙ ap (λ (v : Limits). replied sync (reply v (subscription_tree a.frame.schema request.tables))) (sym same);
      still = record { unread = refl; unmade = refl; unasked = (refl, refl) };
    }) in
    performs-one (world_of access link clock notes s) (world_of access link clock notes z) (state_of access s) (served_of access z) (asked (record { sync = sync; content = built value })) (asked (record { sync = sync; content = built value }) ∷ []) deed end
    refl refl
    (ap clock (still ∙ unread) ∙ sym (told-nil (clock s.clock.now)))
    (subst (λ r. Tells (notes r) (notes z.recorder.now) (t.Subscribed to ∷ [])) recorder noted)
    (subst (λ v. Advances a (access v) (t.Subscribed to ∷ []) [] 0 0) (sym own) (whole_turn a b l (t.Subscribed to) to to_is (record { each = (size, tt); last = sym size })))
    (subst (λ v. ServesContent a.frame a.by (access v).seen s.client.now.subscriber z.client.now.subscriber sync (built value) deed) (sym own) (subscription_content a.frame a.by b.seen s.client.now.subscriber z.client.now.subscriber sync value request deed is serves))
    (refl, refl)
    (subst (λ r. Finishes (link r) (link z.link.now) bytes end) unsent sent)
    refl

sees-none : (a : AccessView) → Sees a a
sees-none a = record { others = []; saw = record { alone = λ _. refl }; after = ap (λ s. record a { seen = s }) (sym (append-nil a.seen)) }

-- what the former subscription was owed was told, and then the new one holds
pub told_subscribed : {A L C G N : Type 0} (access : A → AccessView) (link : L → LinkView) (clock : C → Option (List ℤ)) (notes : N → Option (List Turn)) (s m w z : Session A L C G N)
    (limits : Limits) (sync : Bool) (value : Tree) (request : SubRequest) (subscription : Subscribed) (bytes messages : List ℕ) (from to : ℕ) (end : Option End)
    → IsSubscriptionTo (request_of value) request → (access s.access.now).frame.limits ≡ limits
    → FitsPlant (access s.access.now).frame (length (access s.access.now).seen) s.client.now.subscriber
    → OnlyAsks s m → m.clock.now ≡ s.clock.now → Sees (access s.access.now) (access m.access.now)
    → OwesMessages (access s.access.now).frame s.client.now.subscriber (access m.access.now).seen from to messages
    → w.access.now ≡ m.access.now → w.clock.now ≡ m.clock.now → w.client.now.subscriber ≡ told_up_to to m.client.now.subscriber
    → Tells (notes m.recorder.now) (notes w.recorder.now) (t.Told from to ∷ [])
    → Finishes (link m.link.now) (link w.link.now) messages None
    → is_known request.tables (table_names (access s.access.now).frame.schema) ≡ true
    → subscription ≡ after_request request (chosen_by (access s.access.now).frame s.client.now.subscriber)
    → bytes ≡ replied sync (reply limits (subscription_tree (access s.access.now).frame.schema request.tables))
    → z.access.now ≡ w.access.now → z.clock.now ≡ w.clock.now → z.client.now.subscriber ≡ Some (record { subscription = subscription; cursor = to })
    → Tells (notes w.recorder.now) (notes z.recorder.now) (t.Subscribed to ∷ [])
    → Finishes (link w.link.now) (link z.link.now) bytes end
    → ServesHeard (asked (record { sync = sync; content = built value })) (world_of access link clock notes s) (world_of access link clock notes z) (state_of access s) (served_of access z) end
told_subscribed access link clock notes s m w z limits sync value request subscription bytes messages from to end is same fits asks unread l owes reached unheard moved told sent known chosen answered own still holds noted replied_to =
    let a = access s.access.now in
    let p : Performs [] (world_of access link clock notes s) (world_of access link clock notes w) (state_of access s) (state_of access w) None =
    publishes_told access link clock notes s m w (state_of access s) from to messages None asks unread l owes reached unheard moved told sent refl refl in
    let frame_is : (access w.access.now).frame ≡ a.frame = performed-frame [] _ _ _ _ None p in
    let holder : w.client.now.subscriber ≡ Some (record owes.of { cursor = to }) = moved ∙ ap (told_up_to to) (asks.unheard.subscriber ∙ owes.is) in
    let one : chosen_by (access w.access.now).frame w.client.now.subscriber ≡ chosen_by a.frame s.client.now.subscriber = rw (holder, owes.is) refl in
    let paid : IsPaid w.client.now.subscriber to = rw holder refl in
    let to_is : to ≡ length (access w.access.now).seen = owes.to_is ∙ ap (λ v. length (access v).seen) (sym reached) in
    inl (performs-append _ (world_of access link clock notes w) _ _ (state_of access w) _ [] (asked (record { sync = sync; content = built value }) ∷ []) end p
    (subscribed_performs access link clock notes w w z limits sync value request subscription bytes to end is (ap (λ (f : Frame). f.limits) frame_is ∙ same) (performed-fits [] _ _ _ _ p fits) refl refl refl (sees-none (access w.access.now)) to_is paid
    (subst (λ (f : Frame). is_known request.tables (table_names f.schema) ≡ true) (sym frame_is) known)
    (chosen ∙ ap (after_request request) (sym one))
    (answered ∙ ap (λ (f : Frame). replied sync (reply limits (subscription_tree f.schema request.tables))) (sym frame_is))
    own still holds noted replied_to))
