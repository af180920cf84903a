-- Events that are served, as steps.
use Rattle.std.proofs.Common.{◌≡◌, ℕ, ℤ, Bool, List, [], ◌∷◌, ◌++◌, length, take, refl, sym, ap, subst, ◌∙◌, inl, inr, Option, Some, None}
use Rattle.std.specs.List.{flat_map}
use Rattle.std.proofs.lemmas.List.{append-nil, map-append}
use Rattle.std.proofs.lemmas.List.Concat.{flat_map-append}
use Rattle.day_rows.specs.declared.entry.Entry.{Entry}
use Rattle.ipc_frame.specs.Stream.{built}
use Rattle.outside_api.specs.Counts.{counted}
use Rattle.outside_api.specs.Link.{LinkView}
use Rattle.outside_api.specs.Told.{told, Tells}
use Rattle.plant_core.specs.Access.{AccessView}
use Rattle.plant_memory.specs.Frame.{Frame}
use Rattle.q_values.specs.Tree.{Tree}
use Rattle.q_values.specs.declared.turn.Turn.{Turn}
use Rattle.session.specs.Acting.{Finishes, FinishesAll, Performs, ServesHeard, heard_of}
use Rattle.session.specs.Answering.{Does, ServesValue, turns_by, sent_by, deed_of}
use Rattle.session.specs.Devices.{OnlyAsks, KeepsSubscriber, world_of, state_of, served_of}
use Rattle.session_requests.specs.Request.{Request, update, subscribe, mistyped, text, other, request_of}
use Rattle.session.specs.Run.{World, Works, Advances}
use Rattle.session.specs.Served.{Event, asked, Deed, Step}
use Rattle.session.specs.State.{State}
use Rattle.session.specs.Steps.{Serves, ServesContent, IsDue}
use Rattle.session.specs.declared.answer.Answer.{Answer}
use Rattle.session.specs.declared.end.End.{End}
use Rattle.session.specs.declared.end.End.TheVariants as e
use Rattle.session.specs.declared.session.Session.{Session}
use Rattle.session.specs.declared.subscriber.Subscriber.{Subscriber}
use Rattle.session.proofs.JoinLemmas.{works-append}
use Rattle.session.proofs.PartLemmas.{events, parts, heard-append}
use Rattle.session.proofs.RunLemmas.{sent-append}
use Rattle.session.proofs.StepLemmas.{works-one}
use Rattle.session.proofs.ToldLemmas.{told-told}

-- one part was sent
finishes-one : (l m : LinkView) (sent : List ℕ) (end : Option End) → Finishes l m sent end → FinishesAll l m (sent ∷ []) end
finishes-one l m sent None f = f ∙ ap (λ bytes. record l { taken = told l.taken bytes }) (sym (append-nil sent))
finishes-one l m sent (Some end) f = (f.0, take f.1 sent, record { whole = []; last = sent; count = f.1; made = refl; within = f.2; taken = refl }, f.3)

-- more parts were sent
finishes-append : (l m n : LinkView) (ps qs : List (List ℕ)) (end : Option End) → FinishesAll l m ps None → FinishesAll m n qs end → FinishesAll l n (ps ++ qs) end
finishes-append l m n ps qs None p q =
    q ∙ ap (λ (v : LinkView). record v { taken = told v.taken (flat_map (λ part. part) qs) }) p
    ∙ ap (λ k. record l { taken = k }) (told-told l.taken (flat_map (λ part. part) ps) (flat_map (λ part. part) qs) ∙ ap (told l.taken) (sym (flat_map-append (λ part. part) ps qs)))
finishes-append l m n ps qs (Some end) p q = (
  q.0,
  flat_map (λ part. part) ps ++ q.1,
  sent-append e.WriteFault ps qs q.1 q.2,
  q.3 ∙ ap (λ (v : LinkView). record v { taken = told v.taken q.1; write_faults = counted v.write_faults 1 }) p
      ∙ ap (λ k. record l { taken = k; write_faults = counted l.write_faults 1 }) (told-told l.taken (flat_map (λ part. part) ps) q.1),
)

-- one step
pub performs-one : (a b : World) (x y : State) (event : Event) (heard : List Event) (deed : Deed) (end : Option End)
    → x.known ≡ length a.access.seen → y.known ≡ length b.access.seen
    → b.clock ≡ told a.clock deed.readings → Tells a.notes b.notes deed.turns → Advances a.access b.access deed.turns deed.made deed.snapshots deed.ticks
    → Serves a.access.frame a.access.by b.access.seen x y.subscriber event deed → IsDue x y event
    → Finishes a.link b.link deed.sent end → heard_of (event ∷ []) ≡ heard
    → Performs heard a b x y end
performs-one a b x y event heard deed end before after clock notes access serves due sent is = record {
  after = y;
  steps = record { event = event; deed = deed } ∷ [];
  works = works-one a b x y (record { event = event; deed = deed }) before after clock notes access serves due;
  link = finishes-one a.link b.link deed.sent end sent;
  events = is;
  goes_on = λ _. refl;
}

-- steps, and more of them
pub performs-append : (a b c : World) (x y z : State) (heard more : List Event) (end : Option End) → Performs heard a b x y None → Performs more b c y z end → Performs (heard ++ more) a c x z end
performs-append a b c x y z heard more end p q = record {
  after = q.after;
  steps = p.steps ++ q.steps;
  works = works-append a b c x y q.after p.steps q.steps (subst (λ v. Works a b x v p.steps) (p.goes_on refl) p.works) q.works;
  link = rw map-append (finishes-append a.link b.link c.link (parts p.steps) (parts q.steps) end p.link q.link);
  events = ap heard_of (map-append (λ (s : Step). s.event) p.steps q.steps) ∙ heard-append (events p.steps) (events q.steps) ∙ (λ i. p.events i ++ q.events i);
  goes_on = q.goes_on;
}

-- an event was served, and then something was published, or nothing
pub serves-then : (a b c : World) (x y z : State) (event : Event) (end : Option End) → ServesHeard event a b x y None → Performs [] b c y z end → ServesHeard event a c x z end
serves-then a b c x y z event end (inl p) q = inl (performs-append a b c x y z (event ∷ []) [] end p q)
serves-then a b c x y z event end (inr p) q = absurd (let h = p.0 in cc)

-- where the session goes on, it may be from any state that is the same
pub settles : (a b : World) (x y z : State) (heard : List Event) (end : Option End) → (end ≡ None → y ≡ z) → Performs heard a b x y end → Performs heard a b x z end
settles a b x y z heard end same p = record {
  after = p.after;
  steps = p.steps;
  works = p.works;
  link = p.link;
  events = p.events;
  goes_on = λ none. p.goes_on none ∙ same none;
}

-- where the session ends, it doesn't matter which state it would have gone on from
pub ends-anyhow : (a b : World) (x y z : State) (event : Event) (end : End) → ServesHeard event a b x y (Some end) → ServesHeard event a b x z (Some end)
ends-anyhow a b x y z event end (inl p) = inl (record { after = p.after; steps = p.steps; works = p.works; link = p.link; events = p.events; goes_on = λ none. absurd cc })
ends-anyhow a b x y z event end (inr p) = inr (p.0, record { after = p.1.after; steps = p.1.steps; works = p.1.works; link = p.1.link; events = p.1.events; goes_on = λ none. absurd cc })

-- what is done with a request that is no subscription is done with the message
value_serves : (frame : Frame) (by : ℕ) (seen : List Entry) (x y : Option Subscriber) (sync : Bool) (value : Tree) (request : Request) (deed : Deed) → request_of value ≡ request → y ≡ x
    → ServesValue frame by seen sync request deed → ServesContent frame by seen x y sync (built value) deed
value_serves frame by seen x y sync value (update table items) deed is same (inl h) = inl (rw is (same, h))
value_serves frame by seen x y sync value (subscribe request) deed is same (inl h) = absurd h
value_serves frame by seen x y sync value mistyped deed is same (inl h) = inl (rw is (same, h))
value_serves frame by seen x y sync value (text bytes) deed is same (inl h) = inl (rw is (inl (same, h)))
value_serves frame by seen x y sync value other deed is same (inl h) = inl (rw is (same, h))
value_serves frame by seen x y sync value request deed is same (inr h) = inr (same, h)

-- a message was answered, after the access was asked
pub content_performs : {A L C G N : Type 0} (access : A → AccessView) (link : L → LinkView) (clock : C → Option (List ℤ)) (notes : N → Option (List Turn)) (s m z : Session A L C G N)
    (message : Event) (Done : Deed → Type 0) (answer : Answer) (end : Option End)
    → OnlyAsks s m → KeepsSubscriber m z → z.access.now ≡ m.access.now → z.clock.now ≡ m.clock.now
    → Does Done (clock s.clock.now) (clock m.clock.now) (access s.access.now) (access m.access.now) answer
    → Tells (notes m.recorder.now) (notes z.recorder.now) (turns_by answer.roll answer.turn)
    → Finishes (link m.link.now) (link z.link.now) (sent_by answer.reply) end
    → ((deed : Deed) → Done deed → Serves (access s.access.now).frame (access s.access.now).by (access m.access.now).seen (state_of access s) z.client.now.subscriber message deed)
    → heard_of (message ∷ []) ≡ message ∷ []
    → IsDue (state_of access s) (served_of access z) message
    → ServesHeard message (world_of access link clock notes s) (world_of access link clock notes z) (state_of access s) (served_of access z) end
content_performs access link clock notes s m z message Done answer end asks keeps same still does noted sent serves is due =
    let deed = deed_of answer does.readings does.made does.asked does.ticked in
    inl (performs-one (world_of access link clock notes s) (world_of access link clock notes z) (state_of access s) (served_of access z) message (message ∷ []) deed end
    refl refl
    (ap clock still ∙ does.clock)
    (subst (λ r. Tells (notes r) (notes z.recorder.now) (turns_by answer.roll answer.turn)) asks.recorder noted)
    (subst (λ v. Advances (access s.access.now) (access v) (turns_by answer.roll answer.turn) does.made does.asked does.ticked) (sym same) does.access)
    (subst (λ v. Serves (access s.access.now).frame (access s.access.now).by (access v).seen (state_of access s) z.client.now.subscriber message deed) (sym same) (serves deed does.done))
    due
    (subst (λ r. Finishes (link r) (link z.link.now) (sent_by answer.reply) end) asks.link sent)
    is)

-- a message with a value was answered, which is no subscription
pub value_performs : {A L C G N : Type 0} (access : A → AccessView) (link : L → LinkView) (clock : C → Option (List ℤ)) (notes : N → Option (List Turn)) (s m z : Session A L C G N)
    (sync : Bool) (value : Tree) (request : Request) (answer : Answer) (end : Option End)
    → request_of value ≡ request
    → OnlyAsks s m → KeepsSubscriber m z → z.access.now ≡ m.access.now → z.clock.now ≡ m.clock.now
    → Does (ServesValue (access s.access.now).frame (access s.access.now).by (access m.access.now).seen sync request) (clock s.clock.now) (clock m.clock.now) (access s.access.now) (access m.access.now) answer
    → Tells (notes m.recorder.now) (notes z.recorder.now) (turns_by answer.roll answer.turn)
    → Finishes (link m.link.now) (link z.link.now) (sent_by answer.reply) end
    → ServesHeard (asked (record { sync = sync; content = built value })) (world_of access link clock notes s) (world_of access link clock notes z) (state_of access s) (served_of access z) end
value_performs access link clock notes s m z sync value request answer end is asks keeps same still does noted sent =
    content_performs access link clock notes s m z (asked (record { sync = sync; content = built value }))
    (ServesValue (access s.access.now).frame (access s.access.now).by (access m.access.now).seen sync request) answer end asks keeps same still does noted sent
    (λ deed done. value_serves (access s.access.now).frame (access s.access.now).by (access m.access.now).seen s.client.now.subscriber z.client.now.subscriber sync value request deed is (keeps.subscriber ∙ asks.unheard.subscriber) done)
    refl (refl, refl)
