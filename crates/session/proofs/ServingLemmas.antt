-- Serving an event, and publishing after it.
use Rattle.std.proofs.Common.{◌≡◌, ◌<◌, ℕ, ℤ, Bool, List, [], ◌∷◌, length, refl, sym, ap, subst, ◌∙◌, inl, inr, Option, Some, None, codes}
use Rattle.day_rows.specs.declared.entry.Entry.{Entry}
use Rattle.ipc_frame.specs.Stream.{built, unbuilt}
use Rattle.outside_api.specs.Link.{LinkView}
use Rattle.outside_api.specs.Told.{told, Tells}
use Rattle.plant_core.specs.Access.{AccessView}
use Rattle.plant_memory.specs.Frame.{Frame}
use Rattle.q_values.specs.Tree.{Tree, wrong}
use Rattle.q_values.specs.declared.limits.Limits.{Limits}
use Rattle.q_values.specs.declared.turn.Turn.{Turn}
use Rattle.q_values.specs.declared.turn.Turn.TheVariants as t
use Rattle.qsql_request.specs.Forms.{SubForm}
use Rattle.session.specs.Acting.{Finishes, IdlesBy, Performs, ServesHeard, TimesOut}
use Rattle.session.specs.Answering.{turns_by, sent_by}
use Rattle.session.specs.Devices.{OnlyAsks, KeepsSubscriber, world_of, state_of, served_of}
use Rattle.session.specs.Owing.{FitsPlant, IsTextOf}
use Rattle.session_replies.specs.Reply.{reply, replied}
use Rattle.session_requests.specs.Request.{request_of, subscription_in}
use Rattle.session.specs.Run.{World, Advances}
use Rattle.session.specs.Served.{Deed, Event, asked, idled, IsDeclined, IsUnserved}
use Rattle.session.specs.State.{State}
use Rattle.session.specs.Steps.{ServesContent}
use Rattle.session.specs.declared.answer.Answer.{Answer}
use Rattle.session.specs.declared.end.End.{End}
use Rattle.session.specs.declared.end.End.TheVariants as e
use Rattle.session.specs.declared.session.Session.{Session}
use Rattle.session.specs.declared.subscriber.Subscriber.{Subscriber}
use Rattle.session.proofs.ChainLemmas.{fits-more, fits-chain, known-rises}
use Rattle.session.proofs.PerformLemmas.{performs-one, performs-append, content_performs}
use Rattle.session.proofs.ServedLemmas.{declined_deed, does_nothing, tells_declined, tells_unserved, unserved_deed, unserved_turn}
use Rattle.session.proofs.ToldLemmas.{told-nil}

-- the plant's frame stays
pub advanced-frame : (a b : AccessView) (turns : List Turn) (made : List Entry) (i j : ℕ) → Advances a b turns made i j → b.frame ≡ a.frame
advanced-frame a b turns made i j h = ap (λ (v : AccessView). v.frame) h.after

-- a subscriber that stays, while the access goes on
pub fits-advanced : (a b : AccessView) (turns : List Turn) (made : List Entry) (i j : ℕ) (x y : Option Subscriber) → Advances a b turns made i j → y ≡ x → FitsPlant a.frame (length a.seen) x → FitsPlant b.frame (length b.seen) y
fits-advanced a b turns made i j x y h same fits =
    subst (λ (f : Frame). FitsPlant f (length b.seen) y) (sym (advanced-frame a b turns made i j h)) (fits-more a.frame (length a.seen) (length b.seen) x y (known-rises (length a.seen) (length b.seen) turns h.lengths) same fits)

pub performed-frame : (heard : List Event) (a b : World) (x y : State) (end : Option End) → Performs heard a b x y end → b.access.frame ≡ a.access.frame
performed-frame heard a b x y end p = ap (λ (v : AccessView). v.frame) p.works.access.after

pub performed-fits : (heard : List Event) (a b : World) (x y : State) → Performs heard a b x y None → FitsPlant a.access.frame x.known x.subscriber → FitsPlant b.access.frame y.known y.subscriber
performed-fits heard a b x y p fits =
    let kept : FitsPlant a.access.frame p.after.known p.after.subscriber = fits-chain a.access.frame a.access.by b.access.seen x p.after p.steps fits p.works.served in
    subst (λ (f : Frame). FitsPlant f y.known y.subscriber) (sym (performed-frame heard a b x y None p)) (subst (λ (v : State). FitsPlant a.access.frame v.known v.subscriber) (p.goes_on refl) kept)

pub served-frame : (event : Event) (a b : World) (x y : State) (end : Option End) → ServesHeard event a b x y end → b.access.frame ≡ a.access.frame
served-frame event a b x y end (inl p) = performed-frame (event ∷ []) a b x y end p
served-frame event a b x y end (inr p) = performed-frame [] a b x y end p.1

pub served-fits : (event : Event) (a b : World) (x y : State) → ServesHeard event a b x y None → FitsPlant a.access.frame x.known x.subscriber → FitsPlant b.access.frame y.known y.subscriber
served-fits event a b x y (inl p) fits = performed-fits (event ∷ []) a b x y p fits
served-fits event a b x y (inr p) fits = absurd (let h = p.0 in cc)

-- a message outside the profile was answered
pub unbuilt_performs : {A L C G N : Type 0} (access : A → AccessView) (link : L → LinkView) (clock : C → Option (List ℤ)) (notes : N → Option (List Turn)) (s z : Session A L C G N)
    (limits : Limits) (sync : Bool) (at : ℕ) (answer : Answer) (end : Option End)
    → OnlyAsks s s → (access s.access.now).frame.limits ≡ limits
    → answer.roll ≡ None → answer.turn ≡ unserved_turn sync → sent_by answer.reply ≡ replied sync (reply limits (wrong (codes "nyi")))
    → KeepsSubscriber s z → z.access.now ≡ s.access.now → z.clock.now ≡ s.clock.now
    → Tells (notes s.recorder.now) (notes z.recorder.now) (turns_by answer.roll answer.turn)
    → Finishes (link s.link.now) (link z.link.now) (sent_by answer.reply) end
    → ServesHeard (asked (record { sync = sync; content = unbuilt at })) (world_of access link clock notes s) (world_of access link clock notes z) (state_of access s) (served_of access z) end
unbuilt_performs access link clock notes s z limits sync at answer end none same roll turn answered keeps own still noted sent =
    let a = access s.access.now in
    content_performs access link clock notes s s z (asked (record { sync = sync; content = unbuilt at })) (IsUnserved a.frame sync) answer end none keeps own still
    (does_nothing a (clock s.clock.now) (IsUnserved a.frame sync) answer (unserved_turn sync) roll turn (tells_unserved _ sync) (unserved_deed a.frame limits sync answer same roll turn answered))
    noted sent (λ deed done. (keeps.subscriber, done)) refl (refl, refl)

-- a text that subscribes to no single table is declined
formless_serves : (frame : Frame) (by : ℕ) (seen : List Entry) (x y : Option Subscriber) (sync : Bool) (value : Tree) (form : SubForm) (deed : Deed)
    → IsTextOf (request_of value) form → subscription_in form ≡ None → y ≡ x → IsDeclined frame sync (codes "type") deed → ServesContent frame by seen x y sync (built value) deed
formless_serves frame by seen x y sync value form deed is unnamed same done = inl (rw is.1 (inr (form, is.2, rw unnamed (same, done))))

pub formless_performs : {A L C G N : Type 0} (access : A → AccessView) (link : L → LinkView) (clock : C → Option (List ℤ)) (notes : N → Option (List Turn)) (s z : Session A L C G N)
    (limits : Limits) (sync : Bool) (value : Tree) (form : SubForm) (answer : Answer) (end : Option End)
    → OnlyAsks s s → (access s.access.now).frame.limits ≡ limits → IsTextOf (request_of value) form → subscription_in form ≡ None
    → answer.roll ≡ None → answer.turn ≡ t.Declined → sent_by answer.reply ≡ replied sync (reply limits (wrong (codes "type")))
    → KeepsSubscriber s z → z.access.now ≡ s.access.now → z.clock.now ≡ s.clock.now
    → Tells (notes s.recorder.now) (notes z.recorder.now) (turns_by answer.roll answer.turn)
    → Finishes (link s.link.now) (link z.link.now) (sent_by answer.reply) end
    → ServesHeard (asked (record { sync = sync; content = built value })) (world_of access link clock notes s) (world_of access link clock notes z) (state_of access s) (served_of access z) end
formless_performs access link clock notes s z limits sync value form answer end none same is unnamed roll turn answered keeps own still noted sent =
    let a = access s.access.now in
    content_performs access link clock notes s s z (asked (record { sync = sync; content = built value })) (IsDeclined a.frame sync (codes "type")) answer end none keeps own still
    (does_nothing a (clock s.clock.now) (IsDeclined a.frame sync (codes "type")) answer t.Declined roll turn (tells_declined _) (declined_deed a.frame limits sync answer same roll turn answered))
    noted sent (λ deed done. formless_serves a.frame a.by a.seen s.client.now.subscriber z.client.now.subscriber sync value form deed is unnamed keeps.subscriber done) refl (refl, refl)

-- a read timeout was served
pub idle_performs : {A L C G N : Type 0} (access : A → AccessView) (link : L → LinkView) (clock : C → Option (List ℤ)) (notes : N → Option (List Turn)) (s m : Session A L C G N)
    → KeepsSubscriber s m → IdlesBy (state_of access s) (world_of access link clock notes s) (world_of access link clock notes m)
    → Performs (idled ∷ []) (world_of access link clock notes s) (world_of access link clock notes m) (state_of access s) (served_of access m) None
idle_performs access link clock notes s m keeps h =
    performs-one (world_of access link clock notes s) (world_of access link clock notes m) (state_of access s) (served_of access m) idled (idled ∷ []) h.deed None
    refl refl h.clock h.notes h.access (keeps.subscriber, h.done) (refl, refl)
    (h.link ∙ sym (ap (λ k. record (link s.link.now) { taken = k }) (ap (told (link s.link.now).taken) h.done.unsent ∙ told-nil (link s.link.now).taken)))
    refl

-- a read timeout was the last one, or one of more
pub times_out_end : (a b c : World) (x y z : State) (left : ℕ) (end : End) → Performs (idled ∷ []) a b x y None → Performs [] b c y z (Some end) → TimesOut a c x z left (Some end)
times_out_end a b c x y z left end p q = inr (performs-append a b c x y z (idled ∷ []) [] (Some end) p q)

pub times_out_last : (a b c : World) (x y z : State) (left : ℕ) → left ≡ 0 → Performs (idled ∷ []) a b x y None → Performs [] b c y z None → TimesOut a c x z left (Some e.Idle)
times_out_last a b c x y z left last p q = inl (refl, last, performs-append a b c x y z (idled ∷ []) [] None p q)

pub times_out_more : (a b c : World) (x y z : State) (left : ℕ) → 0 < left → Performs (idled ∷ []) a b x y None → Performs [] b c y z None → TimesOut a c x z left None
times_out_more a b c x y z left more p q = (performs-append a b c x y z (idled ∷ []) [] None p q, more)
