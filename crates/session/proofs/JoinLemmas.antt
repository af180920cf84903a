-- Consecutive parts of a session.
use Rattle.std.proofs.Common.{◌≡◌, ◌+◌, ℕ, Bool, true, false, List, [], ◌∷◌, ◌++◌, length, refl, sym, ap, subst, ◌∙◌, arith, append_assoc, inl, inr, ◌⊎◌, Option, Some, None}
use Rattle.std.proofs.lemmas.List.{length-append}
use Rattle.std.proofs.lemmas.List.Concat.{flat_map-append}
use Rattle.std.proofs.lemmas.List.Sums.{sum_by-append}
use Rattle.day_rows.specs.declared.entry.Entry.{Entry}
use Rattle.ipc_frame.specs.Stream.{Content, built, unbuilt}
use Rattle.plant_core.specs.Access.{AccessView}
use Rattle.plant_memory.specs.Frame.{Frame}
use Rattle.q_values.specs.declared.limits.Limits.{Limits}
use Rattle.q_values.specs.declared.turn.Turn.{Turn}
use Rattle.session.specs.Chronicle.{IsFront}
use Rattle.session.specs.Heard.{Hears, idles_heard}
use Rattle.session.specs.Lawful.{AllGoOn, length_after, last_length}
use Rattle.session_requests.specs.Request.{Request, update, subscribe, mistyped, text, other, request_of, subscription_in}
use Rattle.session.specs.Run.{World, Works, Advances, turns_of, made_in, snapshots_in, ticks_in}
use Rattle.session.specs.Served.{Event, greeted, asked, idled, published, Deed, Step, StandsAfter, ServesRequest, ServesText, ServesIdle, IsIdle}
use Rattle.session.specs.State.{State, Chain}
use Rattle.session.specs.Steps.{Serves, ServesAsked, ServesContent, IsStep}
use Rattle.session.specs.Subscribing.{Publishes, IsTooMuch, IsUnknown, IsTooMuchBefore, IsShortOfTelling, ServesSubscription, ServesForm}
use Rattle.session.specs.declared.subscriber.Subscriber.{Subscriber}
use Rattle.pubsub.specs.declared.request.SubRequest.{SubRequest}
use Rattle.session.proofs.GoingLemmas.{at_most, just, go_on-lower}
use Rattle.session.proofs.ToldLemmas.{told-told, counted-counted, tells-append}

-- what was heard in two parts
pub hears-append : (limits : Limits) (g h i : Bool) (place : ℕ) (x y : List ℕ) (es fs : List Event) → Hears limits g place x es h → Hears limits h (place + length x) y fs i → Hears limits g place (x ++ y) (es ++ fs) i
hears-append limits g h i place x y [] fs p q =
    let same : x ++ y ≡ y = ap (λ l. l ++ y) p.0 in
    let at : place + length x ≡ place = omega (arith, ap length p.0) in
    subst (λ l. Hears limits g place l fs i) (sym same) (subst (λ b. Hears limits b place y fs i) p.1 (subst (λ n. Hears limits h n y fs i) at q))
hears-append limits false h i place x y (greeted c ∷ es) fs p q =
    let far : place + length x ≡ (place + length p.0) + length p.1 = omega (arith, ap length p.2, length-append p.0 p.1) in
    (p.0, p.1 ++ y, ap (λ l. l ++ y) p.2 ∙ append_assoc p.0 p.1 y, p.3, hears-append limits true h i (place + length p.0) p.1 y es fs p.4 (subst (λ n. Hears limits h n y fs i) far q))
hears-append limits true h i place x y (greeted c ∷ es) fs p q = absurd p
hears-append limits false h i place x y (asked m ∷ es) fs p q = absurd p
hears-append limits true h i place x y (asked m ∷ es) fs p q =
    let far : place + length x ≡ (place + length p.0) + length p.1 = omega (arith, ap length p.2, length-append p.0 p.1) in
    (p.0, p.1 ++ y, ap (λ l. l ++ y) p.2 ∙ append_assoc p.0 p.1 y, p.3, hears-append limits true h i (place + length p.0) p.1 y es fs p.4 (subst (λ n. Hears limits h n y fs i) far q))
hears-append limits false h i place x y (idled ∷ es) fs p q = hears-append limits false h i place x y es fs p q
hears-append limits true h i place x y (idled ∷ es) fs p q = hears-append limits true h i place x y es fs p q
hears-append limits false h i place x y (published ∷ es) fs p q = hears-append limits false h i place x y es fs p q
hears-append limits true h i place x y (published ∷ es) fs p q = hears-append limits true h i place x y es fs p q

pub idles-append : (es fs : List Event) → idles_heard (es ++ fs) ≡ idles_heard es + idles_heard fs
idles-append [] fs = omega arith
idles-append (greeted c ∷ es) fs = idles-append es fs
idles-append (asked m ∷ es) fs = idles-append es fs
idles-append (idled ∷ es) fs = let e = idles-append es fs in omega arith
idles-append (published ∷ es) fs = idles-append es fs

-- ---- what was done over a front part of the chronicle stays so as it grows

front-more : (n : ℕ) (front seen more : List Entry) → IsFront n front seen → IsFront n front (seen ++ more)
front-more n front seen more h = record { count = h.count; more = h.more ++ more; whole = ap (λ l. l ++ more) h.whole ∙ append_assoc front h.more more }

stands-more : (front made seen more : List Entry) → StandsAfter front made seen → StandsAfter front made (seen ++ more)
stands-more front made seen more h = record { more = h.more ++ more; whole = ap (λ l. l ++ more) h.whole ∙ append_assoc (front ++ made) h.more more }

text-more : (frame : Frame) (seen more : List Entry) (sync : Bool) (bytes : List ℕ) (deed : Deed) → ServesText frame seen sync bytes deed → ServesText frame (seen ++ more) sync bytes deed
text-more frame seen more true bytes deed h = record { count = h.count; front = h.front; is_front = front-more h.count h.front seen more h.is_front; value = h.value; known = h.known; unsubscribed = h.unsubscribed; noted = h.noted; answered = h.answered; unread = h.unread; unmade = h.unmade; asked = h.asked }
text-more frame seen more false bytes deed h = h

request-more : (frame : Frame) (by : ℕ) (seen more : List Entry) (sync : Bool) (request : Request) (deed : Deed) → ServesRequest frame by seen sync request deed → ServesRequest frame by (seen ++ more) sync request deed
request-more frame by seen more sync (update table items) deed (inl h) = inl (record { front = h.front; now = h.now; accepted = h.accepted; stands = stands-more h.front deed.made seen more h.stands; noted = h.noted; answered = h.answered; read = h.read; unasked = h.unasked })
request-more frame by seen more sync (update table items) deed (inr (inr h)) = inr (inr (record { front = h.front; now = h.now; before = h.before; failed = h.failed; rest = h.rest; accepted = h.accepted; made = h.made; stands = stands-more h.front deed.made seen more h.stands; noted = h.noted; answered = h.answered; read = h.read; unasked = h.unasked }))
request-more frame by seen more sync (update table items) deed (inr (inl h)) = inr (inl (record { count = h.count; front = h.front; is_front = front-more h.count h.front seen more h.is_front; now = h.now; why = h.why; refused = h.refused; noted = h.noted; answered = h.answered; read = h.read; unmade = h.unmade; unasked = h.unasked }))
request-more frame by seen more sync (subscribe request) deed h = absurd h
request-more frame by seen more sync mistyped deed h = h
request-more frame by seen more sync (text bytes) deed h = text-more frame seen more sync bytes deed h
request-more frame by seen more sync other deed h = h

too_much-more : (frame : Frame) (seen more : List Entry) (s : Subscriber) (sent : List ℕ) (deed : Deed) → IsTooMuch frame seen s sent deed → IsTooMuch frame (seen ++ more) s sent deed
too_much-more frame seen more s sent deed h = record { count = h.count; front = h.front; is_front = front-more h.count h.front seen more h.is_front; more = h.more; long = h.long; noted = h.noted; sent_is = h.sent_is; still = h.still }

too_much_before-more : (frame : Frame) (seen more : List Entry) (x : Option Subscriber) (sync : Bool) (deed : Deed) → IsTooMuchBefore frame seen x sync deed → IsTooMuchBefore frame (seen ++ more) x sync deed
too_much_before-more frame seen more None sync deed h = absurd h
too_much_before-more frame seen more (Some s) sync deed h = too_much-more frame seen more s _ deed h

subscription-more : (frame : Frame) (seen more : List Entry) (x y : Option Subscriber) (sync : Bool) (request : SubRequest) (deed : Deed) → ServesSubscription frame seen x y sync request deed → ServesSubscription frame (seen ++ more) x y sync request deed
subscription-more frame seen more x y sync request deed (inl h) = inl (record { count = h.count; front = h.front; is_front = front-more h.count h.front seen more h.is_front; known = h.known; paid = h.paid; after_it = h.after_it; noted = h.noted; answered = h.answered; still = h.still })
subscription-more frame seen more x y sync request deed (inr h) = inr (h.0, kept h.1)
  where
    kept : IsUnknown frame sync request deed ⊎ IsTooMuchBefore frame seen x sync deed → IsUnknown frame sync request deed ⊎ IsTooMuchBefore frame (seen ++ more) x sync deed
    kept (inl u) = inl u
    kept (inr m) = inr (too_much_before-more frame seen more x sync deed m)

form-more : (frame : Frame) (seen more : List Entry) (x y : Option Subscriber) (sync : Bool) (request : Option SubRequest) (deed : Deed) → ServesForm frame seen x y sync request deed → ServesForm frame (seen ++ more) x y sync request deed
form-more frame seen more x y sync (Some request) deed h = subscription-more frame seen more x y sync request deed h
form-more frame seen more x y sync None deed h = h

asked-more : (frame : Frame) (by : ℕ) (seen more : List Entry) (x y : Option Subscriber) (sync : Bool) (request : Request) (deed : Deed) → ServesAsked frame by seen x y sync request deed → ServesAsked frame by (seen ++ more) x y sync request deed
asked-more frame by seen more x y sync (update table items) deed h = (h.0, request-more frame by seen more sync (update table items) deed h.1)
asked-more frame by seen more x y sync (subscribe request) deed h = subscription-more frame seen more x y sync request deed h
asked-more frame by seen more x y sync mistyped deed h = h
asked-more frame by seen more x y sync (text bytes) deed (inl h) = inl (h.0, request-more frame by seen more sync (text bytes) deed h.1)
asked-more frame by seen more x y sync (text bytes) deed (inr h) = inr (h.0, h.1, form-more frame seen more x y sync (subscription_in h.0) deed h.2)
asked-more frame by seen more x y sync other deed h = h

content-more : (frame : Frame) (by : ℕ) (seen more : List Entry) (x y : Option Subscriber) (sync : Bool) (content : Content) (deed : Deed) → ServesContent frame by seen x y sync content deed → ServesContent frame by (seen ++ more) x y sync content deed
content-more frame by seen more x y sync (unbuilt at) deed h = h
content-more frame by seen more x y sync (built t) deed (inl h) = inl (asked-more frame by seen more x y sync (request_of t) deed h)
content-more frame by seen more x y sync (built t) deed (inr h) = inr h

publishes-more : (frame : Frame) (seen more : List Entry) (x y : Option Subscriber) (deed : Deed) → Publishes frame seen x y deed → Publishes frame (seen ++ more) x y deed
publishes-more frame seen more None y deed h = absurd h
publishes-more frame seen more (Some s) y deed (inl h) = inl (record { count = h.count; front = h.front; is_front = front-more h.count h.front seen more h.is_front; more = h.more; after_it = h.after_it; fit = h.fit; noted = h.noted; sent = h.sent; still = h.still })
publishes-more frame seen more (Some s) y deed (inr h) = inr (h.0, kept h.1)
  where
    kept : IsTooMuch frame seen s [] deed ⊎ IsShortOfTelling deed → IsTooMuch frame (seen ++ more) s [] deed ⊎ IsShortOfTelling deed
    kept (inl m) = inl (too_much-more frame seen more s [] deed m)
    kept (inr n) = inr n

idle_done-more : (frame : Frame) (by : ℕ) (seen more : List Entry) (before : State) (deed : Deed) → IsIdle frame by seen before deed → IsIdle frame by (seen ++ more) before deed
idle_done-more frame by seen more before deed (inl d) = inl (record { count = d.count; front = d.front; is_front = front-more d.count d.front seen more d.is_front; now = d.now; same = d.same; noted = d.noted; read = d.read; unmade = d.unmade; asked = d.asked })
idle_done-more frame by seen more before deed (inr (inl d)) = inr (inl (record { front = d.front; now = d.now; next = d.next; rolled = d.rolled; stands = stands-more d.front deed.made seen more d.stands; noted = d.noted; read = d.read; asked = d.asked }))
idle_done-more frame by seen more before deed (inr (inr (inl d))) = inr (inr (inl (record { front = d.front; now = d.now; next = d.next; failed = d.failed; stands = stands-more d.front deed.made seen more d.stands; noted = d.noted; read = d.read; asked = d.asked })))
idle_done-more frame by seen more before deed (inr (inr (inr d))) =
    inr (inr (inr (record { count = d.count; front = d.front; is_front = front-more d.count d.front seen more d.is_front; known = d.known; now = d.now; next = d.next; noted = d.noted; read = d.read; unmade = d.unmade; asked = d.asked })))

idle-more : (frame : Frame) (by : ℕ) (seen more : List Entry) (before : State) (deed : Deed) → ServesIdle frame by seen before deed → ServesIdle frame by (seen ++ more) before deed
idle-more frame by seen more before deed h = record { unsent = h.unsent; done = idle_done-more frame by seen more before deed h.done }

serves-more : (frame : Frame) (by : ℕ) (seen more : List Entry) (before : State) (after : Option Subscriber) (event : Event) (deed : Deed) → Serves frame by seen before after event deed → Serves frame by (seen ++ more) before after event deed
serves-more frame by seen more before after (greeted c) deed h = h
serves-more frame by seen more before after (asked m) deed h = content-more frame by seen more before.subscriber after m.sync m.content deed h
serves-more frame by seen more before after idled deed h = (h.0, idle-more frame by seen more before deed h.1)
serves-more frame by seen more before after published deed h = publishes-more frame seen more before.subscriber after deed h

step-more : (frame : Frame) (by : ℕ) (seen more : List Entry) (before after : State) (s : Step) → IsStep frame by seen before after s → IsStep frame by (seen ++ more) before after s
step-more frame by seen more before after s h = record { served = serves-more frame by seen more before after.subscriber s.event s.deed h.served; lengths = h.lengths; due = h.due }

-- ---- lengths in two parts

last_length-append : (n : ℕ) (xs ys : List Turn) → last_length n (xs ++ ys) ≡ last_length (last_length n xs) ys
last_length-append n [] ys = refl
last_length-append n (x ∷ xs) ys = last_length-append (length_after n x) xs ys

go_on-append : (R : ℕ → ℕ → Type 0) (n : ℕ) (xs ys : List Turn) → AllGoOn R n xs → AllGoOn R (last_length n xs) ys → AllGoOn R n (xs ++ ys)
go_on-append R n [] ys p q = q
go_on-append R n (x ∷ xs) ys p q = (p.0, go_on-append R (length_after n x) xs ys p.1 q)

pub advances-append : (a b c : AccessView) (xs ys : List Turn) (made more : List Entry) (i j m n : ℕ) → Advances a b xs made i m → Advances b c ys more j n → Advances a c (xs ++ ys) (made ++ more) (i + j) (m + n)
advances-append a b c xs ys made more i j m n p q =
    let seen : b.seen ≡ a.seen ++ p.gained = ap (λ (v : AccessView). v.seen) p.after in
    let lower = go_on-lower (last_length (length a.seen) xs) (length b.seen) ys p.lengths.within q.lengths.rising in
    let second = q.lengths.within in
    record {
      gained = p.gained ++ q.gained;
      after = q.after ∙ rw (p.after, append_assoc, append_assoc, counted-counted, counted-counted) refl;
      lengths = record {
        rising = go_on-append at_most (length a.seen) xs ys p.lengths.rising lower.0;
        within = rw (last_length-append (length a.seen) xs ys) (omega (arith, lower.1, second));
      };
      alone = λ only.
          let one = p.alone only in
          let two = q.alone (ap (λ (v : AccessView). v.alone) p.after ∙ only) in
          record {
            each = go_on-append just (length a.seen) xs ys one.each (rw one.last two.each);
            last = last_length-append (length a.seen) xs ys ∙ rw one.last two.last;
          };
    }

-- ---- consecutive steps in two parts

chain-append : {S : Type 0} (R : State → State → S → Type 0) (x y z : State) (ss ts : List S) → Chain R x y ss → Chain R y z ts → Chain R x z (ss ++ ts)
chain-append R x y z [] ts p q = subst (λ v. Chain R v z ts) p q
chain-append R x y z (s ∷ ss) ts p q = (p.0, p.1, chain-append R p.0 y z ss ts p.2 q)

chain-weaker : {S : Type 0} (P Q : State → State → S → Type 0) (x y : State) (ss : List S) → ((v w : State) (s : S) → P v w s → Q v w s) → Chain P x y ss → Chain Q x y ss
chain-weaker P Q x y [] f h = h
chain-weaker P Q x y (s ∷ ss) f h = (h.0, f x h.0 s h.1, chain-weaker P Q h.0 y ss f h.2)

-- steps in two parts
pub works-append : (a b c : World) (x y z : State) (xs ys : List Step) → Works a b x y xs → Works b c y z ys → Works a c x z (xs ++ ys)
works-append a b c x y z xs ys p q =
    let by_is : b.access.by ≡ a.access.by = ap (λ (v : AccessView). v.by) p.access.after in
    let frame_is : b.access.frame ≡ a.access.frame = ap (λ (v : AccessView). v.frame) p.access.after in
    let seen_is : c.access.seen ≡ b.access.seen ++ q.access.gained = ap (λ (v : AccessView). v.seen) q.access.after in
    let first : Chain (IsStep a.access.frame a.access.by c.access.seen) x y xs =
    rw seen_is (chain-weaker (IsStep a.access.frame a.access.by b.access.seen) (IsStep a.access.frame a.access.by (b.access.seen ++ q.access.gained)) x y xs (step-more a.access.frame a.access.by b.access.seen q.access.gained) p.served) in
    let second : Chain (IsStep a.access.frame a.access.by c.access.seen) y z ys = rw (by_is, frame_is) at q.served in
    record {
      clock = q.clock ∙ rw (p.clock, told-told, flat_map-append) refl;
      notes = rw flat_map-append (tells-append a.notes b.notes c.notes (turns_of xs) (turns_of ys) p.notes q.notes);
      access = rw (flat_map-append, flat_map-append, sum_by-append, sum_by-append) (advances-append a.access b.access c.access (turns_of xs) (turns_of ys) (made_in xs) (made_in ys) (snapshots_in xs) (snapshots_in ys) (ticks_in xs) (ticks_in ys) p.access q.access);
      served = chain-append (IsStep a.access.frame a.access.by c.access.seen) x y z xs ys first second;
    }
