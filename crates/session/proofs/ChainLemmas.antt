-- What stays true of a subscriber from step to step.
use Rattle.std.proofs.Common.{◌≡◌, ◌≤◌, ℕ, Bool, List, [], ◌∷◌, refl, sym, ap, subst, ◌∙◌, arith, inl, inr, Option, Some, None}
use Rattle.day_rows.specs.declared.entry.Entry.{Entry}
use Rattle.ipc_frame.specs.Stream.{Content, built, unbuilt}
use Rattle.plant_memory.specs.Frame.{Frame}
use Rattle.pubsub.specs.declared.request.SubRequest.{SubRequest}
use Rattle.q_values.specs.declared.turn.Turn.{Turn}
use Rattle.session.specs.Lawful.{AreLengths, last_length, length_after}
use Rattle.session.specs.Owing.{FitsPlant}
use Rattle.session_requests.specs.Request.{Request, update, subscribe, mistyped, text, other, request_of, subscription_in}
use Rattle.session.specs.Served.{Event, greeted, asked, idled, published, Deed, Step}
use Rattle.session.specs.State.{State, Chain}
use Rattle.session.specs.Steps.{Serves, ServesAsked, ServesContent, IsStep}
use Rattle.session.specs.Subscribing.{Publishes, ServesSubscription, ServesForm}
use Rattle.session.specs.declared.subscriber.Subscriber.{Subscriber}
use Rattle.session.proofs.GoingLemmas.{go_on-rises}

-- more is known
pub fits-more : (frame : Frame) (n m : ℕ) (x y : Option Subscriber) → n ≤ m → y ≡ x → FitsPlant frame n x → FitsPlant frame m y
fits-more frame n m None None le same fits = tt
fits-more frame n m None (Some s) le same fits = absurd cc
fits-more frame n m (Some s) None le same fits = absurd cc
fits-more frame n m (Some s) (Some r) le same fits = let is : r ≡ s = cc in (ap (λ (v : Subscriber). v.subscription.schema) is ∙ fits.0, omega (arith, ap (λ (v : Subscriber). v.cursor) is, fits.1, le))

-- the lengths of one turn that reports a count end there
ends_at : (n m count : ℕ) (turns : List Turn) (turn : Turn) → AreLengths n m turns → turns ≡ turn ∷ [] → length_after n turn ≡ count → count ≤ m
ends_at n m count turns turn lengths is after = let last : last_length n turns ≡ count = ap (last_length n) is ∙ after in omega (arith, last, lengths.within)

pub known-rises : (n m : ℕ) (turns : List Turn) → AreLengths n m turns → n ≤ m
known-rises n m turns lengths = omega (arith, go_on-rises n turns lengths.rising, lengths.within)

fits-subscription : (frame : Frame) (seen : List Entry) (n m : ℕ) (x y : Option Subscriber) (sync : Bool) (request : SubRequest) (deed : Deed) → AreLengths n m deed.turns → FitsPlant frame n x → ServesSubscription frame seen x y sync request deed → FitsPlant frame m y
fits-subscription frame seen n m None y sync request deed lengths fits (inl h) = rw h.after_it (refl, ends_at n m h.count deed.turns _ lengths h.noted refl)
fits-subscription frame seen n m (Some s) y sync request deed lengths fits (inl h) = rw h.after_it (fits.0, ends_at n m h.count deed.turns _ lengths h.noted refl)
fits-subscription frame seen n m x y sync request deed lengths fits (inr h) = fits-more frame n m x y (known-rises n m deed.turns lengths) h.0 fits

fits-form : (frame : Frame) (seen : List Entry) (n m : ℕ) (x y : Option Subscriber) (sync : Bool) (request : Option SubRequest) (deed : Deed) → AreLengths n m deed.turns → FitsPlant frame n x → ServesForm frame seen x y sync request deed → FitsPlant frame m y
fits-form frame seen n m x y sync (Some request) deed lengths fits h = fits-subscription frame seen n m x y sync request deed lengths fits h
fits-form frame seen n m x y sync None deed lengths fits h = fits-more frame n m x y (known-rises n m deed.turns lengths) h.0 fits

fits-asked : (frame : Frame) (by : ℕ) (seen : List Entry) (n m : ℕ) (x y : Option Subscriber) (sync : Bool) (request : Request) (deed : Deed) → AreLengths n m deed.turns → FitsPlant frame n x → ServesAsked frame by seen x y sync request deed → FitsPlant frame m y
fits-asked frame by seen n m x y sync (update table items) deed lengths fits h = fits-more frame n m x y (known-rises n m deed.turns lengths) h.0 fits
fits-asked frame by seen n m x y sync (subscribe request) deed lengths fits h = fits-subscription frame seen n m x y sync request deed lengths fits h
fits-asked frame by seen n m x y sync mistyped deed lengths fits h = fits-more frame n m x y (known-rises n m deed.turns lengths) h.0 fits
fits-asked frame by seen n m x y sync (text bytes) deed lengths fits (inl h) = fits-more frame n m x y (known-rises n m deed.turns lengths) h.0 fits
fits-asked frame by seen n m x y sync (text bytes) deed lengths fits (inr h) = fits-form frame seen n m x y sync (subscription_in h.0) deed lengths fits h.2
fits-asked frame by seen n m x y sync other deed lengths fits h = fits-more frame n m x y (known-rises n m deed.turns lengths) h.0 fits

fits-content : (frame : Frame) (by : ℕ) (seen : List Entry) (n m : ℕ) (x y : Option Subscriber) (sync : Bool) (content : Content) (deed : Deed) → AreLengths n m deed.turns → FitsPlant frame n x → ServesContent frame by seen x y sync content deed → FitsPlant frame m y
fits-content frame by seen n m x y sync (unbuilt at) deed lengths fits h = fits-more frame n m x y (known-rises n m deed.turns lengths) h.0 fits
fits-content frame by seen n m x y sync (built t) deed lengths fits (inl h) = fits-asked frame by seen n m x y sync (request_of t) deed lengths fits h
fits-content frame by seen n m x y sync (built t) deed lengths fits (inr h) = fits-more frame n m x y (known-rises n m deed.turns lengths) h.0 fits

fits-published : (frame : Frame) (seen : List Entry) (n m : ℕ) (x y : Option Subscriber) (deed : Deed) → AreLengths n m deed.turns → FitsPlant frame n x → Publishes frame seen x y deed → FitsPlant frame m y
fits-published frame seen n m None y deed lengths fits h = absurd h
fits-published frame seen n m (Some s) y deed lengths fits (inl h) = rw h.after_it (fits.0, ends_at n m h.count deed.turns _ lengths h.noted refl)
fits-published frame seen n m (Some s) y deed lengths fits (inr h) = fits-more frame n m (Some s) y (known-rises n m deed.turns lengths) h.0 fits

fits-served : (frame : Frame) (by : ℕ) (seen : List Entry) (x : State) (m : ℕ) (y : Option Subscriber) (event : Event) (deed : Deed) → AreLengths x.known m deed.turns → FitsPlant frame x.known x.subscriber → Serves frame by seen x y event deed → FitsPlant frame m y
fits-served frame by seen x m y (greeted c) deed lengths fits h = fits-more frame x.known m x.subscriber y (known-rises x.known m deed.turns lengths) h.0 fits
fits-served frame by seen x m y (asked message) deed lengths fits h = fits-content frame by seen x.known m x.subscriber y message.sync message.content deed lengths fits h
fits-served frame by seen x m y idled deed lengths fits h = fits-more frame x.known m x.subscriber y (known-rises x.known m deed.turns lengths) h.0 fits
fits-served frame by seen x m y published deed lengths fits h = fits-published frame seen x.known m x.subscriber y deed lengths fits h

pub fits-chain : (frame : Frame) (by : ℕ) (seen : List Entry) (x y : State) (steps : List Step) → FitsPlant frame x.known x.subscriber → Chain (IsStep frame by seen) x y steps → FitsPlant frame y.known y.subscriber
fits-chain frame by seen x y [] fits h = subst (λ (v : State). FitsPlant frame v.known v.subscriber) (sym h) fits
fits-chain frame by seen x y (s ∷ steps) fits h =
    fits-chain frame by seen h.0 y steps (fits-served frame by seen x h.0.known h.0.subscriber s.event s.deed h.1.lengths fits h.1.served) h.2
