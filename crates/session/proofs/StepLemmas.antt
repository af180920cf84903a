-- One step of a session.
use Rattle.std.proofs.Common.{◌≡◌, ◌<◌, ◌+◌, ℕ, ℤ, Bool, true, false, List, [], ◌∷◌, ◌++◌, length, Option, Some, None, refl, sym, ap, subst, ◌∙◌, arith, inl, inr, ◌⊎◌}
use Rattle.std.specs.List.{flat_map}
use Rattle.std.proofs.lemmas.List.{append-nil}
use Rattle.link_reader.specs.Moved.{moved}
use Rattle.outside_api.specs.Counts.{counted}
use Rattle.outside_api.specs.Link.{LinkView}
use Rattle.outside_api.specs.Told.{told, Tells}
use Rattle.plant_core.specs.Access.{AccessView}
use Rattle.ipc_frame.specs.Framing.{IsNeeded}
use Rattle.ipc_frame.specs.View.{told_place}
use Rattle.q_values.specs.declared.limits.Limits.{Limits}
use Rattle.q_values.specs.declared.turn.Turn.{Turn}
use Rattle.session.specs.Acting.{Performs, ServesHeard, TimesOut}
use Rattle.link_reader.specs.Arrival.{ReaderView, Gathers, Waits, heard_by, unheard}
use Rattle.session.specs.Ended.{Runs, Converses, Goes}
use Rattle.session.specs.Heard.{Hears, idles_heard}
use Rattle.session.specs.Run.{World, world, Works, Advances, sent_in}
use Rattle.session.specs.Lawful.{AreLengths}
use Rattle.session.specs.Served.{Event, idled, Step}
use Rattle.session.specs.State.{State}
use Rattle.session.specs.Steps.{Serves, IsDue}
use Rattle.session.specs.declared.end.End.{End}
use Rattle.session.specs.declared.end.End.TheVariants as e
use Rattle.session.proofs.PartLemmas.{events, parts, sent_is, hears-heard, idles-heard}
use Rattle.session.proofs.ToldLemmas.{told-nil}

-- nothing was done
pub advances-none : (a : AccessView) → Advances a a [] [] 0 0
advances-none a = record {
  gained = [];
  after = rw (append-nil a.seen, append-nil a.mine) refl;
  lengths = record { rising = tt; within = omega arith };
  alone = λ _. record { each = tt; last = refl };
}

pub tells-none : {X : Type 0} (o : Option (List X)) → Tells o o []
tells-none o all e = told-nil o ∙ e

pub works-none : (link link' : LinkView) (k : Option (List ℤ)) (n : Option (List Turn)) (a : AccessView) (x : State) → Works (world link k n a) (world link' k n a) x x []
works-none link link' k n a x = record {
  clock = sym (told-nil k);
  notes = tells-none n;
  access = advances-none a;
  served = refl;
}

-- what one step does
pub works-one : (a b : World) (x y : State) (s : Step) → x.known ≡ length a.access.seen → y.known ≡ length b.access.seen
    → b.clock ≡ told a.clock s.deed.readings → Tells a.notes b.notes s.deed.turns → Advances a.access b.access s.deed.turns s.deed.made s.deed.snapshots s.deed.ticks
    → Serves a.access.frame a.access.by b.access.seen x y.subscriber s.event s.deed → IsDue x y s.event
    → Works a b x y (s ∷ [])
works-one a b x y s before after clock notes access serves due = record {
  clock = clock ∙ rw (append-nil s.deed.readings) refl;
  notes = rw (append-nil s.deed.turns) notes;
  access = rw (append-nil s.deed.turns, append-nil s.deed.made, alone s.deed.snapshots, alone s.deed.ticks) access;
  served = (y, record { served = serves; lengths = within; due = due }, refl);
}
  where
    alone : (n : ℕ) → 0 + n ≡ n
    alone n = omega arith

    within : AreLengths x.known y.known s.deed.turns
    within = rw (before, after) access.lengths

-- an offset after n bytes more is reported as the one before them was
pub told_after : (p place n : ℕ) → p ≡ told_place place → told_place (p + n) ≡ told_place (place + n)
told_after p place n e = omega arith

-- the link after bytes were sent, and nothing was read
sent_link : (l : LinkView) (steps : List Step) → record l { taken = told l.taken (flat_map (λ part. part) (parts steps)) } ≡ moved l [] (sent_in steps) 0
sent_link l steps = rw (sent_is steps, told-nil l.given) refl

-- what was held was heard, and served
pub heard_step : (limits : Limits) (place : ℕ) (a b : World) (x y : State) (r s : ReaderView) (left : ℕ) (event : Event) (result : Option End)
    → r.framer.limits ≡ limits → r.framer.place ≡ told_place place → 0 < left
    → s ≡ heard_by r
    → Hears limits r.framer.greeted place r.framer.held (event ∷ []) true
    → idles_heard (event ∷ []) ≡ 0
    → Performs (event ∷ []) a b x y result
    → Goes limits place a b x y r s left left result
heard_step limits place a b x y r s left event None same at some is hears none p = (
  record {
    steps = p.steps;
    heard = r.framer.held;
    given = [];
    idled = 0;
    link = p.link ∙ sent_link a.link p.steps;
    works = subst (λ z. Works a b x z p.steps) (p.goes_on refl) p.works;
    bytes = append-nil (unheard r) ∙ ap (λ (v : ReaderView). r.framer.held ++ unheard v) (sym is);
    hears = subst (λ (v : ReaderView). Hears limits r.framer.greeted place r.framer.held (events p.steps) v.framer.greeted) (sym is)
        (hears-heard limits r.framer.greeted true place r.framer.held (events p.steps) (rw p.events hears));
    limits_same = ap (λ (v : ReaderView). v.framer.limits) is ∙ same;
    placed = ap (λ (v : ReaderView). v.framer.place) is ∙ told_after r.framer.place place (length r.framer.held) at;
    counted = idles-heard (events p.steps) ∙ ap idles_heard p.events ∙ none;
    idles = omega arith;
    opened = inl (refl, refl);
  },
  some,
)
heard_step limits place a b x y r s left event (Some end) same at some is hears none p =
    let f = p.link in
    subst (λ e. Converses limits place a b x r left e) (sym f.0) (record {
      after = p.after;
      input = tt;
      steps = p.steps;
      heard = r.framer.held;
      rest = r.pending;
      given = [];
      written = f.1;
      idled = 0;
      greeted = true;
      link = f.3 ∙ rw (told-nil a.link.given) refl;
      works = p.works;
      bytes = append-nil (unheard r);
      hears = hears-heard limits r.framer.greeted true place r.framer.held (events p.steps) (rw p.events hears);
      rests = inl refl;
      sent = f.2;
      looked = tt;
      counted = idles-heard (events p.steps) ∙ ap idles_heard p.events ∙ none;
      idles = omega (arith, some);
      opened = inl (refl, refl, refl);
    })

-- what was held wasn't heard, since a write of publications before it failed
pub unheard_step : (limits : Limits) (place : ℕ) (a b : World) (x y : State) (r : ReaderView) (left : ℕ) (end : End)
    → 0 < left → r.framer.greeted ≡ true → end ≡ e.WriteFault → Performs [] a b x y (Some end) → Converses limits place a b x r left end
unheard_step limits place a b x y r left end some greets is p =
    let f = p.link in
    subst (λ e. Converses limits place a b x r left e) (sym f.0) (record {
      after = p.after;
      input = tt;
      steps = p.steps;
      heard = [];
      rest = unheard r;
      given = [];
      written = f.1;
      idled = 0;
      greeted = r.framer.greeted;
      link = f.3 ∙ rw (told-nil a.link.given) refl;
      works = p.works;
      bytes = append-nil (unheard r);
      hears = hears-heard limits r.framer.greeted r.framer.greeted place [] (events p.steps) (rw p.events (refl, refl));
      rests = inl greets;
      sent = f.2;
      looked = tt;
      counted = idles-heard (events p.steps) ∙ ap idles_heard p.events;
      idles = omega (arith, some);
      opened = inl (refl, refl, greets);
    })

-- a message that is held was served, or a write of publications before it failed
pub served_step : (limits : Limits) (place : ℕ) (a b : World) (x y : State) (r s : ReaderView) (left : ℕ) (event : Event) (result : Option End)
    → r.framer.limits ≡ limits → r.framer.place ≡ told_place place → 0 < left
    → s ≡ heard_by r → r.framer.greeted ≡ true
    → Hears limits r.framer.greeted place r.framer.held (event ∷ []) true
    → idles_heard (event ∷ []) ≡ 0
    → ServesHeard event a b x y result
    → Goes limits place a b x y r s left left result
served_step limits place a b x y r s left event result same at some is greets hears none (inl p) = heard_step limits place a b x y r s left event result same at some is hears none p
served_step limits place a b x y r s left event None same at some is greets hears none (inr p) = absurd (let h = p.0 in cc)
served_step limits place a b x y r s left event (Some end) same at some is greets hears none (inr p) =
    unheard_step limits place a b x y r left end some greets (let h = p.0 in cc) p.1

opened_by : (l : LinkView) (given : List ℕ) → (given ≡ []) ⊎ (l.ended ≡ false) → ((given ≡ []) × (◌≡◌ {A = ℕ} 0 0)) ⊎ (l.ended ≡ false)
opened_by l given (inl none) = inl (none, refl)
opened_by l given (inr still) = inr still

-- more was read or taken, and nothing heard
pub more_step : (limits : Limits) (place : ℕ) (l l' : LinkView) (k : Option (List ℤ)) (n : Option (List Turn)) (a : AccessView) (x : State) (r s : ReaderView) (left : ℕ) → r.framer.limits ≡ limits → r.framer.place ≡ told_place place → 0 < left → Gathers l l' r s → Runs limits place (world l k n a) (world l' k n a) x x r s left left × (0 < left)
more_step limits place l l' k n a x r s left same at some g =
    let z : place ≡ place + 0 = omega arith in (
      record {
        steps = [];
        heard = [];
        given = g.given;
        idled = 0;
        link = g.link;
        works = works-none l l' k n a x;
        bytes = g.bytes;
        hears = (refl, g.greeted);
        limits_same = g.limits ∙ same;
        placed = g.place ∙ at ∙ ap told_place z;
        counted = refl;
        idles = omega arith;
        opened = opened_by l g.given g.opened;
      },
      some,
    )

-- a read timeout hears no byte
hears_idle : (limits : Limits) (g h : Bool) (place : ℕ) → h ≡ g → Hears limits g place [] (idled ∷ []) h
hears_idle limits true h place e = (refl, e)
hears_idle limits false h place e = (refl, e)

pub needed_by : (limits : Limits) (r : ReaderView) → r.framer.limits ≡ limits → IsNeeded r.framer.limits r.framer.greeted r.framer.held → IsNeeded limits r.framer.greeted r.framer.held
needed_by limits r same needed = subst (λ m. IsNeeded m r.framer.greeted r.framer.held) same needed

-- all bytes that were given are held
pub all_held : (r : ReaderView) → r.pending ≡ [] → unheard r ++ [] ≡ r.framer.held
all_held r none = append-nil (unheard r) ∙ ap (λ l. r.framer.held ++ l) none ∙ append-nil r.framer.held

-- the link after a read timed out, and bytes were sent
idle_link : (l m l' : LinkView) (written : List ℕ) → m ≡ record l { idles = counted l.idles 1 } → l' ≡ record m { taken = told m.taken written } → l' ≡ moved l [] written 1
idle_link l m l' written timed sent = sent ∙ ap (λ (v : LinkView). record v { taken = told v.taken written }) timed ∙ rw (told-nil l.given) refl

-- a read timed out, and that was served
idle_step : (limits : Limits) (place : ℕ) (l m l' : LinkView) (k k' : Option (List ℤ)) (n n' : Option (List Turn)) (a a' : AccessView) (x y : State) (r s : ReaderView) (left left' : ℕ)
    → r.framer.limits ≡ limits → r.framer.place ≡ told_place place → m ≡ record l { idles = counted l.idles 1 } → l.ended ≡ false → Waits r s
    → Performs (idled ∷ []) (world m k n a) (world l' k' n' a') x y None → left ≡ left' + 1 → Runs limits place (world l k n a) (world l' k' n' a') x y r s left left'
idle_step limits place l m l' k k' n n' a a' x y r s left left' same at timed still w p once =
    let z : place ≡ place + 0 = omega arith in
    record {
      steps = p.steps;
      heard = [];
      given = [];
      idled = 1;
      link = idle_link l m l' (sent_in p.steps) timed (p.link ∙ rw (sent_is p.steps) refl);
      works = subst (λ z. Works (world l k n a) (world l' k' n' a') x z p.steps) (p.goes_on refl) (works_by p.works);
      bytes = append-nil (unheard r) ∙ ap unheard (sym w.same);
      hears = hears-heard limits r.framer.greeted s.framer.greeted place [] (events p.steps)
          (rw p.events (hears_idle limits r.framer.greeted s.framer.greeted place (ap (λ (v : ReaderView). v.framer.greeted) w.same)));
      limits_same = ap (λ (v : ReaderView). v.framer.limits) w.same ∙ same;
      placed = ap (λ (v : ReaderView). v.framer.place) w.same ∙ at ∙ ap told_place z;
      counted = idles-heard (events p.steps) ∙ ap idles_heard p.events;
      idles = once;
      opened = inr still;
    }
  where
    works_by : Works (world m k n a) (world l' k' n' a') x p.after p.steps → Works (world l k n a) (world l' k' n' a') x p.after p.steps
    works_by h = record { clock = h.clock; notes = h.notes; access = h.access; served = h.served }

-- the last read timeout
idle_end : (limits : Limits) (place : ℕ) (l m l' : LinkView) (k k' : Option (List ℤ)) (n n' : Option (List Turn)) (a a' : AccessView) (x y : State) (r s : ReaderView) (left left' : ℕ)
    → y.due ≡ false → r.framer.limits ≡ limits → m ≡ record l { idles = counted l.idles 1 } → l.ended ≡ false → Waits r s
    → Performs (idled ∷ []) (world m k n a) (world l' k' n' a') x y None → left ≡ left' + 1 → left' ≡ 0 → Converses limits place (world l k n a) (world l' k' n' a') x r left e.Idle
idle_end limits place l m l' k k' n n' a a' x y r s left left' none same timed still w p once last =
    record {
      after = p.after;
      input = tt;
      steps = p.steps;
      heard = [];
      rest = r.framer.held;
      given = [];
      written = flat_map (λ part. part) (parts p.steps);
      idled = 1;
      greeted = r.framer.greeted;
      link = idle_link l m l' (flat_map (λ part. part) (parts p.steps)) timed p.link;
      works = let h = p.works in record { clock = h.clock; notes = h.notes; access = h.access; served = h.served };
      bytes = all_held r w.taken;
      hears = hears-heard limits r.framer.greeted r.framer.greeted place [] (events p.steps) (rw p.events (hears_idle limits r.framer.greeted r.framer.greeted place refl));
      rests = needed_by limits r same w.needed;
      sent = refl;
      looked = rw (p.goes_on refl) none;
      counted = idles-heard (events p.steps) ∙ ap idles_heard p.events;
      idles = omega (arith, once, last);
      opened = inr still;
    }

-- a write failed after a read timeout
idle_fault : (limits : Limits) (place : ℕ) (l m l' : LinkView) (k k' : Option (List ℤ)) (n n' : Option (List Turn)) (a a' : AccessView) (x y : State) (r s : ReaderView) (left left' : ℕ) (end : End)
    → r.framer.limits ≡ limits → m ≡ record l { idles = counted l.idles 1 } → l.ended ≡ false → Waits r s
    → Performs (idled ∷ []) (world m k n a) (world l' k' n' a') x y (Some end) → left ≡ left' + 1 → Converses limits place (world l k n a) (world l' k' n' a') x r left end
idle_fault limits place l m l' k k' n n' a a' x y r s left left' end same timed still w p once =
    let f = p.link in
    subst (λ e. Converses limits place (world l k n a) (world l' k' n' a') x r left e) (sym f.0) (record {
      after = p.after;
      input = tt;
      steps = p.steps;
      heard = [];
      rest = r.framer.held;
      given = [];
      written = f.1;
      idled = 1;
      greeted = r.framer.greeted;
      link = f.3 ∙ ap (λ (v : LinkView). record v { taken = told v.taken f.1; write_faults = counted v.write_faults 1 }) timed ∙ rw (told-nil l.given) refl;
      works = let h = p.works in record { clock = h.clock; notes = h.notes; access = h.access; served = h.served };
      bytes = all_held r w.taken;
      hears = hears-heard limits r.framer.greeted r.framer.greeted place [] (events p.steps) (rw p.events (hears_idle limits r.framer.greeted r.framer.greeted place refl));
      rests = inr (needed_by limits r same w.needed);
      sent = f.2;
      looked = tt;
      counted = idles-heard (events p.steps) ∙ ap idles_heard p.events;
      idles = omega (arith, once);
      opened = inr still;
    })

-- a read timeout was served, perhaps the last
pub idle_goes : (limits : Limits) (place : ℕ) (l m l' : LinkView) (k k' : Option (List ℤ)) (n n' : Option (List Turn)) (a a' : AccessView) (x y : State) (r s : ReaderView) (left left' : ℕ) (result : Option End)
    → y.due ≡ false → r.framer.limits ≡ limits → r.framer.place ≡ told_place place → m ≡ record l { idles = counted l.idles 1 } → l.ended ≡ false → Waits r s
    → TimesOut (world m k n a) (world l' k' n' a') x y left' result → left ≡ left' + 1 → Goes limits place (world l k n a) (world l' k' n' a') x y r s left left' result
idle_goes limits place l m l' k k' n n' a a' x y r s left left' None none same at timed still w p once = (idle_step limits place l m l' k k' n n' a a' x y r s left left' same at timed still w p.0 once, p.1)
idle_goes limits place l m l' k k' n n' a a' x y r s left left' (Some end) none same at timed still w (inl p) once =
    subst (λ e. Converses limits place (world l k n a) (world l' k' n' a') x r left e) (sym p.0) (idle_end limits place l m l' k k' n n' a a' x y r s left left' none same timed still w p.2 once p.1)
idle_goes limits place l m l' k k' n n' a a' x y r s left left' (Some end) none same at timed still w (inr p) once = idle_fault limits place l m l' k k' n n' a a' x y r s left left' end same timed still w p once
