-- Consecutive steps, up to an end.
use Rattle.std.proofs.Common.{◌≡◌, ◌<◌, ◌+◌, ◌⊎◌, ℕ, ℤ, false, List, [], ◌∷◌, ◌++◌, length, take, Option, refl, sym, ap, subst, ◌∙◌, arith, append_assoc, inl, inr}
use Rattle.std.specs.List.{flat_map}
use Rattle.std.proofs.lemmas.List.{length-append, map-append, append-nil}
use Rattle.std.proofs.lemmas.List.Concat.{flat_map-append}
use Rattle.ipc_frame.specs.View.{told_place}
use Rattle.link_reader.specs.Moved.{moved}
use Rattle.outside_api.specs.Link.{LinkView}
use Rattle.q_values.specs.declared.limits.Limits.{Limits}
use Rattle.link_reader.specs.Arrival.{ReaderView, unheard}
use Rattle.session.specs.Ended.{Runs, Converses, Rests, IsSent, SpendsIdles, WasOpenAt, NeedsNoRead, ended_link}
use Rattle.session.specs.Run.{World, world, sent_in}
use Rattle.session.specs.State.{State}
use Rattle.session.specs.declared.end.End.{End}
use Rattle.session.specs.declared.end.End.TheVariants as e
use Rattle.session.proofs.JoinLemmas.{hears-append, idles-append, works-append}
use Rattle.session.proofs.ChainLemmas.{fits-chain}
use Rattle.session.proofs.PartLemmas.{events, parts, sent_is}
use Rattle.session.specs.Owing.{FitsPlant}
use Rattle.plant_memory.specs.Frame.{Frame}
use Rattle.plant_core.specs.Access.{AccessView}
use Rattle.q_values.specs.declared.turn.Turn.{Turn}
use Rattle.session.proofs.StepLemmas.{works-none}
use Rattle.session.proofs.ToldLemmas.{moved-moved, moved-none}

-- bytes that came in two parts
bytes-append : (r x h s y g t : List ℕ) → r ++ x ≡ h ++ s → s ++ y ≡ g ++ t → r ++ (x ++ y) ≡ (h ++ g) ++ t
bytes-append r x h s y g t p q =
    sym (append_assoc r x y) ∙ ap (λ l. l ++ y) p ∙ append_assoc h s y ∙ ap (λ l. h ++ l) q ∙ sym (append_assoc h g t)

link_stays : (a b : LinkView) (given sent : List ℕ) (idled : ℕ) → b ≡ moved a given sent idled → b.ended ≡ false → a.ended ≡ false
link_stays a b given sent idled is still = sym (ap (λ (l : LinkView). l.ended) is) ∙ still

pub runs-append : (limits : Limits) (place : ℕ) (a b c : World) (u v w : State) (r s t : ReaderView) (x y z : ℕ) (p : Runs limits place a b u v r s x y) → Runs limits (place + length p.heard) b c v w s t y z → Runs limits place a c u w r t x z
runs-append limits place a b c u v w r s t x y z p q =
    let first = p.idles in
    let second = q.idles in
    let far : place + length p.heard + length q.heard ≡ place + length (p.heard ++ q.heard) = omega (arith, length-append p.heard q.heard) in
    record {
      steps = p.steps ++ q.steps;
      heard = p.heard ++ q.heard;
      given = p.given ++ q.given;
      idled = p.idled + q.idled;
      link = q.link ∙ rw (p.link, moved-moved, flat_map-append) refl;
      works = works-append a b c u v w p.steps q.steps p.works q.works;
      bytes = bytes-append (unheard r) p.given p.heard (unheard s) q.given q.heard (unheard t) p.bytes q.bytes;
      hears = rw map-append (hears-append limits r.framer.greeted s.framer.greeted t.framer.greeted place p.heard q.heard (events p.steps) (events q.steps) p.hears q.hears);
      limits_same = q.limits_same;
      placed = q.placed ∙ ap told_place far;
      counted = rw (map-append, idles-append, p.counted, q.counted) refl;
      idles = omega arith;
      opened = opened-append p.opened q.opened;
    }
  where
    opened-append : ((p.given ≡ []) × (p.idled ≡ 0)) ⊎ (a.link.ended ≡ false) → ((q.given ≡ []) × (q.idled ≡ 0)) ⊎ (b.link.ended ≡ false) → ((p.given ++ q.given ≡ []) × (p.idled + q.idled ≡ 0)) ⊎ (a.link.ended ≡ false)
    opened-append (inl one) (inl two) = inl (rw (one.0, two.0) refl, omega (arith, one.1, two.1))
    opened-append (inl one) (inr still) = inr (link_stays a.link b.link p.given (sent_in p.steps) p.idled p.link still)
    opened-append (inr still) other = inr still

-- an end leaves the link as it was moved before
ended-moved : (end : End) (l : LinkView) (g t : List ℕ) (i : ℕ) (g' t' : List ℕ) (i' : ℕ) → ended_link end (moved (moved l g t i) g' t' i') ≡ ended_link end (moved l (g ++ g') (t ++ t') (i + i'))
ended-moved end l g t i g' t' i' = ap (ended_link end) (moved-moved l g t i g' t' i')

-- more parts before those that were sent
pub sent-append : (end : End) (front rest : List (List ℕ)) (written : List ℕ) → IsSent end rest written → IsSent end (front ++ rest) (flat_map (λ part. part) front ++ written)
sent-append e.WriteFault front rest written h = record {
  whole = front ++ h.whole;
  last = h.last;
  count = h.count;
  made = ap (λ l. front ++ l) h.made ∙ sym (append_assoc front h.whole (h.last ∷ []));
  within = h.within;
  taken = ap (λ l. flat_map (λ part. part) front ++ l) h.taken ∙ sym (append_assoc (flat_map (λ part. part) front) (flat_map (λ part. part) h.whole) (take h.count h.last)) ∙ ap (λ l. l ++ take h.count h.last) (sym (flat_map-append (λ part. part) front h.whole));
}
sent-append e.Closed front rest written h = ap (λ l. flat_map (λ part. part) front ++ l) h ∙ sym (flat_map-append (λ part. part) front rest)
sent-append e.Truncated front rest written h = ap (λ l. flat_map (λ part. part) front ++ l) h ∙ sym (flat_map-append (λ part. part) front rest)
sent-append (e.BadMessage code at) front rest written h = ap (λ l. flat_map (λ part. part) front ++ l) h ∙ sym (flat_map-append (λ part. part) front rest)
sent-append e.ReadFault front rest written h = ap (λ l. flat_map (λ part. part) front ++ l) h ∙ sym (flat_map-append (λ part. part) front rest)
sent-append e.Idle front rest written h = ap (λ l. flat_map (λ part. part) front ++ l) h ∙ sym (flat_map-append (λ part. part) front rest)
sent-append e.NoMemory front rest written h = ap (λ l. flat_map (λ part. part) front ++ l) h ∙ sym (flat_map-append (λ part. part) front rest)

spends-append : (end : End) (x y i j : ℕ) → x ≡ y + i → SpendsIdles end y j → SpendsIdles end x (i + j)
spends-append e.Closed x y i j e h = omega (arith, e, h)
spends-append e.Truncated x y i j e h = omega (arith, e, h)
spends-append (e.BadMessage code at) x y i j e h = omega (arith, e, h)
spends-append e.ReadFault x y i j e h = omega (arith, e, h)
spends-append e.WriteFault x y i j e h = omega (arith, e, h)
spends-append e.Idle x y i j e h = omega (arith, e, h)
spends-append e.NoMemory x y i j e h = omega (arith, e, h)

was_open-before : (end : End) (a b : LinkView) → (b.ended ≡ false → a.ended ≡ false) → WasOpenAt end b → WasOpenAt end a
was_open-before e.Closed a b f h = tt
was_open-before e.Truncated a b f h = tt
was_open-before (e.BadMessage code at) a b f h = f h
was_open-before e.ReadFault a b f h = f h
was_open-before e.WriteFault a b f h = f h
was_open-before e.Idle a b f h = f h
was_open-before e.NoMemory a b f h = tt

open_at : (end : End) (a : LinkView) → a.ended ≡ false → WasOpenAt end a
open_at e.Closed a h = tt
open_at e.Truncated a h = tt
open_at (e.BadMessage code at) a h = h
open_at e.ReadFault a h = h
open_at e.WriteFault a h = h
open_at e.Idle a h = h
open_at e.NoMemory a h = tt

-- steps and then an end
pub runs-converses : (limits : Limits) (place : ℕ) (a b c : World) (u v : State) (r s : ReaderView) (x y : ℕ) (end : End) (p : Runs limits place a b u v r s x y) → Converses limits (place + length p.heard) b c v s y end → Converses limits place a c u r x end
runs-converses limits place a b c u v r s x y end p q =
    let far : place + length p.heard + length q.heard ≡ place + length (p.heard ++ q.heard) = omega (arith, length-append p.heard q.heard) in
    record {
      after = q.after;
      steps = p.steps ++ q.steps;
      heard = p.heard ++ q.heard;
      rest = q.rest;
      given = p.given ++ q.given;
      written = sent_in p.steps ++ q.written;
      idled = p.idled + q.idled;
      greeted = q.greeted;
      input = q.input;
      link = q.link ∙ ap (λ l. ended_link end (moved l q.given q.written q.idled)) p.link ∙ ended-moved end a.link p.given (sent_in p.steps) p.idled q.given q.written q.idled;
      works = works-append a b c u v q.after p.steps q.steps p.works q.works;
      bytes = bytes-append (unheard r) p.given p.heard (unheard s) q.given q.heard q.rest p.bytes q.bytes;
      hears = rw map-append (hears-append limits r.framer.greeted s.framer.greeted q.greeted place p.heard q.heard (events p.steps) (events q.steps) p.hears q.hears);
      rests = subst (λ n. Rests end limits q.greeted n q.rest) far q.rests;
      sent = rw map-append (subst (λ l. IsSent end (parts p.steps ++ parts q.steps) (l ++ q.written)) (sent_is p.steps) (sent-append end (parts p.steps) (parts q.steps) q.written q.sent));
      looked = q.looked;
      counted = rw (map-append, idles-append, p.counted, q.counted) refl;
      idles = spends-append end x y p.idled q.idled p.idles q.idles;
      opened = opened-append p.opened q.opened;
    }
  where
    opened-append : ((p.given ≡ []) × (p.idled ≡ 0)) ⊎ (a.link.ended ≡ false) → ((q.given ≡ []) × (q.idled ≡ 0) × NeedsNoRead end q.greeted) ⊎ WasOpenAt end b.link → ((p.given ++ q.given ≡ []) × (p.idled + q.idled ≡ 0) × NeedsNoRead end q.greeted) ⊎ WasOpenAt end a.link
    opened-append (inl one) (inl two) = inl (rw (one.0, two.0) refl, omega (arith, one.1, two.1), two.2)
    opened-append (inl one) (inr still) = inr (was_open-before end a.link b.link (link_stays a.link b.link p.given (sent_in p.steps) p.idled p.link) still)
    opened-append (inr still) other = inr (open_at end a.link still)

-- nothing was done yet
pub runs_none : (limits : Limits) (place : ℕ) (l : LinkView) (k : Option (List ℤ)) (n : Option (List Turn)) (a : AccessView) (u : State) (r : ReaderView) (left : ℕ) → r.framer.limits ≡ limits → r.framer.place ≡ told_place place → Runs limits place (world l k n a) (world l k n a) u u r r left left
runs_none limits place l k n a u r left same at =
    let z : place ≡ place + 0 = omega arith in
    record {
      steps = [];
      heard = [];
      given = [];
      idled = 0;
      link = sym (moved-none l);
      works = works-none l l k n a u;
      bytes = append-nil (unheard r);
      hears = (refl, refl);
      limits_same = same;
      placed = at ∙ ap told_place z;
      counted = refl;
      idles = omega arith;
      opened = inl (refl, refl);
    }

-- the limits of the access stay
pub same_frame : (limits : Limits) (place : ℕ) (a b : World) (u v : State) (r s : ReaderView) (x y : ℕ) → Runs limits place a b u v r s x y → a.access.frame.limits ≡ limits → b.access.frame.limits ≡ limits
same_frame limits place a b u v r s x y p same = ap (λ (v : AccessView). v.frame.limits) p.works.access.after ∙ same

-- a subscriber fits the plant after steps as before them
pub fits_on : (limits : Limits) (place : ℕ) (a b : World) (u v : State) (r s : ReaderView) (x y : ℕ) → Runs limits place a b u v r s x y → FitsPlant a.access.frame u.known u.subscriber → FitsPlant b.access.frame v.known v.subscriber
fits_on limits place a b u v r s x y p fits =
    subst (λ (f : Frame). FitsPlant f v.known v.subscriber) (sym (ap (λ (w : AccessView). w.frame) p.works.access.after)) (fits-chain a.access.frame a.access.by b.access.seen u v p.steps fits p.works.served)

-- steps, and what comes next
pub goes_on : (limits : Limits) (place : ℕ) (a b c : World) (u v w : State) (r s t : ReaderView) (x y z : ℕ) → Runs limits place a b u v r s x y → ((q : ℕ) → s.framer.place ≡ told_place q → Runs limits q b c v w s t y z × (0 < z)) → Runs limits place a c u w r t x z × (0 < z)
goes_on limits place a b c u v w r s t x y z p next =
    let more = next (place + length p.heard) p.placed in
    (runs-append limits place a b c u v w r s t x y z p more.0, more.1)

pub goes_to_end : (limits : Limits) (place : ℕ) (a b c : World) (u v : State) (r s : ReaderView) (x y : ℕ) (end : End) → Runs limits place a b u v r s x y → ((q : ℕ) → s.framer.place ≡ told_place q → Converses limits q b c v s y end) → Converses limits place a c u r x end
goes_to_end limits place a b c u v r s x y end p next = runs-converses limits place a b c u v r s x y end p (next (place + length p.heard) p.placed)
