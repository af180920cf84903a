-- Ends of a session at which nothing is heard.
use Rattle.std.proofs.Common.{◌≡◌, ◌<◌, ◌+◌, ℕ, ℤ, Bool, true, false, if◌then◌else◌, List, [], ◌∷◌, ◌++◌, length, Option, refl, sym, ap, subst, ◌∙◌, arith, inl, inr}
use Rattle.std.proofs.lemmas.List.{append-nil, length-append}
use Rattle.std.specs.Prelude.{IsTrue, ◌↔◌}
use Rattle.outside_api.specs.Counts.{counted}
use Rattle.outside_api.specs.Link.{LinkView, HasGivenAll}
use Rattle.plant_core.specs.Access.{AccessView}
use Rattle.ipc_frame.specs.View.{told_place}
use Rattle.q_values.specs.declared.limits.Limits.{Limits}
use Rattle.q_values.specs.declared.turn.Turn.{Turn}
use Rattle.ipc_frame.proofs.RunLemmas.{too_long}
use Rattle.ipc_frame.proofs.UniqueLemmas.{front_stays}
use Rattle.ipc_frame.specs.Stream.{fault}
use Rattle.ipc_frame.specs.declared.bad.Bad.{Bad}
use Rattle.link_reader.specs.Arrival.{ReaderView, Waits, HoldsFault, unheard}
use Rattle.session.specs.Ended.{Converses, IsBad}
use Rattle.session.specs.Run.{world}
use Rattle.session.specs.Served.{idled}
use Rattle.session.specs.State.{State}
use Rattle.session.specs.declared.end.End.TheVariants as e
use Rattle.session.proofs.StepLemmas.{works-none, told_after, needed_by, all_held}
use Rattle.session.proofs.ToldLemmas.{told-nil, moved-none}

bad_rests : (limits : Limits) (greeted : Bool) (place p : ℕ) (held pending : List ℕ) (code : Bad) (at : ℕ) → p ≡ told_place place → HoldsFault (record { limits = limits; greeted = greeted; place = p; held = held }) code at → IsBad limits greeted (place + 0) (held ++ pending) code at
bad_rests limits true place p held pending code at e h =
    (h.0, front_stays limits held pending (fault code h.0) tt h.1, h.2 ∙ told_after p place h.0 e ∙ let z : place + h.0 ≡ place + 0 + h.0 = omega arith in ap told_place z)
bad_rests limits false place p held pending code at e h =
    let size = h.0.long in
    (too_long limits held pending h.0, omega (arith, length-append held pending, size), h.1, h.2 ∙ told_after p place limits.greeting e ∙ let z : place + limits.greeting ≡ place + 0 + limits.greeting = omega arith in ap told_place z)

pub bad_end : (limits : Limits) (place : ℕ) (l l' : LinkView) (k : Option (List ℤ)) (n : Option (List Turn)) (a : AccessView) (x : State) (r : ReaderView) (left : ℕ) (code : Bad) (at : ℕ) → x.due ≡ false → r.framer.limits ≡ limits → r.framer.place ≡ told_place place → 0 < left → l' ≡ l → HoldsFault r.framer code at → Converses limits place (world l k n a) (world l' k n a) x r left (e.BadMessage code at)
bad_end limits place l l' k n a x r left code at none same told_at some moved_on held = record {
  after = x;
  input = tt;
  steps = [];
  heard = [];
  rest = unheard r;
  given = [];
  written = [];
  idled = 0;
  greeted = r.framer.greeted;
  link = moved_on ∙ sym (moved-none l);
  works = works-none l l' k n a x;
  bytes = append-nil (unheard r);
  hears = (refl, refl);
  rests = subst (λ m. IsBad m r.framer.greeted (place + 0) (unheard r) code at) same (bad_rests r.framer.limits r.framer.greeted place r.framer.place r.framer.held r.pending code at told_at held);
  sent = refl;
  looked = none;
  counted = refl;
  idles = some;
  opened = inl (refl, refl, tt);
}

pub failed_end : (limits : Limits) (place : ℕ) (l l' : LinkView) (k : Option (List ℤ)) (n : Option (List Turn)) (a : AccessView) (x : State) (r s : ReaderView) (left : ℕ) → x.due ≡ false → r.framer.limits ≡ limits → 0 < left → l' ≡ record l { read_faults = counted l.read_faults 1 } → l.ended ≡ false → Waits r s → Converses limits place (world l k n a) (world l' k n a) x r left e.ReadFault
failed_end limits place l l' k n a x r s left none same some moved_on still w = record {
  after = x;
  input = tt;
  steps = [];
  heard = [];
  rest = r.framer.held;
  given = [];
  written = [];
  idled = 0;
  greeted = r.framer.greeted;
  link = moved_on ∙ rw (told-nil l.given, told-nil l.taken) refl;
  works = works-none l l' k n a x;
  bytes = all_held r w.taken;
  hears = (refl, refl);
  rests = needed_by limits r same w.needed;
  sent = refl;
  looked = none;
  counted = refl;
  idles = some;
  opened = inr still;
}

-- bytes that are held, where some are
some_held : (held : List ℕ) → (held ≡ [] → ⊥) → 0 < length held
some_held [] h = absurd (h refl)
some_held (x ∷ held) h = omega arith

-- a link that has given all of its input, after it has ended
given_all : (l l' : LinkView) → HasGivenAll l → l' ≡ record l { ended = true } → HasGivenAll l'
given_all l l' all ends = λ given whole g w. all given whole (ap (λ (v : LinkView). v.given) (sym ends) ∙ g) (ap (λ (v : LinkView). v.input) (sym ends) ∙ w)

pub input_end : (limits : Limits) (place : ℕ) (l l' : LinkView) (k : Option (List ℤ)) (n : Option (List Turn)) (a : AccessView) (x : State) (r s : ReaderView) (left : ℕ) (between : Bool) → x.due ≡ false → r.framer.limits ≡ limits → 0 < left → HasGivenAll l → l' ≡ record l { ended = true } → IsTrue between ↔ (r.framer.held ≡ []) → Waits r s → Converses limits place (world l k n a) (world l' k n a) x r left (if between then e.Closed else e.Truncated)
input_end limits place l l' k n a x r s left true none same some all moved_on iff w = record {
  after = x;
  input = given_all l l' all moved_on;
  steps = [];
  heard = [];
  rest = r.framer.held;
  given = [];
  written = [];
  idled = 0;
  greeted = r.framer.greeted;
  link = moved_on ∙ rw (told-nil l.given, told-nil l.taken) refl;
  works = works-none l l' k n a x;
  bytes = all_held r w.taken;
  hears = (refl, refl);
  rests = iff.0 refl;
  sent = refl;
  looked = none;
  counted = refl;
  idles = some;
  opened = inr tt;
}
input_end limits place l l' k n a x r s left false none same some all moved_on iff w = record {
  after = x;
  input = given_all l l' all moved_on;
  steps = [];
  heard = [];
  rest = r.framer.held;
  given = [];
  written = [];
  idled = 0;
  greeted = r.framer.greeted;
  link = moved_on ∙ rw (told-nil l.given, told-nil l.taken) refl;
  works = works-none l l' k n a x;
  bytes = all_held r w.taken;
  hears = (refl, refl);
  rests = (needed_by limits r same w.needed, some_held r.framer.held (λ empty. absurd (let h = iff.1 empty in cc)));
  sent = refl;
  looked = none;
  counted = refl;
  idles = some;
  opened = inr tt;
}
