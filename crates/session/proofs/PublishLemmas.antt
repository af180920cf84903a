-- What a subscriber is told.
use Rattle.std.proofs.Common.{◌≡◌, ◌<◌, ◌≤◌, ℕ, ℤ, false, List, [], ◌∷◌, ◌++◌, length, refl, sym, ap, subst, ◌∙◌, arith, inl, inr, Option, Some, None}
use Rattle.std.specs.Prelude.{nat_lt}
use Rattle.std.proofs.lemmas.Bool.{le-ltb}
use Rattle.std.proofs.lemmas.List.{append-nil, length-append}
use Rattle.day_rows.specs.declared.entry.Entry.{Entry}
use Rattle.outside_api.specs.Link.{LinkView}
use Rattle.outside_api.specs.Told.{Tells}
use Rattle.plant_core.specs.Access.{AccessView, Sees}
use Rattle.q_values.specs.declared.turn.Turn.{Turn}
use Rattle.q_values.specs.declared.turn.Turn.TheVariants as t
use Rattle.session.specs.Acting.{Finishes, Performs}
use Rattle.session.specs.Devices.{OnlyAsks, world_of, state_of, served_of}
use Rattle.session.specs.Owing.{FitsPlant, OwesMessages, OwesTooMuch, told_up_to, sent_up_to}
use Rattle.session.specs.Run.{Advances, advanced}
use Rattle.session.specs.Served.{published, Deed}
use Rattle.session.specs.State.{State, is_owed}
use Rattle.session.specs.Subscribing.{Publishes, IsPaid}
use Rattle.session.specs.declared.end.End.{End}
use Rattle.session.specs.declared.session.Session.{Session}
use Rattle.session.specs.declared.subscriber.Subscriber.{Subscriber}
use Rattle.session.proofs.PerformLemmas.{performs-one, settles}
use Rattle.session.proofs.ServedLemmas.{Idles, advances_idle, tells_short}
use Rattle.session.proofs.StepLemmas.{works-none}
use Rattle.session.proofs.ToldLemmas.{told-nil}

-- what looking at the chronicle leaves
pub sees_after : (a b : AccessView) (l : Sees a b) → b ≡ advanced a l.others [] 0 0
sees_after a b l = l.after ∙ ap (λ m. record a { seen = a.seen ++ l.others; mine = m }) (sym (append-nil a.mine))

pub sees_seen : (a b : AccessView) (l : Sees a b) → b.seen ≡ a.seen ++ l.others
sees_seen a b l = ap (λ (v : AccessView). v.seen) l.after

-- a turn that reports the whole chronicle
pub whole_turn : (a b : AccessView) (l : Sees a b) (turn : Turn) (to : ℕ) → to ≡ length b.seen → Idles (length (a.seen ++ l.others)) (turn ∷ []) → Advances a b (turn ∷ []) [] 0 0
whole_turn a b l turn to is idles = advances_idle a b l.others (turn ∷ []) 0 0 l.saw (sees_after a b l) idles

pub reports_all : (a b : AccessView) (l : Sees a b) (to : ℕ) → to ≡ length b.seen → length (a.seen ++ l.others) ≡ to
reports_all a b l to is = ap length (sym (sees_seen a b l)) ∙ sym is

no_less : (n : ℕ) → nat_lt n n ≡ false
no_less n = le-ltb n n (omega arith)

-- a list with nothing more at its end
none_more : (xs ys : List Entry) → length (xs ++ ys) ≤ length xs → ys ≡ []
none_more xs [] le = refl
none_more xs (y ∷ ys) le = absurd (omega (arith, le, length-append xs (y ∷ ys)))

-- nothing is owed where there is no subscriber
pub publishes_none : {A L C G N : Type 0} (access : A → AccessView) (link : L → LinkView) (clock : C → Option (List ℤ)) (notes : N → Option (List Turn)) (s : Session A L C G N)
    → s.client.now.subscriber ≡ None
    → Performs [] (world_of access link clock notes s) (world_of access link clock notes s) (served_of access s) (state_of access s) None
publishes_none access link clock notes s none = record {
  after = served_of access s;
  steps = [];
  works = works-none _ _ _ _ (access s.access.now) (served_of access s);
  link = sym (ap (λ k. record (link s.link.now) { taken = k }) (told-nil (link s.link.now).taken));
  events = refl;
  goes_on = λ _. ap (λ d. record { known = length (access s.access.now).seen; subscriber = s.client.now.subscriber; due = d }) (ap (λ x. is_owed x (length (access s.access.now).seen)) none);
}

-- nothing is owed where all was told
pub publishes_nothing : {A L C G N : Type 0} (access : A → AccessView) (link : L → LinkView) (clock : C → Option (List ℤ)) (notes : N → Option (List Turn)) (s m : Session A L C G N) (of : Subscriber) (to : ℕ)
    → OnlyAsks s m → m.clock.now ≡ s.clock.now → Sees (access s.access.now) (access m.access.now)
    → s.client.now.subscriber ≡ Some of → FitsPlant (access s.access.now).frame (length (access s.access.now).seen) s.client.now.subscriber
    → to ≡ length (access m.access.now).seen → IsPaid s.client.now.subscriber to
    → Performs [] (world_of access link clock notes s) (world_of access link clock notes m) (served_of access s) (state_of access m) None
publishes_nothing access link clock notes s m of to asks still l some fits is paid =
    let a = access s.access.now in
    let b = access m.access.now in
    let told : of.cursor ≡ to = subst (λ x. IsPaid x to) some paid in
    let within : of.cursor ≤ length a.seen = (subst (λ x. FitsPlant a.frame (length a.seen) x) some fits).1 in
    let seen = sees_seen a b l in
    let nothing : l.others ≡ [] = none_more a.seen l.others (omega (arith, told, within, is, ap length seen)) in
    let same : b ≡ a = l.after ∙ ap (λ o. record a { seen = o }) (ap (λ o. a.seen ++ o) nothing ∙ append-nil a.seen) in
    let full : of.cursor ≡ length a.seen = told ∙ is ∙ ap (λ (v : AccessView). length v.seen) same in
    let due : is_owed s.client.now.subscriber (length a.seen) ≡ false = ap (λ x. is_owed x (length a.seen)) some ∙ ap (λ n. nat_lt n (length a.seen)) full ∙ no_less (length a.seen) in
    record {
      after = served_of access s;
      steps = [];
      works = rw (same, ap notes asks.recorder, ap clock still) (works-none (link s.link.now) (link m.link.now) (clock s.clock.now) (notes s.recorder.now) a (served_of access s));
      link = ap link asks.link ∙ sym (ap (λ k. record (link s.link.now) { taken = k }) (told-nil (link s.link.now).taken));
      events = refl;
      goes_on = λ _. (λ i. record { known = length (sym same i).seen; subscriber = (sym asks.unheard.subscriber) i; due = due i });
    }

-- what is owed was told, from whichever state
pub publishes_told : {A L C G N : Type 0} (access : A → AccessView) (link : L → LinkView) (clock : C → Option (List ℤ)) (notes : N → Option (List Turn)) (s m z : Session A L C G N) (x : State) (from to : ℕ) (bytes : List ℕ) (end : Option End)
    → OnlyAsks s m → m.clock.now ≡ s.clock.now → Sees (access s.access.now) (access m.access.now)
    → OwesMessages (access s.access.now).frame s.client.now.subscriber (access m.access.now).seen from to bytes
    → z.access.now ≡ m.access.now → z.clock.now ≡ m.clock.now → z.client.now.subscriber ≡ sent_up_to to end m.client.now.subscriber
    → Tells (notes m.recorder.now) (notes z.recorder.now) (t.Told from to ∷ [])
    → Finishes (link m.link.now) (link z.link.now) bytes end
    → x.known ≡ length (access s.access.now).seen → x.subscriber ≡ s.client.now.subscriber
    → Performs [] (world_of access link clock notes s) (world_of access link clock notes z) x (state_of access z) end
publishes_told access link clock notes s m z x from to bytes end asks still l owes same after moved noted sent known of_x =
    let a = access s.access.now in
    let b = access m.access.now in
    let of = owes.of in
    let size = reports_all a b l to owes.to_is in
    let moves : Option Subscriber = Some (record of { cursor = to }) in
    let cursor : end ≡ None → moves ≡ z.client.now.subscriber =
    λ none. sym (moved ∙ ap (λ e. sent_up_to to e m.client.now.subscriber) none ∙ ap (told_up_to to) (asks.unheard.subscriber ∙ owes.is)) in
    let y : State = record { known = length (access z.access.now).seen; subscriber = moves; due = false } in
    let deed : Deed = record { turns = t.Told from to ∷ []; sent = bytes; readings = []; made = []; snapshots = 0; ticks = 0 } in
    let serves : Publishes a.frame b.seen (Some of) moves deed = inl (record {
      count = to;
      front = b.seen;
      is_front = record { count = owes.to_is; more = []; whole = sym (append-nil b.seen) };
      more = subst (λ n. n < to) owes.from_is owes.more;
      after_it = refl;
      fit = owes.fit;
      noted = ap (λ n. t.Told n to ∷ []) owes.from_is;
      sent = owes.sent;
      still = record { unread = refl; unmade = refl; unasked = (refl, refl) };
    }) in
    settles (world_of access link clock notes s) (world_of access link clock notes z) x y (state_of access z) [] end
    (λ none. ap (λ o. record { known = length (access z.access.now).seen; subscriber = o; due = false }) (cursor none))
    (performs-one (world_of access link clock notes s) (world_of access link clock notes z) x y published [] deed end
    known refl
    (ap clock (after ∙ still) ∙ sym (told-nil (clock s.clock.now)))
    (subst (λ r. Tells (notes r) (notes z.recorder.now) (t.Told from to ∷ [])) asks.recorder noted)
    (subst (λ v. Advances a (access v) (t.Told from to ∷ []) [] 0 0) (sym same) (whole_turn a b l (t.Told from to) to owes.to_is (record { each = (size, tt); last = sym size })))
    (subst (λ v. Publishes a.frame (access v).seen x.subscriber moves deed) (sym same) (subst (λ w. Publishes a.frame b.seen w moves deed) (sym (of_x ∙ owes.is)) serves))
    refl
    (subst (λ r. Finishes (link r) (link z.link.now) bytes end) asks.link sent)
    refl)

-- what is owed wasn't told: the turn was noted, and nothing sent
noted_alone : {A L C G N : Type 0} (access : A → AccessView) (link : L → LinkView) (clock : C → Option (List ℤ)) (notes : N → Option (List Turn)) (s m z : Session A L C G N) (of : Subscriber) (turn : Turn)
    → OnlyAsks s m → m.clock.now ≡ s.clock.now → (l : Sees (access s.access.now) (access m.access.now))
    → s.client.now.subscriber ≡ Some of
    → z.access.now ≡ m.access.now → z.clock.now ≡ m.clock.now → z.client.now.subscriber ≡ m.client.now.subscriber → z.link.now ≡ m.link.now
    → Tells (notes m.recorder.now) (notes z.recorder.now) (turn ∷ [])
    → Idles (length ((access s.access.now).seen ++ l.others)) (turn ∷ [])
    → Publishes (access s.access.now).frame (access m.access.now).seen (Some of) (Some of) (record { turns = turn ∷ []; sent = []; readings = []; made = []; snapshots = 0; ticks = 0 })
    → Performs [] (world_of access link clock notes s) (world_of access link clock notes z) (served_of access s) (state_of access z) None
noted_alone access link clock notes s m z of turn asks still l some same after kept unsent noted idles serves =
    let a = access s.access.now in
    let b = access m.access.now in
    let deed : Deed = record { turns = turn ∷ []; sent = []; readings = []; made = []; snapshots = 0; ticks = 0 } in
    let own : z.client.now.subscriber ≡ Some of = kept ∙ asks.unheard.subscriber ∙ some in
    performs-one (world_of access link clock notes s) (world_of access link clock notes z) (served_of access s) (state_of access z) published [] deed None
    refl refl
    (ap clock (after ∙ still) ∙ sym (told-nil (clock s.clock.now)))
    (subst (λ r. Tells (notes r) (notes z.recorder.now) (turn ∷ [])) asks.recorder noted)
    (subst (λ v. Advances a (access v) (turn ∷ []) [] 0 0) (sym same) (advances_idle a b l.others (turn ∷ []) 0 0 l.saw (sees_after a b l) idles))
    (subst (λ v. Publishes a.frame (access v).seen s.client.now.subscriber z.client.now.subscriber deed) (sym same) (rw (some, own) serves))
    refl
    (ap link (unsent ∙ asks.link) ∙ sym (ap (λ k. record (link s.link.now) { taken = k }) (told-nil (link s.link.now).taken)))
    refl

pub publishes_too_long : {A L C G N : Type 0} (access : A → AccessView) (link : L → LinkView) (clock : C → Option (List ℤ)) (notes : N → Option (List Turn)) (s m z : Session A L C G N) (from to : ℕ)
    → OnlyAsks s m → m.clock.now ≡ s.clock.now → Sees (access s.access.now) (access m.access.now)
    → OwesTooMuch (access s.access.now).frame s.client.now.subscriber (access m.access.now).seen from to
    → z.access.now ≡ m.access.now → z.clock.now ≡ m.clock.now → z.client.now.subscriber ≡ m.client.now.subscriber → z.link.now ≡ m.link.now
    → Tells (notes m.recorder.now) (notes z.recorder.now) (t.TooLong from to ∷ [])
    → Performs [] (world_of access link clock notes s) (world_of access link clock notes z) (served_of access s) (state_of access z) None
publishes_too_long access link clock notes s m z from to asks still l owes same after kept unsent noted =
    let b = access m.access.now in
    let size = reports_all (access s.access.now) b l to owes.to_is in
    noted_alone access link clock notes s m z owes.of (t.TooLong from to) asks still l owes.is same after kept unsent noted (record { each = (size, tt); last = sym size })
    (inr (
      refl,
      inl (record {
        count = to;
        front = b.seen;
        is_front = record { count = owes.to_is; more = []; whole = sym (append-nil b.seen) };
        more = subst (λ n. n < to) owes.from_is owes.more;
        long = owes.long;
        noted = ap (λ n. t.TooLong n to ∷ []) owes.from_is;
        sent_is = refl;
        still = record { unread = refl; unmade = refl; unasked = (refl, refl) };
      }),
    ))

pub publishes_short : {A L C G N : Type 0} (access : A → AccessView) (link : L → LinkView) (clock : C → Option (List ℤ)) (notes : N → Option (List Turn)) (s m z : Session A L C G N) (of : Subscriber)
    → OnlyAsks s m → m.clock.now ≡ s.clock.now → Sees (access s.access.now) (access m.access.now)
    → s.client.now.subscriber ≡ Some of
    → z.access.now ≡ m.access.now → z.clock.now ≡ m.clock.now → z.client.now.subscriber ≡ m.client.now.subscriber → z.link.now ≡ m.link.now
    → Tells (notes m.recorder.now) (notes z.recorder.now) (t.Short ∷ [])
    → Performs [] (world_of access link clock notes s) (world_of access link clock notes z) (served_of access s) (state_of access z) None
publishes_short access link clock notes s m z of asks still l some same after kept unsent noted =
    noted_alone access link clock notes s m z of t.Short asks still l some same after kept unsent noted (tells_short (length ((access s.access.now).seen ++ l.others)))
    (inr (refl, inr (record { noted = refl; unsent = refl; still = record { unread = refl; unmade = refl; unasked = (refl, refl) } })))
