-- A whole session, from its first byte to its end.
use Rattle.std.proofs.Common.{◌≡◌, ◌<◌, ◌+◌, ◌⊎◌, ℕ, suc, ℤ, Bool, true, false, List, [], ◌∷◌, ◌++◌, length, take, Option, Some, None, refl, sym, ap, subst, ◌∙◌, arith, append_assoc, inl, inr}
use Rattle.std.proofs.lemmas.List.{length-append}
use Rattle.std.proofs.lemmas.List.Elements.{All-take, All-nil}
use Rattle.outside_api.specs.Link.{LinkView}
use Rattle.plant_core.specs.Access.{AccessView}
use Rattle.ipc_frame.proofs.ReadLemmas.{messages_read}
use Rattle.ipc_frame.proofs.RunLemmas.{ungreeted_long, ungreeted_short, ends_held}
use Rattle.ipc_frame.specs.Framing.{IsNeeded}
use Rattle.ipc_frame.specs.Run.{ending_of}
use Rattle.ipc_frame.specs.Stream.{Ending, Front, Message, Frames, AreMessages, EndsAt, IsStream, IsGreeting, closed, truncated, bad, nothing, partial, whole, fault, front_of, ungreeted}
use Rattle.ipc_frame.specs.Taking.{IsUnfinished}
use Rattle.ipc_frame.specs.View.{fresh, told_place}
use Rattle.ipc_frame.specs.declared.bad.Bad.{Bad}
use Rattle.q_values.specs.Bytes.{HasNoNul}
use Rattle.q_values.specs.declared.limits.Limits.{Limits}
use Rattle.q_values.specs.declared.turn.Turn.{Turn}
use Rattle.session.specs.Ended.{Converses, Rests, IsBad, SpendsIdles, WasOpenAt, NeedsNoRead}
use Rattle.session.specs.Heard.{Hears, greeting_heard, messages_heard}
use Rattle.session.specs.Run.{World, world}
use Rattle.session.specs.Served.{Event}
use Rattle.session.specs.Served as s
use Rattle.session.specs.State.{fresh_state}
use Rattle.session.specs.Session.{IsSession, HasCause, HasNoFault, LeavesNone, ReadsNothing, events_of}
use Rattle.session.specs.declared.end.End.{End}
use Rattle.session.specs.declared.end.End.TheVariants as e
use Rattle.session.proofs.StepLemmas.{works-none}
use Rattle.session.proofs.ToldLemmas.{moved-none}

-- ---- what was heard is the front of a stream

-- without a handshake nothing was heard
unheard_yet : (limits : Limits) (place : ℕ) (heard : List ℕ) (events : List Event) → Hears limits false place heard events false → (heard ≡ []) × (greeting_heard events ≡ None) × (messages_heard events ≡ [])
unheard_yet limits place heard [] h = (h.0, refl, refl)
unheard_yet limits place heard (s.greeted c ∷ events) h = absurd (stays_greeted limits (place + length h.0) h.1 events h.4)
  where
    stays_greeted : (limits : Limits) (place : ℕ) (heard : List ℕ) (events : List Event) → Hears limits true place heard events false → ⊥
    stays_greeted limits place heard [] h = absurd cc
    stays_greeted limits place heard (s.greeted c ∷ events) h = h
    stays_greeted limits place heard (s.asked m ∷ events) h = stays_greeted limits (place + length h.0) h.1 events h.4
    stays_greeted limits place heard (s.idled ∷ events) h = stays_greeted limits place heard events h
    stays_greeted limits place heard (s.published ∷ events) h = stays_greeted limits place heard events h
unheard_yet limits place heard (s.asked m ∷ events) h = absurd h
unheard_yet limits place heard (s.idled ∷ events) h = unheard_yet limits place heard events h
unheard_yet limits place heard (s.published ∷ events) h = unheard_yet limits place heard events h

-- after the handshake messages were heard
heard_frames : (limits : Limits) (place : ℕ) (heard : List ℕ) (events : List Event) → Hears limits true place heard events true → Frames limits place heard (messages_heard events)
heard_frames limits place heard [] h = h.0
heard_frames limits place heard (s.greeted c ∷ events) h = absurd h
heard_frames limits place heard (s.asked m ∷ events) h = (h.0, h.1, h.2, h.3, heard_frames limits (place + length h.0) h.1 events h.4)
heard_frames limits place heard (s.idled ∷ events) h = heard_frames limits place heard events h
heard_frames limits place heard (s.published ∷ events) h = heard_frames limits place heard events h

-- the handshake, and the messages after it
pub record Greeted (limits : Limits) (heard : List ℕ) (events : List Event) : Type 0 where
  pub capability : ℕ
  pub greeting : List ℕ
  pub others : List ℕ
  pub parts : heard ≡ greeting ++ others
  pub greets : IsGreeting limits greeting capability
  pub is : greeting_heard events ≡ Some capability
  pub frames : Frames limits (length greeting) others (messages_heard events)

heard_greeted : (limits : Limits) (heard : List ℕ) (events : List Event) → Hears limits false 0 heard events true → Greeted limits heard events
heard_greeted limits heard [] h = absurd cc
heard_greeted limits heard (s.greeted c ∷ events) h =
    let z : 0 + length h.0 ≡ length h.0 = omega arith in
    record { capability = c; greeting = h.0; others = h.1; parts = h.2; greets = h.3; is = refl; frames = subst (λ n. Frames limits n h.1 (messages_heard events)) z (heard_frames limits (0 + length h.0) h.1 events h.4) }
heard_greeted limits heard (s.asked m ∷ events) h = absurd h
heard_greeted limits heard (s.idled ∷ events) h =
    let g = heard_greeted limits heard events h in
    record { capability = g.capability; greeting = g.greeting; others = g.others; parts = g.parts; greets = g.greets; is = g.is; frames = g.frames }
heard_greeted limits heard (s.published ∷ events) h =
    let g = heard_greeted limits heard events h in
    record { capability = g.capability; greeting = g.greeting; others = g.others; parts = g.parts; greets = g.greets; is = g.is; frames = g.frames }

-- messages in two parts
frames-append : (limits : Limits) (place : ℕ) (x y : List ℕ) (ms ns : List Message) → Frames limits place x ms → Frames limits (place + length x) y ns → Frames limits place (x ++ y) (ms ++ ns)
frames-append limits place x y [] ns p q =
    let z : place + length x ≡ place = omega (arith, ap length p) in
    subst (λ l. Frames limits place l ns) (ap (λ l. l ++ y) (sym p)) (subst (λ n. Frames limits n y ns) z q)
frames-append limits place x y (m ∷ ms) ns p q =
    let far : place + length x ≡ (place + length p.0) + length p.1 = omega (arith, ap length p.2, length-append p.0 p.1) in
    (p.0, p.1 ++ y, ap (λ l. l ++ y) p.2 ∙ append_assoc p.0 p.1 y, p.3, frames-append limits (place + length p.0) p.1 y ms ns p.4 (subst (λ n. Frames limits n y ns) far q))

-- what was heard, and what is read of the rest
stream_by : (limits : Limits) (heard rest : List ℕ) (events : List Event) (g : Greeted limits heard events) (unserved : List Message) (x : Ending) → AreMessages limits (length heard) rest unserved x → IsStream limits (heard ++ rest) (greeting_heard events) (messages_heard events ++ unserved) x
stream_by limits heard rest events g unserved x more =
    let size : length heard ≡ length g.greeting + length g.others = omega (arith, ap length g.parts, length-append g.greeting g.others) in
    let far : length heard + length more.body ≡ length g.greeting + length (g.others ++ more.body) = omega (arith, size, length-append g.others more.body) in
    rw g.is (record {
      greeting = g.greeting;
      others = g.others ++ rest;
      parts = ap (λ l. l ++ rest) g.parts ∙ append_assoc g.greeting g.others rest;
      greets = g.greets;
      holds = record {
        body = g.others ++ more.body;
        rest = more.rest;
        parts = ap (λ l. g.others ++ l) more.parts ∙ sym (append_assoc g.others more.body more.rest);
        frames = frames-append limits (length g.greeting) g.others more.body (messages_heard events) unserved g.frames (subst (λ n. Frames limits n more.body unserved) size more.frames);
        ends = subst (λ n. EndsAt n (front_of limits more.rest) x) far more.ends;
      };
    })

-- no message is read of the rest
nothing_more : (limits : Limits) (place : ℕ) (rest : List ℕ) (x : Ending) → EndsAt place (front_of limits rest) x → AreMessages limits place rest [] x
nothing_more limits place rest x ends =
    let z : place ≡ place + 0 = omega arith in
    record { body = []; rest = rest; parts = refl; frames = refl; ends = subst (λ n. EndsAt n (front_of limits rest) x) z ends }

unfinished_ends : (place : ℕ) (front : Front) → IsUnfinished front → (x : Ending) × EndsAt place front x × HasNoFault x
unfinished_ends place nothing h = (closed, refl, inl refl)
unfinished_ends place partial h = (truncated, refl, inr refl)
unfinished_ends place (whole n m) h = absurd h
unfinished_ends place (fault code at) h = absurd h

-- how the bytes read end, with what is left unserved
pub record Read (limits : Limits) (end : End) (heard rest : List ℕ) (events : List Event) (idled : ℕ) : Type 0 where
  pub unserved : List Message
  pub ending : Ending
  pub stream : IsStream limits (heard ++ rest) (greeting_heard events) (messages_heard events ++ unserved) ending
  pub all : LeavesNone end unserved
  pub cause : HasCause limits end ending idled

-- bytes before a whole handshake
ungreeted_stream : (limits : Limits) (heard rest : List ℕ) (events : List Event) (x : Ending) → Hears limits false 0 heard events false → HasNoNul (take (limits.greeting + 1) rest) → x ≡ ungreeted limits (length rest) → IsStream limits (heard ++ rest) (greeting_heard events) (messages_heard events ++ []) x
ungreeted_stream limits heard rest events x h clean is =
    let none = unheard_yet limits 0 heard events h in
    rw (none.0, none.1, none.2) (clean, refl, is)

needed_clean : (limits : Limits) (rest : List ℕ) → IsNeeded limits false rest → HasNoNul (take (limits.greeting + 1) rest)
needed_clean limits rest h = All-take (λ y. 0 < y) (limits.greeting + 1) rest h.no_nul

no_fault_of : (rest : List ℕ) → HasNoFault (ending_of rest)
no_fault_of [] = inl refl
no_fault_of (x ∷ rest) = inr refl

some_ends : (rest : List ℕ) → 0 < length rest → ending_of rest ≡ truncated
some_ends [] h = absurd (omega (arith, h))
some_ends (x ∷ rest) h = refl

-- unfinished bytes, and how they end
needed_read : (limits : Limits) (greeted : Bool) (heard rest : List ℕ) (events : List Event) → Hears limits false 0 heard events greeted → IsNeeded limits greeted rest → IsStream limits (heard ++ rest) (greeting_heard events) (messages_heard events ++ []) (ending_of rest)
needed_read limits false heard rest events h needed = ungreeted_stream limits heard rest events (ending_of rest) h (needed_clean limits rest needed) (sym (ungreeted_short limits rest needed.short))
needed_read limits true heard rest events h needed =
    let u = unfinished_ends (length heard) (front_of limits rest) needed in
    let is : u.0 ≡ ending_of rest = ends_held limits (length heard) rest u.0 needed u.1 in
    stream_by limits heard rest events (heard_greeted limits heard events h) [] (ending_of rest) (nothing_more limits (length heard) rest (ending_of rest) (subst (λ x. EndsAt (length heard) (front_of limits rest) x) is u.1))

bad_read : (limits : Limits) (greeted : Bool) (heard rest : List ℕ) (events : List Event) (code : Bad) (at idled : ℕ) → Hears limits false 0 heard events greeted → IsBad limits greeted (0 + length heard) rest code at → idled < limits.idle → Read limits (e.BadMessage code at) heard rest events idled
bad_read limits true heard rest events code at idled h f few =
    let z : 0 + length heard + f.0 ≡ length heard + f.0 = omega arith in
    record {
      unserved = [];
      ending = bad code (length heard + f.0);
      stream = stream_by limits heard rest events (heard_greeted limits heard events h) [] (bad code (length heard + f.0)) (nothing_more limits (length heard) rest (bad code (length heard + f.0)) (rw f.1 refl));
      all = refl;
      cause = (length heard + f.0, refl, f.2 ∙ ap told_place z, few);
    }
bad_read limits false heard rest events code at idled h f few =
    let none = unheard_yet limits 0 heard events h in
    let z : 0 + length heard + limits.greeting ≡ limits.greeting = omega (arith, ap length none.0) in
    record {
      unserved = [];
      ending = bad code limits.greeting;
      stream = ungreeted_stream limits heard rest events (bad code limits.greeting) h f.0 (ap (λ d. bad d limits.greeting) f.2 ∙ sym (ungreeted_long limits (length rest) f.1));
      all = refl;
      cause = (limits.greeting, refl, f.3 ∙ ap told_place z, few);
    }

-- nothing is left, whether the handshake was heard or not
none_needed : (limits : Limits) (greeted : Bool) → IsNeeded limits greeted []
none_needed limits true = tt
none_needed limits false = record { no_nul = All-nil (λ y. 0 < y); short = omega arith }

read_by : (limits : Limits) (end : End) (heard rest : List ℕ) (events : List Event) (greeted : Bool) (idled : ℕ) → Hears limits false 0 heard events greeted → Rests end limits greeted (0 + length heard) rest → SpendsIdles end limits.idle idled → Read limits end heard rest events idled
read_by limits e.Closed heard rest events greeted idled h r few = record {
  unserved = [];
  ending = ending_of rest;
  stream = needed_read limits greeted heard rest events h (subst (λ l. IsNeeded limits greeted l) (sym r) (none_needed limits greeted));
  all = refl;
  cause = (ap ending_of r, few);
}
read_by limits e.Truncated heard rest events greeted idled h r few = record { unserved = []; ending = ending_of rest; stream = needed_read limits greeted heard rest events h r.0; all = refl; cause = (some_ends rest r.1, few) }
read_by limits (e.BadMessage code at) heard rest events greeted idled h r few = bad_read limits greeted heard rest events code at idled h r few
read_by limits e.ReadFault heard rest events greeted idled h r few = record { unserved = []; ending = ending_of rest; stream = needed_read limits greeted heard rest events h r; all = refl; cause = (no_fault_of rest, few) }
read_by limits e.WriteFault heard rest events greeted idled h (inr needed) few = record { unserved = []; ending = ending_of rest; stream = needed_read limits greeted heard rest events h needed; all = tt; cause = few }
read_by limits e.WriteFault heard rest events greeted idled h (inl r) few =
    let more = messages_read (suc (length rest)) limits (length heard) rest (omega arith) in
    record { unserved = more.0; ending = more.1; stream = stream_by limits heard rest events (heard_greeted limits heard events (subst (λ g. Hears limits false 0 heard events g) r h)) more.0 more.1 more.2; all = tt; cause = few }
read_by limits e.Idle heard rest events greeted idled h r spent = record { unserved = []; ending = ending_of rest; stream = needed_read limits greeted heard rest events h r; all = refl; cause = (no_fault_of rest, spent) }
read_by limits e.NoMemory heard rest events greeted idled h r few = absurd r

-- ---- the input was open

some_greeting : (limits : Limits) (bytes : List ℕ) (c : ℕ) → IsGreeting limits bytes c → 0 < length bytes
some_greeting limits bytes c g = omega (arith, ap length g.parts, length-append g.credentials (0 ∷ []))

bad_some : (limits : Limits) (greeted : Bool) (place : ℕ) (rest : List ℕ) (code : Bad) (at : ℕ) → IsBad limits greeted place rest code at → rest ≡ [] → ⊥
bad_some limits true place rest code at f none = let h = f.1 in absurd (let g : front_of limits [] ≡ fault code f.0 = ap (front_of limits) (sym none) ∙ h in cc)
bad_some limits false place rest code at f none = omega (arith, ap length none, f.1)

-- of two lists that are nothing together, neither is something
both_none : (x y : List ℕ) → x ++ y ≡ [] → (x ≡ []) × (y ≡ [])
both_none [] y h = (refl, h)
both_none (a ∷ x) y h = absurd cc

was_open : (end : End) (limits : Limits) (l : LinkView) (greeted : Bool) (heard rest : List ℕ) (events : List Event) → Hears limits false 0 heard events greeted → Rests end limits greeted (0 + length heard) rest → heard ++ rest ≡ [] → NeedsNoRead end greeted → WasOpenAt end l
was_open e.Closed limits l greeted heard rest events h r none needs = tt
was_open e.Truncated limits l greeted heard rest events h r none needs = tt
was_open (e.BadMessage code at) limits l greeted heard rest events h r none needs = absurd (bad_some limits greeted (0 + length heard) rest code at r (both_none heard rest none).1)
was_open e.ReadFault limits l greeted heard rest events h r none needs = absurd needs
was_open e.WriteFault limits l greeted heard rest events h r none needs =
    let g = heard_greeted limits heard events (subst (λ x. Hears limits false 0 heard events x) needs h) in
    absurd (omega (arith, some_greeting limits g.greeting g.capability g.greets, ap length (both_none heard rest none).0, ap length g.parts, length-append g.greeting g.others))
was_open e.Idle limits l greeted heard rest events h r none needs = absurd needs
was_open e.NoMemory limits l greeted heard rest events h r none needs = absurd needs

reads_something : (end : End) (limits : Limits) (greeted : Bool) (place : ℕ) (rest read : List ℕ) → Rests end limits greeted place rest → ReadsNothing end read
reads_something e.Closed limits greeted place rest read r = tt
reads_something e.Truncated limits greeted place rest read r = tt
reads_something (e.BadMessage code at) limits greeted place rest read r = tt
reads_something e.ReadFault limits greeted place rest read r = tt
reads_something e.WriteFault limits greeted place rest read r = tt
reads_something e.Idle limits greeted place rest read r = tt
reads_something e.NoMemory limits greeted place rest read r = absurd r

-- a session that began with nothing read is whole
pub whole_session : (limits : Limits) (a b : World) (end : End) → Converses limits 0 a b (fresh_state a.access) (record { framer = fresh limits; pending = [] }) limits.idle end → IsSession limits a b end
whole_session limits a b end c =
    let read = read_by limits end c.heard c.rest (events_of c.steps) c.greeted c.idled c.hears c.rests c.idles in
    record {
      read = c.given;
      written = c.written;
      idled = c.idled;
      link = c.link;
      input = c.input;
      opened = opened c.opened;
      steps = c.steps;
      unserved = read.unserved;
      ending = read.ending;
      stream = subst (λ l. IsStream limits l (greeting_heard (events_of c.steps)) (messages_heard (events_of c.steps) ++ read.unserved) read.ending) (sym c.bytes) read.stream;
      heard = c.heard;
      rest = c.rest;
      greeted = c.greeted;
      parts = c.bytes;
      order = c.hears;
      idles = c.counted;
      all = read.all;
      cause = read.cause;
      nothing = reads_something end limits c.greeted (0 + length c.heard) c.rest c.given c.rests;
      after = c.after;
      served = c.works.served;
      looked = c.looked;
      notes = c.works.notes;
      sent = c.sent;
      clock = c.works.clock;
      access = c.works.access;
    }
  where
    opened : ((c.given ≡ []) × (c.idled ≡ 0) × NeedsNoRead end c.greeted) ⊎ WasOpenAt end a.link → WasOpenAt end a.link
    opened (inl none) = was_open end limits a.link c.greeted c.heard c.rest (events_of c.steps) c.hears c.rests (sym c.bytes ∙ none.0) none.2
    opened (inr still) = still

-- a session without memory for its buffers
pub no_session : (limits : Limits) (l : LinkView) (k : Option (List ℤ)) (n : Option (List Turn)) (a : AccessView) → IsSession limits (world l k n a) (world l k n a) e.NoMemory
no_session limits l k n a =
    let works = works-none l l k n a (fresh_state a) in
    record {
      read = [];
      written = [];
      idled = 0;
      link = sym (moved-none l);
      input = tt;
      opened = tt;
      steps = [];
      unserved = [];
      ending = closed;
      stream = (All-take (λ y. 0 < y) (limits.greeting + 1) [] (All-nil (λ y. 0 < y)), refl, refl);
      heard = [];
      rest = [];
      greeted = false;
      parts = refl;
      order = (refl, refl);
      idles = refl;
      all = refl;
      cause = (refl, refl);
      nothing = refl;
      after = fresh_state a;
      served = works.served;
      looked = refl;
      notes = works.notes;
      sent = refl;
      clock = works.clock;
      access = works.access;
    }

-- the devices are what the session left them as
pub ends_as : {A L C N : Type 0} (access : A → AccessView) (link : L → LinkView) (clock : C → Option (List ℤ)) (notes : N → Option (List Turn)) (limits : Limits) (before : World) (end : End)
    (l m : L) (k j : C) (n o : N) (a b : A) → m ≡ l → j ≡ k → o ≡ n → b ≡ a
    → IsSession limits before (world (link l) (clock k) (notes n) (access a)) end → IsSession limits before (world (link m) (clock j) (notes o) (access b)) end
ends_as access link clock notes limits before end l m k j n o a b link_is clock_is notes_are access_is session = rw (link_is, clock_is, notes_are, access_is) session
