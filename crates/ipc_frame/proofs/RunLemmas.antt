-- What a run of a framer returns.
use Rattle.std.proofs.Common.{◌≡◌, ◌≤◌, ◌<◌, ◌+◌, ◌-◌, ℕ, Bool, true, false, cond, List, [], ◌∷◌, ◌++◌, length, take, drop, ltb, leb, eqb, Option, Some, None, Result, Ok, Err, refl, sym, ap, subst, ◌∙◌, arith, append_assoc}
use Rattle.std.specs.Bool.{MatchBool}
use Rattle.std.proofs.lemmas.Bool.{lt-leb, le-leb, ne_eqb}
use Rattle.std.proofs.lemmas.List.{append-nil, length-append, take_at}
use Rattle.std.proofs.lemmas.List.Elements.{All-take}
use Rattle.ipc_codec.specs.Reading.{object_of}
use Rattle.ipc_codec.specs.declared.refusal.DecodeRefusal.{DecodeRefusal}
use Rattle.ipc_codec.specs.declared.refusal.DecodeRefusal.TheVariants as r
use Rattle.q_values.specs.Bytes.{HasNoNul}
use Rattle.q_values.specs.Tree.{Tree, tree}
use Rattle.q_values.specs.declared.limits.Limits.{Limits}
use Rattle.ipc_frame.specs.Framing.{IsNeeded, StandsFront, StandsGreeting, IsTooLong, is_passed, Gives}
use Rattle.ipc_frame.specs.Laws.{AllAreTold, FramerIsExact}
use Rattle.ipc_frame.specs.Run.{Step, fed, gave, Item, greeting, message, fault_at, Runs, bytes_of, told_by, items_at_end, items_after, items_of, ending_of, Shows, left_after, AreTold}
use Rattle.ipc_frame.specs.Stream.{Message, Ending, truncated, bad, Front, nothing, partial, whole, fault, built, unbuilt, front_of, header_of, header_front, body_front, moved, EndsAt, IsGreeting, IsStream, AreMessages, ungreeted}
use Rattle.ipc_frame.specs.Taking.{NeedsGreeting, NeedsMessage, IsUnfinished}
use Rattle.ipc_frame.specs.View.{FramerView, told_place, fresh, passed}
use Rattle.ipc_frame.specs.declared.bad.Bad.{Bad}
use Rattle.ipc_frame.specs.declared.bad.Bad.TheVariants as b
use Rattle.ipc_frame.specs.declared.head.Head.{Head}
use Rattle.ipc_frame.specs.declared.head.BadHeader.{BadHeader}
use Rattle.ipc_frame.specs.declared.next.Next.{Next}
use Rattle.ipc_frame.specs.declared.next.Next.TheVariants as n
use Rattle.ipc_frame.proofs.UniqueLemmas.{front_stays, over, first_stands, parted, same_greeting, no_greeting}

-- these are the items that are left, and the ending, where bytes are at this offset, before or after the handshake
abbrev pub Tail : Limits → Bool → ℕ → List ℕ → List Item → Ending → Type 0
Tail limits false place bytes items x = (place ≡ 0) × (g : Option ℕ) × (ms : List Message) × IsStream limits bytes g ms x × (items ≡ items_of g ms x)
Tail limits true place bytes items x = (ms : List Message) × AreMessages limits place bytes ms x × (items ≡ items_after ms x)

-- what is next, at an offset in a `u64` that saturates
abbrev pub Standing : Limits → Bool → ℕ → List ℕ → Next → Type 0
Standing limits greeted place held next = MatchBool greeted (StandsFront place (length held) (front_of limits held) next) (StandsGreeting limits place held next)

-- ---- messages

-- the first of these items, and the others
pub record First (limits : Limits) (place : ℕ) (bytes : List ℕ) (next : Next) (items : List Item) (x : Ending) : Type 0 where
  pub item : Item
  pub others : List Item
  pub all : items ≡ item ∷ others
  pub shown : Shows next item
  pub once : others ≡ left_after item others
  pub tail : Tail limits true place bytes others x

first_message : (limits : Limits) (p : ℕ) (held later : List ℕ) (here : Message) (next : Next) (items : List Item) (x : Ending) → front_of limits held ≡ whole (length held) here → Shows next (message (moved p here)) → Tail limits true p (held ++ later) items x → First limits (p + length held) later next items x
first_message limits p held later here next items x front shown t =
    let holds = t.1 in
    let part = parted limits p held later holds.body holds.rest here t.0 holds.parts front holds.frames (over _ _ x holds.ends) in
    let far : p + length holds.body ≡ p + length held + length part.others = omega (arith, ap length part.body_is, length-append held part.others) in
    record {
      item = message (moved p here);
      others = items_after part.messages x;
      all = t.2 ∙ ap (λ ms. items_after ms x) part.first;
      shown = shown;
      once = refl;
      tail = (part.messages, record { body = part.others; rest = holds.rest; parts = part.bytes; frames = part.frames; ends = subst (λ k. EndsAt k (front_of limits holds.rest) x) far holds.ends }, refl);
    }

-- offsets in a `u64` that saturates add up
pub told_sum : (place p k : ℕ) → place ≡ told_place p → told_place (place + k) ≡ told_place (p + k)
told_sum place p k e = omega arith

greeting_head : (limits : Limits) (p : ℕ) (held later : List ℕ) (c : ℕ) (items : List Item) (g : Option ℕ) (ms : List Message) (x : Ending) → IsGreeting limits held c → p ≡ 0 → IsStream limits (held ++ later) g ms x → items ≡ items_of g ms x → First limits (p + length held) later (n.Greeting c) items x
greeting_head limits p held later c items None ms x g z s e = absurd (no_greeting limits (held ++ later) held later c s.0 g refl)
greeting_head limits p held later c items (Some d) ms x g z s e =
    let both = same_greeting limits held s.greeting later s.others c d g s.greets s.parts in
    let far : length s.greeting ≡ p + length held = omega (arith, z, ap length both.0) in
    record {
      item = greeting d;
      others = items_after ms x;
      all = e;
      shown = both.1;
      once = refl;
      tail = (ms, subst (λ l. AreMessages limits (p + length held) l ms x) (sym both.2) (subst (λ k. AreMessages limits k s.others ms x) far s.holds), refl);
    }

-- what is dropped is the first item
pub first_item : (limits : Limits) (greeted : Bool) (place p : ℕ) (held later : List ℕ) (next : Next) (items : List Item) (x : Ending) → place ≡ told_place p → Standing limits greeted place held next → is_passed next ≡ true → Tail limits greeted p (held ++ later) items x → First limits (p + length held) later next items x
first_item limits false place p held later (n.Greeting c) items x e s pass t = greeting_head limits p held later c items t.1 t.2 x s t.0 t.3 t.4
first_item limits false place p held later (n.Message m) items x e s pass t = absurd s
first_item limits false place p held later (n.NotBuilt sync at) items x e s pass t = absurd s
first_item limits false place p held later (n.Skipped sync) items x e s pass t = absurd s
first_item limits false place p held later n.Need items x e s pass t = absurd cc
first_item limits false place p held later (n.Bad code at) items x e s pass t = absurd cc
first_item limits true place p held later (n.Greeting c) items x e s pass t = absurd s
first_item limits true place p held later (n.Message m) items x e s pass t = first_message limits p held later (record { sync = m.sync; content = built (tree m.value) }) (n.Message m) items x s refl t
first_item limits true place p held later (n.NotBuilt sync at) items x e s pass t = first_message limits p held later (record { sync = sync; content = unbuilt s.0 }) (n.NotBuilt sync at) items x s.1 (p + s.0, refl, s.2 ∙ told_sum place p s.0 e) t
first_item limits true place p held later (n.Skipped sync) items x e s pass t = first_message limits p held later (record { sync = sync; content = built s.0 }) (n.Skipped sync) items x s.1 (s.0, refl) t
first_item limits true place p held later n.Need items x e s pass t = absurd cc
first_item limits true place p held later (n.Bad code at) items x e s pass t = absurd cc

-- ---- faults

-- a fault, and nothing else
pub record Fault (code : Bad) (told : ℕ) (items : List Item) (x : Ending) : Type 0 where
  pub at : ℕ
  pub only : items ≡ fault_at code at ∷ []
  pub place : told ≡ told_place at
  pub ending : x ≡ bad code at

-- no message is read where a fault is in front
fault_messages : (limits : Limits) (p : ℕ) (bytes : List ℕ) (code : Bad) (k : ℕ) (ms : List Message) (x : Ending) → front_of limits bytes ≡ fault code k → AreMessages limits p bytes ms x → (ms ≡ []) × (x ≡ bad code (p + k))
fault_messages limits p bytes code k [] x front h =
    let rest_is : h.rest ≡ bytes = ap (λ l. l ++ h.rest) (sym h.frames) ∙ sym h.parts in
    let none : p + length h.body ≡ p = omega (arith, ap length h.frames) in
    let ends : EndsAt p (fault code k) x = subst (λ f. EndsAt p f x) (ap (front_of limits) rest_is ∙ front) (subst (λ i. EndsAt i (front_of limits h.rest) x) none h.ends) in
    (refl, ends)
fault_messages limits p bytes code k (m ∷ ms) x front h =
    let f = h.frames in
    let one : fault code k ≡ whole (length f.0) f.3.0 = sym front ∙ ap (front_of limits) h.parts ∙ first_stands limits h.body f.1 f.0 h.rest f.3.0 f.2 f.3.1 in
    absurd cc

fault_head : (limits : Limits) (place p : ℕ) (held later : List ℕ) (code : Bad) (at k : ℕ) (items : List Item) (x : Ending) → place ≡ told_place p → front_of limits held ≡ fault code k → at ≡ told_place (place + k) → Tail limits true p (held ++ later) items x → Fault code at items x
fault_head limits place p held later code at k items x e front a t =
    let both = fault_messages limits p (held ++ later) code k t.0 x (front_stays limits held later (fault code k) tt front) t.1 in
    record { at = p + k; only = t.2 ∙ ap (λ ms. items_after ms x) both.0 ∙ ap items_at_end both.1; place = a ∙ told_sum place p k e; ending = both.1 }

-- a handshake that is too long
pub too_long : (limits : Limits) (held later : List ℕ) → IsTooLong limits held → HasNoNul (take (limits.greeting + 1) (held ++ later))
too_long limits held later p = subst HasNoNul (sym (take_at held later (limits.greeting + 1) p.long)) p.no_nul

pub ungreeted_long : (limits : Limits) (k : ℕ) → limits.greeting < k → ungreeted limits k ≡ bad b.Greeting limits.greeting
ungreeted_long limits k long =
    let some : eqb k 0 ≡ false = ne_eqb k 0 (λ e. omega (arith, e, long)) in
    let more : leb k limits.greeting ≡ false = lt-leb _ _ long in
    rw (some, more) refl

fault_greeting : (limits : Limits) (place p : ℕ) (held later : List ℕ) (code : Bad) (at : ℕ) (items : List Item) (g : Option ℕ) (ms : List Message) (x : Ending) → place ≡ told_place p → IsTooLong limits held → code ≡ b.Greeting → at ≡ told_place (place + limits.greeting) → p ≡ 0 → IsStream limits (held ++ later) g ms x → items ≡ items_of g ms x → Fault code at items x
fault_greeting limits place p held later code at items (Some d) ms x e h c a z s i = absurd (no_greeting limits (held ++ later) s.greeting s.others d (too_long limits held later h) s.greets s.parts)
fault_greeting limits place p held later code at items None ms x e h c a z s i =
    let size = h.long in
    let ends : x ≡ bad code limits.greeting = s.2 ∙ ungreeted_long limits (length (held ++ later)) (omega (arith, size, length-append held later)) ∙ ap (λ d. bad d limits.greeting) (sym c) in
    record { at = limits.greeting; only = i ∙ ap (λ l. items_after l x) s.1 ∙ ap items_at_end ends; place = a ∙ told_sum place p limits.greeting e ∙ ap (λ q. told_place (q + limits.greeting)) z ∙ omega arith; ending = ends }

pub only_fault : (limits : Limits) (greeted : Bool) (place p : ℕ) (held later : List ℕ) (code : Bad) (at : ℕ) (items : List Item) (x : Ending) → place ≡ told_place p → Standing limits greeted place held (n.Bad code at) → Tail limits greeted p (held ++ later) items x → Fault code at items x
only_fault limits true place p held later code at items x e s t = fault_head limits place p held later code at s.0 items x e s.1 s.2 t
only_fault limits false place p held later code at items x e s t = fault_greeting limits place p held later code at items t.1 t.2 x e s.0 s.1 s.2 t.0 t.3 t.4

-- ---- nothing is left

-- nothing is left, and the bytes end so
pub record Over (held : List ℕ) (items : List Item) (x : Ending) : Type 0 where
  pub none : items ≡ []
  pub ending : x ≡ ending_of held

-- something is there
abbrev IsSome : Front → Type 0
IsSome nothing = ⊥
IsSome partial = Unit {0}
IsSome (whole k m) = Unit {0}
IsSome (fault code at) = Unit {0}

some_body : (head : Head) (read : Result (Tree × ℕ) DecodeRefusal) → IsSome (body_front head read)
some_body head (Ok y) = by_fit (eqb (y.1 + 8) head.length)
  where
    by_fit : (fits : Bool) → IsSome (cond fits (whole head.length (record { sync = head.sync; content = built y.0 })) (fault b.Object (y.1 + 8)))
    by_fit true = tt
    by_fit false = tt
some_body head (Err (r.NotBuilt at)) = tt
some_body head (Err (r.Truncated at)) = tt
some_body head (Err (r.BadType at)) = tt
some_body head (Err (r.BadShape at)) = tt
some_body head (Err (r.TooDeep at)) = tt
some_body head (Err r.NoMemory) = tt

some_header : (bytes : List ℕ) (h : Result Head BadHeader) → IsSome (header_front bytes h)
some_header bytes (Err f) = tt
some_header bytes (Ok head) = by_size (ltb (length bytes) head.length)
  where
    by_size : (short : Bool) → IsSome (cond short partial (body_front head (object_of head.order (take (head.length - 8) (drop 8 bytes)))))
    by_size true = tt
    by_size false = some_body head (object_of head.order (take (head.length - 8) (drop 8 bytes)))

some_front : (limits : Limits) (a : ℕ) (bytes : List ℕ) → IsSome (front_of limits (a ∷ bytes))
some_front limits a bytes =
    let more : eqb (length (a ∷ bytes)) 0 ≡ false = ne_eqb (length (a ∷ bytes)) 0 (λ e. omega (arith, e)) in
    rw more (by_size (ltb (length (a ∷ bytes)) 8))
  where
    by_size : (short : Bool) → IsSome (cond short partial (header_front (a ∷ bytes) (header_of limits (a ∷ bytes))))
    by_size true = tt
    by_size false = some_header (a ∷ bytes) (header_of limits (a ∷ bytes))

-- bytes that are less than a message end without a fault
ends_clean : (place : ℕ) (front : Front) (x : Ending) → IsUnfinished front → EndsAt place front x → items_at_end x ≡ []
ends_clean place nothing x u e = rw e refl
ends_clean place partial x u e = rw e refl
ends_clean place (whole k m) x u e = absurd u
ends_clean place (fault code at) x u e = absurd u

ends_within : (place : ℕ) (front : Front) (x : Ending) → IsUnfinished front → IsSome front → EndsAt place front x → x ≡ truncated
ends_within place nothing x u some e = absurd some
ends_within place partial x u some e = e
ends_within place (whole k m) x u some e = absurd u
ends_within place (fault code at) x u some e = absurd u

pub ends_held : (limits : Limits) (place : ℕ) (held : List ℕ) (x : Ending) → NeedsMessage limits held → EndsAt place (front_of limits held) x → x ≡ ending_of held
ends_held limits place [] x u e = e
ends_held limits place (a ∷ held) x u e = ends_within place (front_of limits (a ∷ held)) x u (some_front limits a held) e

unfinished_messages : (limits : Limits) (p : ℕ) (bytes : List ℕ) (items : List Item) (ms : List Message) (x : Ending) → NeedsMessage limits bytes → AreMessages limits p bytes ms x → items ≡ items_after ms x → Over bytes items x
unfinished_messages limits p bytes items [] x u h i =
    let rest_is : h.rest ≡ bytes = ap (λ l. l ++ h.rest) (sym h.frames) ∙ sym h.parts in
    let ends : EndsAt (p + length h.body) (front_of limits bytes) x = subst (λ l. EndsAt (p + length h.body) (front_of limits l) x) rest_is h.ends in
    record { none = i ∙ ends_clean (p + length h.body) (front_of limits bytes) x u ends; ending = ends_held limits (p + length h.body) bytes x u ends }
unfinished_messages limits p bytes items (m ∷ ms) x u h i =
    let f = h.frames in
    let one : front_of limits bytes ≡ whole (length f.0) f.3.0 = ap (front_of limits) h.parts ∙ first_stands limits h.body f.1 f.0 h.rest f.3.0 f.2 f.3.1 in
    absurd (subst (λ g. IsUnfinished g) one u)

pub ungreeted_short : (limits : Limits) (held : List ℕ) → length held ≤ limits.greeting → ungreeted limits (length held) ≡ ending_of held
ungreeted_short limits [] short = refl
ungreeted_short limits (a ∷ held) short =
    let more : eqb (length (a ∷ held)) 0 ≡ false = ne_eqb (length (a ∷ held)) 0 (λ e. omega (arith, e)) in
    let within : leb (length (a ∷ held)) limits.greeting ≡ true = le-leb _ _ short in
    rw (more, within) refl

no_fault : (held : List ℕ) → items_at_end (ending_of held) ≡ []
no_fault [] = refl
no_fault (a ∷ held) = refl

unfinished_greeting : (limits : Limits) (held : List ℕ) (items : List Item) (g : Option ℕ) (ms : List Message) (x : Ending) → NeedsGreeting limits held → IsStream limits held g ms x → items ≡ items_of g ms x → Over held items x
unfinished_greeting limits held items (Some d) ms x h s i = absurd (no_greeting limits held s.greeting s.others d (All-take (λ y. 0 < y) (limits.greeting + 1) held h.no_nul) s.greets s.parts)
unfinished_greeting limits held items None ms x h s i =
    let ends : x ≡ ending_of held = s.2 ∙ ungreeted_short limits held h.short in
    record { none = i ∙ ap (λ l. items_after l x) s.1 ∙ ap items_at_end ends ∙ no_fault held; ending = ends }

pub no_item : (limits : Limits) (greeted : Bool) (p : ℕ) (held : List ℕ) (items : List Item) (x : Ending) → IsNeeded limits greeted held → Tail limits greeted p held items x → Over held items x
no_item limits true p held items x u t = unfinished_messages limits p held items t.0 x u t.1 t.2
no_item limits false p held items x u t = unfinished_greeting limits held items t.1 t.2 x u t.3 t.4

-- ---- runs

-- an item, and then the others
told_first : (IsLeft : List Item → Type 0) (limits : Limits) (place : ℕ) (bytes : List ℕ) (next : Next) (nexts : List Next) (items : List Item) (x : Ending) (f : First limits place bytes next items x) → AreTold IsLeft nexts f.others → AreTold IsLeft (next ∷ nexts) items
told_first IsLeft limits place bytes next nexts items x f rest = subst (AreTold IsLeft (next ∷ nexts)) (sym f.all) (f.shown, subst (AreTold IsLeft nexts) f.once rest)

told_fault : (IsLeft : List Item → Type 0) (code : Bad) (at : ℕ) (nexts : List Next) (items : List Item) (x : Ending) → Fault code at items x → AreTold IsLeft nexts items → AreTold IsLeft (n.Bad code at ∷ nexts) items
told_fault IsLeft code at nexts items x f rest = subst (AreTold IsLeft (n.Bad code at ∷ nexts)) (sym f.only) ((refl, f.place), subst (AreTold IsLeft nexts) f.only rest)

-- what is left where a run ends
abbrev Ends : (List Item → Type 0) → FramerView → List ℕ → Ending → Type 0
Ends IsLeft w more x = (p : ℕ) (items : List Item) → w.place ≡ told_place p → Tail w.limits w.greeted p (w.held ++ more) items x → IsLeft items

-- the framer after a part of a piece
abbrev with_more : FramerView → List ℕ → FramerView
with_more v bytes = record v { held = v.held ++ bytes }

-- what is dropped, and then what is returned after it
told_more : (IsLeft : List Item → Type 0) (v : FramerView) (p : ℕ) (later : List ℕ) (items : List Item) (x : Ending) (next : Next) (nexts : List Next) → v.place ≡ told_place p → Standing v.limits v.greeted v.place v.held next → is_passed next ≡ true → Tail v.limits v.greeted p (v.held ++ later) items x → ((others : List Item) → Tail v.limits true (p + length v.held) later others x → AreTold IsLeft nexts others) → AreTold IsLeft (next ∷ nexts) items
told_more IsLeft v p later items x next nexts e stands pass t again =
    let f = first_item v.limits v.greeted v.place p v.held later next items x e stands pass t in
    told_first IsLeft v.limits (p + length v.held) later next nexts items x f (again f.others f.tail)

told_runs : (IsLeft : List Item → Type 0) (steps : List Step) (v w : FramerView) (p : ℕ) (more : List ℕ) (items : List Item) (x : Ending) → v.place ≡ told_place p → Runs v steps w → Ends IsLeft w more x → Tail v.limits v.greeted p (v.held ++ (bytes_of steps ++ more)) items x → AreTold IsLeft (told_by steps) items
told_runs IsLeft [] v w p more items x e r ends t = ends p items (subst (λ u. u.place ≡ told_place p) (sym r) e) (subst (λ u. Tail u.limits u.greeted p (u.held ++ more) items x) (sym r) t)
told_runs IsLeft (fed piece taken ∷ steps) v w p more items x e r ends t =
    let runs : Runs (with_more v (take taken piece)) steps w = subst (λ m. Runs m steps w) r.1.after r.2 in
    let bytes : v.held ++ ((take taken piece ++ bytes_of steps) ++ more) ≡ (v.held ++ take taken piece) ++ (bytes_of steps ++ more) = ap (λ l. v.held ++ l) (append_assoc (take taken piece) (bytes_of steps) more) ∙ sym (append_assoc v.held (take taken piece) (bytes_of steps ++ more)) in
    told_runs IsLeft steps (with_more v (take taken piece)) w p more items x e runs ends (subst (λ l. Tail v.limits v.greeted p l items x) bytes t)
told_runs IsLeft (gave (n.Greeting c) ∷ steps) v w p more items x e r ends t =
    told_more IsLeft v p (bytes_of steps ++ more) items x (n.Greeting c) (told_by steps) e r.1.stands refl t
    (λ others tail. told_runs IsLeft steps (passed v) w (p + length v.held) more others x (told_sum v.place p (length v.held) e) (subst (λ m. Runs m steps w) r.1.after r.2) ends tail)
told_runs IsLeft (gave (n.Message m) ∷ steps) v w p more items x e r ends t =
    told_more IsLeft v p (bytes_of steps ++ more) items x (n.Message m) (told_by steps) e r.1.stands refl t
    (λ others tail. told_runs IsLeft steps (passed v) w (p + length v.held) more others x (told_sum v.place p (length v.held) e) (subst (λ m. Runs m steps w) r.1.after r.2) ends tail)
told_runs IsLeft (gave (n.NotBuilt sync at) ∷ steps) v w p more items x e r ends t =
    told_more IsLeft v p (bytes_of steps ++ more) items x (n.NotBuilt sync at) (told_by steps) e r.1.stands refl t
    (λ others tail. told_runs IsLeft steps (passed v) w (p + length v.held) more others x (told_sum v.place p (length v.held) e) (subst (λ m. Runs m steps w) r.1.after r.2) ends tail)
told_runs IsLeft (gave (n.Skipped sync) ∷ steps) v w p more items x e r ends t =
    told_more IsLeft v p (bytes_of steps ++ more) items x (n.Skipped sync) (told_by steps) e r.1.stands refl t
    (λ others tail. told_runs IsLeft steps (passed v) w (p + length v.held) more others x (told_sum v.place p (length v.held) e) (subst (λ m. Runs m steps w) r.1.after r.2) ends tail)
told_runs IsLeft (gave n.Need ∷ steps) v w p more items x e r ends t = told_runs IsLeft steps v w p more items x e (subst (λ m. Runs m steps w) r.1.after r.2) ends t
told_runs IsLeft (gave (n.Bad code at) ∷ steps) v w p more items x e r ends t =
    told_fault IsLeft code at (told_by steps) items x (only_fault v.limits v.greeted v.place p v.held (bytes_of steps ++ more) code at items x e r.1.stands t)
    (told_runs IsLeft steps v w p more items x e (subst (λ m. Runs m steps w) r.1.after r.2) ends t)

-- what is true of what is left is true
left_holds : (P : Type 0) (nexts : List Next) (items : List Item) → AreTold (λ _. P) nexts items → P
left_holds P [] items h = h
left_holds P (next ∷ nexts) [] h = absurd h
left_holds P (next ∷ nexts) (item ∷ items) h = left_holds P nexts (left_after item items) h.1

-- a run of a new framer, and what is left where it ends
new_runs : (IsLeft : List Item → Type 0) (limits : Limits) (steps : List Step) (view : FramerView) (more : List ℕ) (g : Option ℕ) (ms : List Message) (x : Ending) → Runs (fresh limits) steps view → IsStream limits (bytes_of steps ++ more) g ms x → Ends IsLeft view more x → AreTold IsLeft (told_by steps) (items_of g ms x)
new_runs IsLeft limits steps view more g ms x r s ends = told_runs IsLeft steps (fresh limits) view 0 more (items_of g ms x) x refl r ends (refl, g, ms, s, refl)

need_told : (limits : Limits) (steps : List Step) (view new : FramerView) (g : Option ℕ) (ms : List Message) (x : Ending) → Runs (fresh limits) steps view → Gives view n.Need new → IsStream limits (bytes_of steps) g ms x → AllAreTold [] steps g ms x × (x ≡ ending_of view.held)
need_told limits steps view new g ms x r h s =
    let stream : IsStream limits (bytes_of steps ++ []) g ms x = subst (λ l. IsStream limits l g ms x) (sym (append-nil (bytes_of steps))) s in
    let over : (p : ℕ) (items : List Item) → Tail view.limits view.greeted p (view.held ++ []) items x → Over view.held items x = λ p items t. no_item view.limits view.greeted p view.held items x h.stands (subst (λ l. Tail view.limits view.greeted p l items x) (append-nil view.held) t) in
    let none : Ends (λ items. items ≡ []) view [] x = λ p items e t. (over p items t).none in
    let ending : Ends (λ _. x ≡ ending_of view.held) view [] x = λ p items e t. (over p items t).ending in (
      new_runs (λ items. items ≡ []) limits steps view [] g ms x r stream none,
      left_holds (x ≡ ending_of view.held) (told_by steps) (items_of g ms x) (new_runs (λ _. x ≡ ending_of view.held) limits steps view [] g ms x r stream ending),
    )

-- the fault of a stream
abbrev FaultOf : Bad → ℕ → Ending → Type 0
FaultOf code at x = (k : ℕ) × (at ≡ told_place k) × (x ≡ bad code k)

same_fault : (code : Bad) (k j : ℕ) (x : Ending) → x ≡ bad code k → x ≡ bad code j → j ≡ k
same_fault code k j x e d = cc

fault_told : (limits : Limits) (steps : List Step) (view new : FramerView) (code : Bad) (at : ℕ) (more : List ℕ) (g : Option ℕ) (ms : List Message) (x : Ending) → Runs (fresh limits) steps view → Gives view (n.Bad code at) new → IsStream limits (bytes_of steps ++ more) g ms x → (k : ℕ) × (at ≡ told_place k) × (x ≡ bad code k) × AllAreTold (fault_at code k ∷ []) steps g ms x
fault_told limits steps view new code at more g ms x r h s =
    let only : (p : ℕ) (items : List Item) → view.place ≡ told_place p → Tail view.limits view.greeted p (view.held ++ more) items x → Fault code at items x = λ p items e t. only_fault view.limits view.greeted view.place p view.held more code at items x e h.stands t in
    let there : Ends (λ _. FaultOf code at x) view more x = λ p items e t. let f = only p items e t in (f.at, f.place, f.ending) in
    let k = left_holds (FaultOf code at x) (told_by steps) (items_of g ms x) (new_runs (λ _. FaultOf code at x) limits steps view more g ms x r s there) in
    let left : Ends (λ items. items ≡ fault_at code k.0 ∷ []) view more x = λ p items e t. let f = only p items e t in f.only ∙ ap (λ i. fault_at code i ∷ []) (same_fault code k.0 f.at x k.2 f.ending) in
    (k.0, k.1, k.2, new_runs (λ items. items ≡ fault_at code k.0 ∷ []) limits steps view more g ms x r s left)

pub exact : FramerIsExact
exact limits steps view r = record {
  first = λ more g ms x s. new_runs (λ _. Unit {0}) limits steps view more g ms x r s (λ p items e t. tt);
  need = λ new h g ms x s. need_told limits steps view new g ms x r h s;
  fault = λ code at new h more g ms x s. fault_told limits steps view new code at more g ms x r h s;
}
