-- A stream has one reading.
use Rattle.std.proofs.Common.{◌≡◌, ◌≤◌, ◌<◌, ◌+◌, ◌-◌, ℕ, zero, suc, Bool, true, false, cond, List, [], ◌∷◌, ◌++◌, length, take, drop, ltb, eqb, Some, None, Result, Ok, Err, refl, sym, ap, subst, ◌∙◌, arith, append_assoc}
use Rattle.std.proofs.lemmas.Bool.{le-ltb, ltb-false}
use Rattle.std.proofs.lemmas.List.{length-append, take_at, drop_at, take-append-le, drop-append-le, length-drop}
use Rattle.std.proofs.lemmas.List.Elements.{All-head, All-tail}
use Rattle.ipc_codec.specs.Reading.{object_of}
use Rattle.q_values.specs.Bytes.{HasNoNul}
use Rattle.q_values.specs.declared.limits.Limits.{Limits}
use Rattle.ipc_frame.specs.Laws.{StreamIsReadOnce}
use Rattle.ipc_frame.specs.Stream.{Message, Ending, Front, nothing, partial, whole, fault, front_of, header_of, header_front, body_front, moved, Frames, EndsAt, IsGreeting, IsGreeted, AreMessages, capability_of}
use Rattle.ipc_frame.specs.declared.head.Head.{Head}
use Rattle.ipc_frame.specs.declared.head.BadHeader.{BadHeader}
use Rattle.ipc_frame.proofs.FrontLemmas.{front_judged, header_of-longer}

-- ---- fronts

pub same_size : (n k : ℕ) (m o : Message) → whole n m ≡ whole k o → n ≡ k
same_size n k m o e = cc

pub same_message : (n k : ℕ) (m o : Message) → whole n m ≡ whole k o → m ≡ o
same_message n k m o e = cc

-- a whole message or a fault is there
abbrev pub IsFound : Front → Type 0
IsFound nothing = ⊥
IsFound partial = ⊥
IsFound (whole n m) = Unit {0}
IsFound (fault code at) = Unit {0}

-- where something is found, a header is there
pub header_stands : (limits : Limits) (bytes : List ℕ) (x : Front) → IsFound x → front_of limits bytes ≡ x → 8 ≤ length bytes
header_stands limits bytes x found e = by_length (eqb (length bytes) 0) (ltb (length bytes) 8) refl e
  where
    by_length : (none short : Bool) → ltb (length bytes) 8 ≡ short → cond none nothing (cond short partial (header_front bytes (header_of limits bytes))) ≡ x → 8 ≤ length bytes
    by_length true short h d = absurd (subst IsFound (sym d) found)
    by_length false true h d = absurd (subst IsFound (sym d) found)
    by_length false false h d = ltb-false _ _ h

-- what comes after a whole message isn't looked at
header_front-stays : (bytes more : List ℕ) (h : Result Head BadHeader) (x : Front) → 8 ≤ length bytes → IsFound x → header_front bytes h ≡ x → header_front (bytes ++ more) h ≡ x
header_front-stays bytes more (Err f) x long found e = e
header_front-stays bytes more (Ok head) x long found e = by_size (ltb (length bytes) head.length) refl e
  where
    by_size : (short : Bool) → ltb (length bytes) head.length ≡ short → cond short partial (body_front head (object_of head.order (take (head.length - 8) (drop 8 bytes)))) ≡ x → header_front (bytes ++ more) (Ok head) ≡ x
    by_size true h d = absurd (subst IsFound (sym d) found)
    by_size false h d =
        let fits : head.length ≤ length bytes = ltb-false _ _ h in
        let enough : ltb (length (bytes ++ more)) head.length ≡ false = le-ltb _ _ (omega (arith, length-append bytes more, fits)) in
        let later : drop 8 (bytes ++ more) ≡ drop 8 bytes ++ more = drop-append-le 8 bytes more long in
        let same_body : take (head.length - 8) (drop 8 bytes ++ more) ≡ take (head.length - 8) (drop 8 bytes) = take-append-le (head.length - 8) (drop 8 bytes) more (omega (arith, length-drop 8 bytes, fits)) in
        rw (enough, later, same_body) d

-- what is found stays, whatever follows
pub front_stays : (limits : Limits) (bytes more : List ℕ) (x : Front) → IsFound x → front_of limits bytes ≡ x → front_of limits (bytes ++ more) ≡ x
front_stays limits bytes more x found e =
    let long = header_stands limits bytes x found e in
    front_judged limits (bytes ++ more) (omega (arith, length-append bytes more, long)) ∙ ap (header_front (bytes ++ more)) (header_of-longer limits bytes more long) ∙ header_front-stays bytes more (header_of limits bytes) x long found (sym (front_judged limits bytes long) ∙ e)

-- ---- messages

-- no whole message is in front
abbrev pub IsOver : Front → Type 0
IsOver front = (n : ℕ) (m : Message) → front ≡ whole n m → ⊥

pub over : (place : ℕ) (front : Front) (ending : Ending) → EndsAt place front ending → IsOver front
over place nothing ending h n m e = absurd cc
over place partial ending h n m e = absurd cc
over place (fault code at) ending h n m e = absurd cc
over place (whole k o) ending h n m e = h

-- the first message of bytes is in front of all that follows
pub first_stands : (limits : Limits) (x rest frame all : List ℕ) (m : Message) → x ≡ frame ++ rest → front_of limits frame ≡ whole (length frame) m → front_of limits (x ++ all) ≡ whole (length frame) m
first_stands limits x rest frame all m parts e = ap (λ l. front_of limits (l ++ all)) parts ∙ ap (front_of limits) (append_assoc frame rest all) ∙ front_stays limits frame (rest ++ all) (whole (length frame) m) tt e

-- bytes that begin with a message have it as their first
pub record Parts (limits : Limits) (place : ℕ) (frame later body rest : List ℕ) (here : Message) (ms : List Message) : Type 0 where
  pub others : List ℕ
  pub messages : List Message
  pub bytes : later ≡ others ++ rest
  pub body_is : body ≡ frame ++ others
  pub first : ms ≡ moved place here ∷ messages
  pub frames : Frames limits (place + length frame) others messages

pub parted : (limits : Limits) (place : ℕ) (frame later body rest : List ℕ) (here : Message) (ms : List Message) → frame ++ later ≡ body ++ rest → front_of limits frame ≡ whole (length frame) here → Frames limits place body ms → IsOver (front_of limits rest) → Parts limits place frame later body rest here ms
parted limits place frame later body rest here [] e front f o =
    let same : rest ≡ frame ++ later = ap (λ l. l ++ rest) (sym f) ∙ sym e in
    absurd (o (length frame) here (ap (front_of limits) same ∙ front_stays limits frame later (whole (length frame) here) tt front))
parted limits place frame later body rest here (m ∷ ms) e front f o =
    let one : whole (length frame) here ≡ whole (length f.0) f.3.0 = sym (front_stays limits frame later (whole (length frame) here) tt front) ∙ ap (front_of limits) e ∙ first_stands limits body f.1 f.0 rest f.3.0 f.2 f.3.1 in
    let size = same_size (length frame) (length f.0) here f.3.0 one in
    let both : frame ++ later ≡ f.0 ++ (f.1 ++ rest) = e ∙ ap (λ l. l ++ rest) f.2 ∙ append_assoc f.0 f.1 rest in
    let frame_is : frame ≡ f.0 = sym (take_at frame later (length frame) refl) ∙ ap (take (length frame)) both ∙ take_at f.0 (f.1 ++ rest) (length frame) (sym size) in
    let later_is : later ≡ f.1 ++ rest = sym (drop_at frame later (length frame) refl) ∙ ap (drop (length frame)) both ∙ drop_at f.0 (f.1 ++ rest) (length frame) (sym size) in
    record {
      others = f.1;
      messages = ms;
      bytes = later_is;
      body_is = f.2 ∙ ap (λ l. l ++ f.1) (sym frame_is);
      first = ap (λ x. x ∷ ms) (f.3.2 ∙ ap (moved place) (sym (same_message (length frame) (length f.0) here f.3.0 one)));
      frames = subst (λ n. Frames limits (place + n) f.1 ms) (sym size) f.4;
    }

same_frames : (limits : Limits) (place : ℕ) (x y p q : List ℕ) (ms ns : List Message) → x ++ p ≡ y ++ q → Frames limits place x ms → Frames limits place y ns → IsOver (front_of limits p) → IsOver (front_of limits q) → (x ≡ y) × (ms ≡ ns) × (p ≡ q)
same_frames limits place x y p q [] [] e f g u v = (f ∙ sym g, refl, ap (λ l. l ++ p) (sym f) ∙ e ∙ ap (λ l. l ++ q) g)
same_frames limits place x y p q [] (n ∷ ns) e f g u v =
    let here : p ≡ y ++ q = ap (λ l. l ++ p) (sym f) ∙ e in
    absurd (u (length g.0) g.3.0 (ap (front_of limits) here ∙ first_stands limits y g.1 g.0 q g.3.0 g.2 g.3.1))
same_frames limits place x y p q (m ∷ ms) ns e f g u v =
    let both : f.0 ++ (f.1 ++ p) ≡ y ++ q = sym (append_assoc f.0 f.1 p) ∙ ap (λ l. l ++ p) (sym f.2) ∙ e in
    let part = parted limits place f.0 (f.1 ++ p) y q f.3.0 ns both f.3.1 g v in
    let rest = same_frames limits (place + length f.0) f.1 part.others p q ms part.messages part.bytes f.4 part.frames u v in
    (f.2 ∙ ap (λ l. f.0 ++ l) rest.0 ∙ sym part.body_is, ap (λ l. l ∷ ms) f.3.2 ∙ ap (λ l. moved place f.3.0 ∷ l) rest.1 ∙ sym part.first, rest.2)

-- what is in front decides the ending
same_ending : (place : ℕ) (front : Front) (x y : Ending) → EndsAt place front x → EndsAt place front y → x ≡ y
same_ending place nothing x y f g = f ∙ sym g
same_ending place partial x y f g = f ∙ sym g
same_ending place (fault code at) x y f g = f ∙ sym g
same_ending place (whole n m) x y f g = absurd f

messages_once : (limits : Limits) (place : ℕ) (bytes others : List ℕ) (ms ns : List Message) (x y : Ending) → bytes ≡ others → AreMessages limits place bytes ms x → AreMessages limits place others ns y → (ms ≡ ns) × (x ≡ y)
messages_once limits place bytes others ms ns x y same p q =
    let both = same_frames limits place p.body q.body p.rest q.rest ms ns (sym p.parts ∙ same ∙ q.parts) p.frames q.frames (over _ _ x p.ends) (over _ _ y q.ends) in
    let moved_end : EndsAt (place + length p.body) (front_of limits p.rest) y = rw (both.0, both.2) q.ends in
    (both.1, same_ending _ _ x y p.ends moved_end)

-- ---- handshakes

head_is : (a b : ℕ) (x y : List ℕ) → a ∷ x ≡ b ∷ y → a ≡ b
head_is a b x y e = cc

tail_is : (a b : ℕ) (x y : List ℕ) → a ∷ x ≡ b ∷ y → x ≡ y
tail_is a b x y e = cc

-- the first NUL ends the credentials
same_credentials : (c d x y : List ℕ) → HasNoNul c → HasNoNul d → c ++ 0 ∷ x ≡ d ++ 0 ∷ y → (c ≡ d) × (x ≡ y)
same_credentials [] [] x y p q e = (refl, tail_is 0 0 x y e)
same_credentials [] (k ∷ d) x y p q e = absurd (omega (arith, All-head (λ b. 0 < b) k d q, head_is 0 k x (d ++ 0 ∷ y) e))
same_credentials (k ∷ c) [] x y p q e = absurd (omega (arith, All-head (λ b. 0 < b) k c p, head_is k 0 (c ++ 0 ∷ x) y e))
same_credentials (k ∷ c) (l ∷ d) x y p q e =
    let rest = same_credentials c d x y (All-tail (λ b. 0 < b) k c p) (All-tail (λ b. 0 < b) l d q) (tail_is k l (c ++ 0 ∷ x) (d ++ 0 ∷ y) e) in
    (rw (head_is k l (c ++ 0 ∷ x) (d ++ 0 ∷ y) e, rest.0) refl, rest.1)

-- a NUL among the first bytes
nul_within : (c x : List ℕ) (n : ℕ) → length c < n → HasNoNul (take n (c ++ 0 ∷ x)) → ⊥
nul_within [] x zero short h = omega (arith, short)
nul_within [] x (suc n) short h = omega (arith, All-head (λ b. 0 < b) 0 (take n x) h)
nul_within (k ∷ c) x zero short h = omega (arith, short)
nul_within (k ∷ c) x (suc n) short h = nul_within c x n (omega (arith, short)) (All-tail (λ b. 0 < b) k (take n (c ++ 0 ∷ x)) h)

-- a handshake in front of bytes, its NUL in front of the rest
regrouped : (greeting c rest : List ℕ) → greeting ≡ c ++ 0 ∷ [] → greeting ++ rest ≡ c ++ 0 ∷ rest
regrouped greeting c rest e = ap (λ l. l ++ rest) e ∙ append_assoc c (0 ∷ []) rest

-- bytes have one handshake at most
pub same_greeting : (limits : Limits) (a b x y : List ℕ) (g h : ℕ) → IsGreeting limits a g → IsGreeting limits b h → a ++ x ≡ b ++ y → (a ≡ b) × (g ≡ h) × (x ≡ y)
same_greeting limits a b x y g h p q e =
    let both = same_credentials p.credentials q.credentials x y p.no_nul q.no_nul (sym (regrouped a p.credentials x p.parts) ∙ e ∙ regrouped b q.credentials y q.parts) in
    (p.parts ∙ ap (λ l. l ++ 0 ∷ []) both.0 ∙ sym q.parts, p.last ∙ ap capability_of both.0 ∙ sym q.last, both.1)

-- bytes with no NUL among the first have no handshake
pub no_greeting : (limits : Limits) (bytes a x : List ℕ) (g : ℕ) → HasNoNul (take (limits.greeting + 1) bytes) → IsGreeting limits a g → bytes ≡ a ++ x → ⊥
no_greeting limits bytes a x g clean p e =
    nul_within p.credentials x (limits.greeting + 1) (omega (arith, p.short)) (subst (λ l. HasNoNul (take (limits.greeting + 1) l)) (e ∙ regrouped a p.credentials x p.parts) clean)

some_is : (g h : ℕ) → g ≡ h → Some g ≡ Some h
some_is g h e = ap (λ n. Some n) e

greeted_once : (limits : Limits) (bytes : List ℕ) (g h : ℕ) (ms ns : List Message) (x y : Ending) → IsGreeted limits bytes g ms x → IsGreeted limits bytes h ns y → (Some g ≡ Some h) × (ms ≡ ns) × (x ≡ y)
greeted_once limits bytes g h ms ns x y p q =
    let both = same_greeting limits p.greeting q.greeting p.others q.others g h p.greets q.greets (sym p.parts ∙ q.parts) in
    let holds : AreMessages limits (length p.greeting) q.others ns y = subst (λ l. AreMessages limits (length l) q.others ns y) (sym both.0) q.holds in
    let once = messages_once limits (length p.greeting) p.others q.others ms ns x y both.2 p.holds holds in
    (some_is g h both.1, once.0, once.1)

pub read_once : StreamIsReadOnce
read_once limits bytes None None ms ns x y p q = (refl, p.1 ∙ sym q.1, p.2 ∙ sym q.2)
read_once limits bytes None (Some h) ms ns x y p q = absurd (no_greeting limits bytes q.greeting q.others h p.0 q.greets q.parts)
read_once limits bytes (Some g) None ms ns x y p q = absurd (no_greeting limits bytes p.greeting p.others g q.0 p.greets p.parts)
read_once limits bytes (Some g) (Some h) ms ns x y p q = greeted_once limits bytes g h ms ns x y p q
