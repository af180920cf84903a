-- All bytes are a stream.
use Rattle.std.proofs.Common.{◌≡◌, ◌≤◌, ◌<◌, ◌+◌, ◌-◌, ◌⊎◌, ℕ, zero, suc, Bool, true, false, cond, List, [], ◌∷◌, ◌++◌, length, take, drop, ltb, eqb, Option, Some, None, Result, Ok, Err, refl, sym, ap, subst, ◌∙◌, inl, inr, arith, append_assoc}
use Rattle.std.proofs.lemmas.Bool.{ltb-false, cases_lt}
use Rattle.std.proofs.lemmas.List.{length-append, length-take-le, length-drop, take-append-drop, take-take, drop-take, take-append-le}
use Rattle.std.proofs.lemmas.List.Elements.{All-nil, All-cons, All-take}
use Rattle.ipc_codec.specs.Reading.{object_of}
use Rattle.ipc_codec.specs.declared.refusal.DecodeRefusal.{DecodeRefusal}
use Rattle.ipc_codec.specs.declared.refusal.DecodeRefusal.TheVariants as r
use Rattle.q_values.specs.Bytes.{HasNoNul}
use Rattle.q_values.specs.Tree.{Tree}
use Rattle.q_values.specs.declared.limits.Limits.{Limits}
use Rattle.ipc_frame.specs.Laws.{StreamIsRead}
use Rattle.ipc_frame.specs.Stream.{Message, Ending, closed, truncated, bad, Front, nothing, partial, whole, fault, built, front_of, header_of, header_front, body_front, moved, Frames, EndsAt, IsStream, AreMessages, capability_of, ungreeted}
use Rattle.ipc_frame.specs.declared.bad.Bad.TheVariants as b
use Rattle.ipc_frame.specs.declared.head.Head.{Head}
use Rattle.ipc_frame.specs.declared.head.BadHeader.{BadHeader}
use Rattle.ipc_frame.proofs.FrontLemmas.{front_judged, header_of-front, header_fits, front_whole}
use Rattle.ipc_frame.proofs.UniqueLemmas.{same_size, header_stands}

-- ---- a whole message in front of bytes is one by itself too

-- a body that makes a whole message makes one of its header's length
pub body_size : (head : Head) (x : Result (Tree × ℕ) DecodeRefusal) (k : ℕ) (m : Message) → body_front head x ≡ whole k m → head.length ≡ k
body_size head (Ok x) k m e = by_fit (eqb (x.1 + 8) head.length) e
  where
    by_fit : (fits : Bool) → cond fits (whole head.length (record { sync = head.sync; content = built x.0 })) (fault b.Object (x.1 + 8)) ≡ whole k m → head.length ≡ k
    by_fit true d = same_size head.length k _ m d
    by_fit false d = absurd cc
body_size head (Err (r.NotBuilt at)) k m e = same_size head.length k _ m e
body_size head (Err (r.Truncated at)) k m e = absurd cc
body_size head (Err (r.BadType at)) k m e = absurd cc
body_size head (Err (r.BadShape at)) k m e = absurd cc
body_size head (Err (r.TooDeep at)) k m e = absurd cc
body_size head (Err r.NoMemory) k m e = absurd cc

-- the first message of bytes, by itself
record Alone (limits : Limits) (bytes : List ℕ) (n : ℕ) (m : Message) : Type 0 where
  pub some : 9 ≤ n
  pub within : n ≤ length bytes
  pub front : front_of limits (take n bytes) ≡ whole n m

alone_by : (limits : Limits) (bytes : List ℕ) (n : ℕ) (m : Message) (h : Result Head BadHeader) → 8 ≤ length bytes → header_of limits bytes ≡ h → header_front bytes h ≡ whole n m → Alone limits bytes n m
alone_by limits bytes n m (Err f) long e d = absurd cc
alone_by limits bytes n m (Ok head) long e d = by_size (ltb (length bytes) head.length) refl d
  where
    by_size : (short : Bool) → ltb (length bytes) head.length ≡ short → cond short partial (body_front head (object_of head.order (take (head.length - 8) (drop 8 bytes)))) ≡ whole n m → Alone limits bytes n m
    by_size true h d = absurd cc
    by_size false h d =
        let size : head.length ≡ n = body_size head (object_of head.order (take (head.length - 8) (drop 8 bytes))) n m d in
        let fits = header_fits limits bytes head e in
        let least : 9 ≤ n = omega (arith, fits.0, size) in
        let enough : n ≤ length bytes = omega (arith, ltb-false _ _ h, size) in
        let cut : length (take n bytes) ≡ n = length-take-le n bytes enough in
        let header : header_of limits (take n bytes) ≡ Ok head = header_of-front limits (take n bytes) (omega (arith, cut, least)) ∙ ap (header_of limits) (take-take 8 n bytes (omega (arith, least))) ∙ sym (header_of-front limits bytes long) ∙ e in
        let parts : 8 + (n - 8) ≡ n = omega (arith, least) in
        let later : drop 8 (take n bytes) ≡ take (n - 8) (drop 8 bytes) = ap (λ i. drop 8 (take i bytes)) (sym parts) ∙ drop-take 8 (n - 8) bytes in
        let same_body : take (head.length - 8) (drop 8 (take n bytes)) ≡ take (head.length - 8) (drop 8 bytes) = ap (take (head.length - 8)) later ∙ take-take (head.length - 8) (n - 8) (drop 8 bytes) (omega (arith, size)) in
        record {
          some = least;
          within = enough;
          front = front_judged limits (take n bytes) (omega (arith, cut, least)) ∙ ap (header_front (take n bytes)) header ∙ front_whole (take n bytes) head (omega (arith, cut, size)) ∙ ap (λ l. body_front head (object_of head.order l)) same_body ∙ d;
        }

alone : (limits : Limits) (bytes : List ℕ) (n : ℕ) (m : Message) → front_of limits bytes ≡ whole n m → Alone limits bytes n m
alone limits bytes n m e =
    let long = header_stands limits bytes (whole n m) tt e in
    alone_by limits bytes n m (header_of limits bytes) long refl (sym (front_judged limits bytes long) ∙ e)

-- ---- messages

-- some messages and an ending
abbrev pub Reads : Limits → ℕ → List ℕ → Type 0
Reads limits place bytes = (ms : List Message) × (x : Ending) × AreMessages limits place bytes ms x

-- nothing more is read
reads_end : (limits : Limits) (place : ℕ) (bytes : List ℕ) (x : Ending) → EndsAt (place + 0) (front_of limits bytes) x → Reads limits place bytes
reads_end limits place bytes x e = ([], x, record { body = []; rest = bytes; parts = refl; frames = refl; ends = e })

-- a message, and what is read after it
reads_more : (limits : Limits) (place n : ℕ) (bytes : List ℕ) (m : Message) → Alone limits bytes n m → Reads limits (place + n) (drop n bytes) → Reads limits place bytes
reads_more limits place n bytes m p q =
    let holds = q.2 in
    let size : length (take n bytes) ≡ n = length-take-le n bytes p.within in
    let front : front_of limits (take n bytes) ≡ whole (length (take n bytes)) m = p.front ∙ ap (λ k. whole k m) (sym size) in
    let others : Frames limits (place + length (take n bytes)) holds.body q.0 = subst (λ k. Frames limits (place + k) holds.body q.0) (sym size) holds.frames in
    let far : place + length (take n bytes ++ holds.body) ≡ (place + n) + length holds.body = omega (arith, length-append (take n bytes) holds.body, size) in (
      moved place m ∷ q.0,
      q.1,
      record {
        body = take n bytes ++ holds.body;
        rest = holds.rest;
        parts = sym (take-append-drop n bytes) ∙ ap (λ l. take n bytes ++ l) holds.parts ∙ sym (append_assoc (take n bytes) holds.body holds.rest);
        frames = (take n bytes, holds.body, refl, (m, front, refl), others);
        ends = subst (λ k. EndsAt k (front_of limits holds.rest) q.1) (sym far) holds.ends;
      },
    )

pub messages_read : (fuel : ℕ) (limits : Limits) (place : ℕ) (bytes : List ℕ) → length bytes < fuel → Reads limits place bytes
messages_read zero limits place bytes short = absurd (omega (arith, short))
messages_read (suc fuel) limits place bytes short =
    by_front (λ n some within. messages_read fuel limits (place + n) (drop n bytes) (omega (arith, short, some, within, length-drop n bytes))) (front_of limits bytes) refl
  where
    by_front : ((n : ℕ) → 9 ≤ n → n ≤ length bytes → Reads limits (place + n) (drop n bytes)) → (front : Front) → front_of limits bytes ≡ front → Reads limits place bytes
    by_front again nothing e = reads_end limits place bytes closed (rw e refl)
    by_front again partial e = reads_end limits place bytes truncated (rw e refl)
    by_front again (fault code at) e = reads_end limits place bytes (bad code (place + 0 + at)) (rw e refl)
    by_front again (whole n m) e = let p = alone limits bytes n m e in reads_more limits place n bytes m p (again n p.some p.within)

-- ---- handshakes

-- the first 0 of bytes, if there is one
abbrev Split : List ℕ → Type 0
Split bytes = (c : List ℕ) × (rest : List ℕ) × (bytes ≡ c ++ 0 ∷ rest) × HasNoNul c

split_more : (b : ℕ) (bytes : List ℕ) → 0 < b → Split bytes ⊎ HasNoNul bytes → Split (b ∷ bytes) ⊎ HasNoNul (b ∷ bytes)
split_more b bytes some (inl s) = inl (b ∷ s.0, s.1, ap (λ l. b ∷ l) s.2, All-cons (λ x. 0 < x) b s.0 some s.3)
split_more b bytes some (inr none) = inr (All-cons (λ x. 0 < x) b bytes some none)

split : (bytes : List ℕ) → Split bytes ⊎ HasNoNul bytes
split [] = inr (All-nil (λ x. 0 < x))
split (zero ∷ bytes) = inl ([], bytes, refl, All-nil (λ x. 0 < x))
split (suc b ∷ bytes) = split_more (suc b) bytes (omega arith) (split bytes)

-- some reading
abbrev IsRead : Limits → List ℕ → Type 0
IsRead limits bytes = (g : Option ℕ) × (ms : List Message) × (x : Ending) × IsStream limits bytes g ms x

ungreeted_read : (limits : Limits) (bytes : List ℕ) → HasNoNul (take (limits.greeting + 1) bytes) → IsRead limits bytes
ungreeted_read limits bytes clean = (None, [], ungreeted limits (length bytes), (clean, refl, refl))

greeted_read : (limits : Limits) (bytes c rest : List ℕ) → bytes ≡ c ++ 0 ∷ rest → HasNoNul c → length c ≤ limits.greeting → IsRead limits bytes
greeted_read limits bytes c rest parts clean short =
    let greeting = c ++ 0 ∷ [] in
    let later = messages_read (suc (length rest)) limits (length (c ++ 0 ∷ [])) rest (omega arith) in (
      Some (capability_of c),
      later.0,
      later.1,
      record {
        greeting = c ++ 0 ∷ [];
        others = rest;
        parts = parts ∙ sym (append_assoc c (0 ∷ []) rest);
        greets = record { credentials = c; parts = refl; no_nul = clean; short = short; last = refl };
        holds = later.2;
      },
    )

pub read : StreamIsRead
read limits bytes = by_split (split bytes)
  where
    by_length : (c rest : List ℕ) → bytes ≡ c ++ 0 ∷ rest → HasNoNul c → (limits.greeting < length c) ⊎ (length c ≤ limits.greeting) → IsRead limits bytes
    by_length c rest parts clean (inl long) =
        let cut : take (limits.greeting + 1) bytes ≡ take (limits.greeting + 1) c = ap (take (limits.greeting + 1)) parts ∙ take-append-le (limits.greeting + 1) c (0 ∷ rest) (omega (arith, long)) in
        ungreeted_read limits bytes (subst HasNoNul (sym cut) (All-take (λ x. 0 < x) (limits.greeting + 1) c clean))
    by_length c rest parts clean (inr short) = greeted_read limits bytes c rest parts clean short

    by_split : Split bytes ⊎ HasNoNul bytes → IsRead limits bytes
    by_split (inl s) = by_length s.0 s.1 s.2 s.3 (cases_lt limits.greeting (length s.0))
    by_split (inr none) = ungreeted_read limits bytes (All-take (λ x. 0 < x) (limits.greeting + 1) bytes none)
