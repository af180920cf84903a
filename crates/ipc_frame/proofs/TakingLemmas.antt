-- How much is taken of a piece.
use Rattle.std.proofs.Common.{◌≡◌, ◌≤◌, ◌<◌, ◌+◌, ◌-◌, ◌⊎◌, ℕ, min, true, false, List, [], ◌∷◌, ◌++◌, length, take, drop, get_or, ltb, Result, Ok, Err, refl, sym, ap, subst, ◌∙◌, inl, inr, arith, append_assoc}
use Rattle.std.proofs.lemmas.Bool.{lt-ltb, le-ltb, cases_lt}
use Rattle.std.proofs.lemmas.List.{append-nil, length-append, take-append-drop, take-append-le, length-take, length-drop, take_all, take-take, take_more, drop-take, get_or-append-add, get_or-take, take_at}
use Rattle.std.proofs.lemmas.List.Elements.{All-nil, All-append, All-take, All-get_or, All-more}
use Rattle.q_values.specs.Bytes.{HasNoNul}
use Rattle.q_values.specs.declared.limits.Limits.{Limits}
use Rattle.ipc_frame.specs.Stream.{front_of, header_of, header_front}
use Rattle.ipc_frame.specs.Taking.{Takes, IsUnfinished, NeedsGreeting, NeedsMessage, UpToNul, EndsInNul}
use Rattle.ipc_frame.specs.Holding.{IsOneGreeting, IsOneMessage, reach, extent_by, room}
use Rattle.ipc_frame.specs.declared.head.Head.{Head}
use Rattle.ipc_frame.specs.declared.head.BadHeader.{BadHeader}
use Rattle.ipc_frame.proofs.FrontLemmas.{header_of-front, front_by, unfinished_header, unfinished_body, finished, header_fits}

-- ---- in two steps

-- a part of a piece, and then a part of the rest
pub take-both : (a c : ℕ) (held piece : List ℕ) → a ≤ length piece → (held ++ take a piece) ++ take c (drop a piece) ≡ held ++ take (a + c) piece
take-both a c held piece within =
    let cut : take a (take (a + c) piece) ≡ take a piece = take-take a (a + c) piece (omega arith) in
    let rest : drop a (take (a + c) piece) ≡ take c (drop a piece) = drop-take a c piece in
    append_assoc held (take a piece) (take c (drop a piece)) ∙ ap (λ l. held ++ l) (ap (λ l. l ++ take c (drop a piece)) (sym cut) ∙ ap (λ l. take a (take (a + c) piece) ++ l) (sym rest) ∙ take-append-drop a (take (a + c) piece))

pub takes_twice : (IsNeeded : List ℕ → Type 0) (held piece : List ℕ) (a c : ℕ) → a ≤ length piece → ((k : ℕ) → k < a → IsNeeded (held ++ take k piece)) → Takes IsNeeded (held ++ take a piece) (drop a piece) c → Takes IsNeeded held piece (a + c)
takes_twice IsNeeded held piece a c within first p = record {
  within = let w = p.within in omega (arith, length-drop a piece);
  before = λ k h. by_place k h (cases_lt k a);
  enough = λ h n. let h' : c < length (drop a piece) = omega (arith, h, length-drop a piece) in p.enough h' (subst IsNeeded (sym (take-both a c held piece within)) n);
}
  where
    by_place : (k : ℕ) → k < a + c → (k < a) ⊎ (a ≤ k) → IsNeeded (held ++ take k piece)
    by_place k h (inl less) = first k less
    by_place k h (inr more) =
        let later : k - a < c = omega arith in
        let place : a + (k - a) ≡ k = omega arith in
        subst IsNeeded (take-both a (k - a) held piece within ∙ ap (λ i. held ++ take i piece) place) (p.before (k - a) later)

-- nothing is taken of an empty piece
takes_none : (IsNeeded : List ℕ → Type 0) (held piece : List ℕ) → length piece ≡ 0 → Takes IsNeeded held piece 0
takes_none IsNeeded held piece empty = record {
  within = omega arith;
  before = λ k h. absurd (omega (arith, h));
  enough = λ h n. absurd (omega (arith, h, empty));
}

-- ---- messages

-- a header, and the body after it
both_take : (limits : Limits) (held piece : List ℕ) (a c : ℕ) → a ≡ min (length piece) (8 - length held) → (8 ≤ length (held ++ take a piece) → Takes (NeedsMessage limits) (held ++ take a piece) (drop a piece) c) → (length (held ++ take a piece) < 8 → c ≡ 0) → Takes (NeedsMessage limits) held piece (a + c)
both_take limits held piece a c e later none =
    takes_twice (NeedsMessage limits) held piece a c (omega arith) before (by_length (cases_lt (length (held ++ take a piece)) 8))
  where
    before : (k : ℕ) → k < a → NeedsMessage limits (held ++ take k piece)
    before k h = unfinished_header limits (held ++ take k piece) (omega (arith, h, e, length-append held (take k piece), length-take k piece))

    by_length : (length (held ++ take a piece) < 8) ⊎ (8 ≤ length (held ++ take a piece)) → Takes (NeedsMessage limits) (held ++ take a piece) (drop a piece) c
    by_length (inl short) =
        let all : length (drop a piece) ≡ 0 = omega (arith, short, e, length-append held (take a piece), length-take a piece, length-drop a piece) in
        subst (Takes (NeedsMessage limits) (held ++ take a piece) (drop a piece)) (sym (none short)) (takes_none (NeedsMessage limits) (held ++ take a piece) (drop a piece) all)
    by_length (inr long) = later long

pub message_takes : (limits : Limits) (held piece then rest : List ℕ) (a c : ℕ) → a ≡ min (length piece) (8 - length held) → then ≡ held ++ take a piece → rest ≡ drop a piece → (8 ≤ length then → Takes (NeedsMessage limits) then rest c) → (length then < 8 → c ≡ 0) → Takes (NeedsMessage limits) held piece (a + c)
message_takes limits held piece then rest a c e grown left later none =
    both_take limits held piece a c e
    (subst (λ l. 8 ≤ length l → Takes (NeedsMessage limits) l (drop a piece) c) grown (subst (λ r. 8 ≤ length then → Takes (NeedsMessage limits) then r c) left later))
    (subst (λ l. length l < 8 → c ≡ 0) grown none)

longer : (held piece : List ℕ) (k : ℕ) → length held ≤ length (held ++ take k piece)
longer held piece k = omega (arith, length-append held (take k piece))

-- the front where a header is there and more of a piece is taken
front_more : (limits : Limits) (held piece : List ℕ) (k : ℕ) (x : Result Head BadHeader) → 8 ≤ length held → x ≡ header_of limits (take 8 held) → front_of limits (held ++ take k piece) ≡ header_front (held ++ take k piece) x
front_more limits held piece k x long e =
    let enough : 8 ≤ length (held ++ take k piece) = omega (arith, longer held piece k) in
    front_by limits (held ++ take k piece) x enough (e ∙ ap (header_of limits) (sym (take-append-le 8 held (take k piece) long)))

-- a body up to the message's end
pub body_takes : (limits : Limits) (held piece : List ℕ) (head : Head) (taken : ℕ) → Ok head ≡ header_of limits (take 8 held) → taken ≡ min (length piece) (head.length - length held) → 8 ≤ length held → Takes (NeedsMessage limits) held piece taken
body_takes limits held piece head taken e size long = record {
  within = omega arith;
  before = λ k h. subst (λ f. IsUnfinished f) (sym (front_more limits held piece k (Ok head) long e)) (unfinished_body (held ++ take k piece) head (omega (arith, h, size, length-append held (take k piece), length-take k piece)));
  enough = λ h n. finished (held ++ take taken piece) head (omega (arith, h, size, length-append held (take taken piece), length-take taken piece)) (subst (λ f. IsUnfinished f) (front_more limits held piece taken (Ok head) long e) n);
}

-- nothing is taken after a faulty header
pub bad_takes : (limits : Limits) (held piece : List ℕ) (f : BadHeader) → Err f ≡ header_of limits (take 8 held) → 8 ≤ length held → Takes (NeedsMessage limits) held piece 0
bad_takes limits held piece f e long = record {
  within = omega arith;
  before = λ k h. absurd (omega (arith, h));
  enough = λ h n. subst (λ g. IsUnfinished g) (front_more limits held piece 0 (Err f) long e) n;
}

-- the length up to which bytes are taken, by a header
pub reach_by : (limits : Limits) (bytes : List ℕ) (x : Result Head BadHeader) → 8 ≤ length bytes → x ≡ header_of limits (take 8 bytes) → reach limits bytes ≡ extent_by x
reach_by limits bytes x long e =
    let enough : ltb (length bytes) 8 ≡ false = le-ltb _ _ long in
    rw enough (ap extent_by (header_of-front limits bytes long ∙ sym e))

pub body_one : (limits : Limits) (held piece : List ℕ) (head : Head) (taken : ℕ) → Ok head ≡ header_of limits (take 8 held) → taken ≡ min (length piece) (head.length - length held) → 8 ≤ length held → IsOneMessage limits held → IsOneMessage limits (held ++ take taken piece)
body_one limits held piece head taken e size long p =
    let enough : 8 ≤ length (held ++ take taken piece) = omega (arith, longer held piece taken) in
    let before : reach limits held ≡ head.length = reach_by limits held (Ok head) long e in
    let after : reach limits (held ++ take taken piece) ≡ head.length = reach_by limits (held ++ take taken piece) (Ok head) enough (e ∙ ap (header_of limits) (sym (take-append-le 8 held (take taken piece) long))) in
    let short = p.short in
    record { short = omega (arith, before, after, short, size, length-append held (take taken piece), length-take taken piece) }

-- up to a header's end nothing is too much
pub header_one : (limits : Limits) (bytes : List ℕ) → length bytes ≤ 8 → IsOneMessage limits bytes
header_one limits bytes short = by_length (cases_lt (length bytes) 8)
  where
    at_header : (x : Result Head BadHeader) → x ≡ header_of limits bytes → 8 ≤ extent_by x
    at_header (Err f) e = omega arith
    at_header (Ok head) e = let fits = header_fits limits bytes head (sym e) in omega (arith, fits.0)

    by_length : (length bytes < 8) ⊎ (8 ≤ length bytes) → IsOneMessage limits bytes
    by_length (inl less) = let l : ltb (length bytes) 8 ≡ true = lt-ltb _ _ less in record { short = rw l (omega arith) }
    by_length (inr long) = let l : ltb (length bytes) 8 ≡ false = le-ltb _ _ long in record { short = rw l (omega (arith, at_header (header_of limits bytes) refl)) }

-- what is held has room
pub one_fits : (limits : Limits) (bytes : List ℕ) → IsOneMessage limits bytes → length bytes ≤ room limits
one_fits limits bytes p = omega (arith, p.short, bounded (cases_lt (length bytes) 8))
  where
    at_header : (x : Result Head BadHeader) → x ≡ header_of limits bytes → extent_by x ≤ room limits
    at_header (Err f) e = omega arith
    at_header (Ok head) e = let fits = header_fits limits bytes head (sym e) in omega (arith, fits.1)

    bounded : (length bytes < 8) ⊎ (8 ≤ length bytes) → reach limits bytes ≤ room limits
    bounded (inl less) = let l : ltb (length bytes) 8 ≡ true = lt-ltb _ _ less in rw l (omega arith)
    bounded (inr long) = let l : ltb (length bytes) 8 ≡ false = le-ltb _ _ long in rw l (at_header (header_of limits bytes) refl)

-- the first bytes up to a header's end are not too many
pub first_one : (limits : Limits) (held piece then : List ℕ) (a : ℕ) → a ≡ min (length piece) (8 - length held) → then ≡ held ++ take a piece → IsOneMessage limits held → IsOneMessage limits then
first_one limits held piece then a e grown p = by_length (cases_lt (length held) 8)
  where
    by_length : (length held < 8) ⊎ (8 ≤ length held) → IsOneMessage limits then
    by_length (inl short) = header_one limits then (omega (arith, short, e, ap length grown, length-append held (take a piece), length-take a piece))
    by_length (inr long) =
        let none : a ≡ 0 = omega arith in
        let same : held ≡ then = sym (append-nil held) ∙ ap (λ k. held ++ take k piece) (sym none) ∙ sym grown in
        subst (IsOneMessage limits) same p

-- there is room for the rest of a message
pub rest_fits : (limits : Limits) (then held rest : List ℕ) (c small large : ℕ) → then ≡ held → room limits ≤ small → small ≤ large → IsOneMessage limits (then ++ take c rest) → length held + length (take c rest) ≤ large
rest_fits limits then held rest c small large same roomy more p =
    let short = one_fits limits (then ++ take c rest) p in
    omega (arith, short, roomy, more, ap length same, length-append then (take c rest))

-- what is held in the end
pub held_all : (held piece then rest new : List ℕ) (a c : ℕ) → a ≡ min (length piece) (8 - length held) → then ≡ held ++ take a piece → rest ≡ drop a piece → new ≡ then ++ take c rest → new ≡ held ++ take (a + c) piece
held_all held piece then rest new a c e grown left made =
    made ∙ ap (λ l. l ++ take c rest) grown ∙ ap (λ r. (held ++ take a piece) ++ take c r) left ∙ take-both a c held piece (omega arith)

-- ---- handshakes

-- no 0 at the end, and none before it
pub no_nul_held : (held : List ℕ) → HasNoNul (take (length held - 1) held) → (EndsInNul held → ⊥) → HasNoNul held
no_nul_held [] p q = All-nil (λ b. 0 < b)
no_nul_held (x ∷ xs) p q =
    let held = x ∷ xs in
    let last : length (x ∷ xs) - 1 < length (x ∷ xs) = omega arith in
    let all : take (length (x ∷ xs) - 1 + 1) (x ∷ xs) ≡ x ∷ xs = take_all (length (x ∷ xs) - 1 + 1) (x ∷ xs) (omega arith) in
    subst HasNoNul all (All-more (λ b. 0 < b) (x ∷ xs) (length (x ∷ xs) - 1) 0 last p (by_last (cases_lt 0 (get_or (x ∷ xs) (length (x ∷ xs) - 1) 0))))
  where
    by_last : (0 < get_or (x ∷ xs) (length (x ∷ xs) - 1) 0) ⊎ (get_or (x ∷ xs) (length (x ∷ xs) - 1) 0 ≤ 0) → 0 < get_or (x ∷ xs) (length (x ∷ xs) - 1) 0
    by_last (inl some) = some
    by_last (inr none) = absurd (q (record { some = omega arith; nul = omega (arith, none) }))

-- a 0 among bytes that have none
nul_at : (held piece : List ℕ) (taken : ℕ) → 0 < taken → taken ≤ length piece → get_or piece (taken - 1) 0 ≡ 0 → HasNoNul (held ++ take taken piece) → ⊥
nul_at held piece taken some within nul p =
    let place : length held + (taken - 1) < length (held ++ take taken piece) = omega (arith, length-append held (take taken piece), length-take taken piece) in
    let here : get_or (held ++ take taken piece) (length held + (taken - 1)) 0 ≡ 0 = get_or-append-add held (take taken piece) (taken - 1) 0 ∙ get_or-take taken piece (taken - 1) 0 (omega arith) ∙ nul in
    omega (arith, here, All-get_or (λ b. 0 < b) (held ++ take taken piece) (length held + (taken - 1)) 0 place p)

-- a handshake up to its NUL
pub greeting_takes : (limits : Limits) (held piece : List ℕ) (most taken : ℕ) → HasNoNul held → length held ≤ limits.greeting → most ≡ min (length piece) (limits.greeting - length held + 1) → UpToNul piece most taken → Takes (NeedsGreeting limits) held piece taken
greeting_takes limits held piece most taken clean short e p = record {
  within = let w = p.within in omega arith;
  before = λ k h. record {
    no_nul = All-append (λ b. 0 < b) held (take k piece) clean (clean_part k h);
    short = let w = p.within in omega (arith, h, length-append held (take k piece), length-take k piece);
  };
  enough = λ h n. by_end h n (cases_lt taken most);
}
  where
    clean_part : (k : ℕ) → k < taken → HasNoNul (take k piece)
    clean_part k h = subst HasNoNul (take-take k (taken - 1) piece (omega arith)) (All-take (λ b. 0 < b) k (take (taken - 1) piece) p.no_nul)

    by_end : taken < length piece → NeedsGreeting limits (held ++ take taken piece) → (taken < most) ⊎ (most ≤ taken) → ⊥
    by_end h n (inl less) = let end = p.ends less in nul_at held piece taken end.0 (omega arith) end.1 n.no_nul
    by_end h n (inr more) = let w = p.within in let s = n.short in omega (arith, h, length-append held (take taken piece), length-take taken piece)

-- no byte is taken past a handshake
pub greeting_one : (limits : Limits) (held piece : List ℕ) (most taken : ℕ) → HasNoNul held → length held ≤ limits.greeting → most ≡ min (length piece) (limits.greeting - length held + 1) → UpToNul piece most taken → IsOneGreeting limits (held ++ take taken piece)
greeting_one limits held piece most taken clean short e p = record {
  no_nul = by_count (cases_lt 0 taken);
  short = let w = p.within in omega (arith, length-append held (take taken piece), length-take taken piece);
}
  where
    by_count : (0 < taken) ⊎ (taken ≤ 0) → HasNoNul (take (length (held ++ take taken piece) - 1) (held ++ take taken piece))
    by_count (inl some) =
        let w = p.within in
        let front = held ++ take (taken - 1) piece in
        let last : taken - 1 < length piece = omega arith in
        let one : taken - 1 + 1 ≡ taken = omega arith in
        let parts : held ++ take taken piece ≡ (held ++ take (taken - 1) piece) ++ get_or piece (taken - 1) 0 ∷ [] = ap (λ i. held ++ take i piece) (sym one) ∙ ap (λ l. held ++ l) (take_more piece (taken - 1) 0 last) ∙ sym (append_assoc held (take (taken - 1) piece) (get_or piece (taken - 1) 0 ∷ [])) in
        let size : length (held ++ take (taken - 1) piece) ≡ length (held ++ take taken piece) - 1 = omega (arith, length-append held (take taken piece), length-take taken piece, length-append held (take (taken - 1) piece), length-take (taken - 1) piece) in
        let cut : take (length (held ++ take taken piece) - 1) (held ++ take taken piece) ≡ held ++ take (taken - 1) piece = ap (take (length (held ++ take taken piece) - 1)) parts ∙ take_at (held ++ take (taken - 1) piece) (get_or piece (taken - 1) 0 ∷ []) (length (held ++ take taken piece) - 1) size in
        subst HasNoNul (sym cut) (All-append (λ b. 0 < b) held (take (taken - 1) piece) clean p.no_nul)
    by_count (inr none) =
        let zero_is : taken ≡ 0 = omega arith in
        let same : held ≡ held ++ take taken piece = sym (append-nil held) ∙ ap (λ i. held ++ take i piece) (sym zero_is) in
        All-take (λ b. 0 < b) (length (held ++ take taken piece) - 1) (held ++ take taken piece) (subst HasNoNul same clean)
