-- What is at the front of bytes.
use Rattle.std.proofs.Common.{◌≡◌, ◌≤◌, ◌<◌, ◌+◌, ◌-◌, ℕ, zero, suc, Bool, true, false, cond, not, List, [], ◌∷◌, ◌++◌, length, take, drop, get_or, eqb, ltb, Result, Ok, Err, refl, sym, ap, subst, ◌∙◌, arith}
use Rattle.std.proofs.lemmas.Bool.{lt-ltb, le-ltb, ltb-false, eq-eqb}
use Rattle.std.proofs.Math.Dec.{eqb-suc-zero}
use Rattle.std.proofs.lemmas.List.{length-append, take-append-drop, take-append-le, length-take-le, length-drop, take_all}
use Rattle.ipc_codec.specs.Reading.{object_of, measured}
use Rattle.ipc_codec.specs.declared.refusal.DecodeRefusal.{DecodeRefusal}
use Rattle.ipc_codec.specs.declared.refusal.DecodeRefusal.TheVariants as r
use Rattle.q_values.specs.Tree.{Tree}
use Rattle.q_values.specs.declared.limits.Limits.{Limits}
use Rattle.ipc_frame.specs.Stream.{whole, fault, built, front_of, header_of, header_length, order_of, bad_header, header_front, body_front}
use Rattle.ipc_frame.specs.Framing.{StandsFront}
use Rattle.ipc_frame.specs.Taking.{IsUnfinished}
use Rattle.ipc_frame.specs.declared.next.Next.{Next}
use Rattle.ipc_frame.specs.declared.bad.Bad.TheVariants as b
use Rattle.ipc_frame.specs.declared.head.Head.{Head}
use Rattle.ipc_frame.specs.declared.head.BadHeader.{BadHeader}

-- what comes after a header isn't looked at
pub header_of-append : (limits : Limits) (h x : List ℕ) → length h ≡ 8 → header_of limits (h ++ x) ≡ header_of limits h
header_of-append limits (a ∷ b ∷ c ∷ d ∷ e ∷ f ∷ g ∷ i ∷ []) x size = refl
header_of-append limits [] x size = absurd (omega (arith, size))
header_of-append limits (a ∷ []) x size = absurd (omega (arith, size))
header_of-append limits (a ∷ b ∷ []) x size = absurd (omega (arith, size))
header_of-append limits (a ∷ b ∷ c ∷ []) x size = absurd (omega (arith, size))
header_of-append limits (a ∷ b ∷ c ∷ d ∷ []) x size = absurd (omega (arith, size))
header_of-append limits (a ∷ b ∷ c ∷ d ∷ e ∷ []) x size = absurd (omega (arith, size))
header_of-append limits (a ∷ b ∷ c ∷ d ∷ e ∷ f ∷ []) x size = absurd (omega (arith, size))
header_of-append limits (a ∷ b ∷ c ∷ d ∷ e ∷ f ∷ g ∷ []) x size = absurd (omega (arith, size))
header_of-append limits (a ∷ b ∷ c ∷ d ∷ e ∷ f ∷ g ∷ i ∷ j ∷ h) x size = absurd (omega (arith, size))

-- the first eight bytes decide it
pub header_of-front : (limits : Limits) (bytes : List ℕ) → 8 ≤ length bytes → header_of limits bytes ≡ header_of limits (take 8 bytes)
header_of-front limits bytes long =
    let eight : length (take 8 bytes) ≡ 8 = length-take-le 8 bytes long in
    ap (header_of limits) (sym (take-append-drop 8 bytes)) ∙ header_of-append limits (take 8 bytes) (drop 8 bytes) eight

pub header_of-longer : (limits : Limits) (bytes more : List ℕ) → 8 ≤ length bytes → header_of limits (bytes ++ more) ≡ header_of limits bytes
header_of-longer limits bytes more long =
    let longer : 8 ≤ length (bytes ++ more) = omega (arith, length-append bytes more) in
    header_of-front limits (bytes ++ more) longer ∙ ap (header_of limits) (take-append-le 8 bytes more long) ∙ sym (header_of-front limits bytes long)

nonzero : (n : ℕ) → 0 < n → eqb n 0 ≡ false
nonzero zero some = absurd (omega (arith, some))
nonzero (suc n) some = eqb-suc-zero n

-- where eight bytes are there, the header is judged
pub front_judged : (limits : Limits) (bytes : List ℕ) → 8 ≤ length bytes → front_of limits bytes ≡ header_front bytes (header_of limits bytes)
front_judged limits bytes long =
    let some : eqb (length bytes) 0 ≡ false = nonzero (length bytes) (omega arith) in
    let enough : ltb (length bytes) 8 ≡ false = le-ltb _ _ long in
    rw (some, enough) refl

-- what the first eight bytes say decides
pub front_by : (limits : Limits) (bytes : List ℕ) (x : Result Head BadHeader) → 8 ≤ length bytes → x ≡ header_of limits (take 8 bytes) → front_of limits bytes ≡ header_front bytes x
front_by limits bytes x long e = front_judged limits bytes long ∙ ap (header_front bytes) (header_of-front limits bytes long ∙ sym e)

-- less than a header
pub unfinished_header : (limits : Limits) (bytes : List ℕ) → length bytes < 8 → IsUnfinished (front_of limits bytes)
unfinished_header limits [] short = tt
unfinished_header limits (a ∷ bytes) short =
    let some : eqb (length (a ∷ bytes)) 0 ≡ false = nonzero (length (a ∷ bytes)) (omega arith) in
    let less : ltb (length (a ∷ bytes)) 8 ≡ true = lt-ltb _ _ short in
    rw (some, less) tt

-- less than a message
pub unfinished_body : (bytes : List ℕ) (head : Head) → length bytes < head.length → IsUnfinished (header_front bytes (Ok head))
unfinished_body bytes head short =
    let less : ltb (length bytes) head.length ≡ true = lt-ltb _ _ short in
    rw less tt

-- a whole message is one or shows a fault
pub finished_body : (head : Head) (x : Result (Tree × ℕ) DecodeRefusal) → IsUnfinished (body_front head x) → ⊥
finished_body head (Ok x) h = by_fit (eqb (x.1 + 8) head.length) h
  where
    by_fit : (fits : Bool) → IsUnfinished (cond fits (whole head.length (record { sync = head.sync; content = built x.0 })) (fault b.Object (x.1 + 8))) → ⊥
    by_fit true d = d
    by_fit false d = d
finished_body head (Err (r.NotBuilt at)) h = h
finished_body head (Err (r.Truncated at)) h = h
finished_body head (Err (r.BadType at)) h = h
finished_body head (Err (r.BadShape at)) h = h
finished_body head (Err (r.TooDeep at)) h = h
finished_body head (Err r.NoMemory) h = h

-- a whole message, by its body
pub front_whole : (bytes : List ℕ) (head : Head) → head.length ≤ length bytes → header_front bytes (Ok head) ≡ body_front head (object_of head.order (take (head.length - 8) (drop 8 bytes)))
front_whole bytes head long =
    let enough : ltb (length bytes) head.length ≡ false = le-ltb _ _ long in
    rw enough refl

pub finished : (bytes : List ℕ) (head : Head) → head.length ≤ length bytes → IsUnfinished (header_front bytes (Ok head)) → ⊥
finished bytes head long h = finished_body head (object_of head.order (take (head.length - 8) (drop 8 bytes))) (rw (front_whole bytes head long) at h)

-- a body that is exactly as long as its header says
pub front_exact : (limits : Limits) (bytes body : List ℕ) (head : Head) → 8 ≤ length bytes → Ok head ≡ header_of limits (take 8 bytes) → body ≡ drop 8 bytes → length bytes ≡ head.length → front_of limits bytes ≡ body_front head (object_of head.order body)
front_exact limits bytes body head long e later fills =
    let sized : length (drop 8 bytes) ≤ head.length - 8 = omega (arith, length-drop 8 bytes) in
    let same_body : take (head.length - 8) (drop 8 bytes) ≡ body = take_all (head.length - 8) (drop 8 bytes) sized ∙ sym later in
    front_by limits bytes (Ok head) long e ∙ front_whole bytes head (omega arith) ∙ ap (λ l. body_front head (object_of head.order l)) same_body

-- the header of a message that is read fits
fits_by : (limits : Limits) (head told : Head) (p q s t u : Bool) → ltb told.length 9 ≡ t → ltb limits.message told.length ≡ u → cond p (bad_header b.Order 0) (cond q (bad_header b.Kind 1) (cond s (bad_header b.Compressed 2) (cond t (bad_header b.Length 4) (cond u (bad_header b.TooLong 4) (Ok told))))) ≡ Ok head → (9 ≤ head.length) × (head.length ≤ limits.message)
fits_by limits head told false false false false false low high d =
    let same : told.length ≡ head.length = cc in
    (omega (arith, ltb-false _ _ low), omega (arith, ltb-false _ _ high))
fits_by limits head told true q s t u low high d = absurd cc
fits_by limits head told false true s t u low high d = absurd cc
fits_by limits head told false false true t u low high d = absurd cc
fits_by limits head told false false false true u low high d = absurd cc
fits_by limits head told false false false false true low high d = absurd cc

pub header_fits : (limits : Limits) (bytes : List ℕ) (head : Head) → header_of limits bytes ≡ Ok head → (9 ≤ head.length) × (head.length ≤ limits.message)
header_fits limits bytes head e =
    fits_by limits head (record { order = order_of (get_or bytes 0 0); sync = eqb (get_or bytes 1 0) 1; length = header_length bytes }) (ltb 1 (get_or bytes 0 0)) (ltb 1 (get_or bytes 1 0)) (not (eqb (get_or bytes 2 0) 0)) (ltb (header_length bytes) 9) (ltb limits.message (header_length bytes)) refl refl e

-- a body that an object fills
pub value_stands : (head : Head) (place n size : ℕ) (next : Next) (read : Result (Tree × ℕ) DecodeRefusal) → Ok n ≡ measured read → n ≡ size → size + 8 ≡ head.length → ((t : Tree) (m at : ℕ) → read ≡ Ok (t, m) → StandsFront at head.length (whole head.length (record { sync = head.sync; content = built t })) next) → StandsFront place head.length (body_front head read) next
value_stands head place n size next (Ok x) e same fills stands =
    let found : n ≡ x.1 = cc in
    let fit : eqb (x.1 + 8) head.length ≡ true = eq-eqb _ _ (omega arith) in
    rw fit (stands x.0 x.1 place refl)
value_stands head place n size next (Err f) e same fills stands = absurd cc

-- a whole message, with what `next` returns for its body
pub message_stands : (limits : Limits) (held body : List ℕ) (head : Head) (place : ℕ) (next : Next) → 8 ≤ length held → Ok head ≡ header_of limits (take 8 held) → body ≡ drop 8 held → length held ≡ head.length → StandsFront place head.length (body_front head (object_of head.order body)) next → StandsFront place (length held) (front_of limits held) next
message_stands limits held body head place next long e later fills stands =
    subst (λ f. StandsFront place (length held) f next) (sym (front_exact limits held body head long e later fills)) (subst (λ n. StandsFront place n (body_front head (object_of head.order body)) next) (sym fills) stands)
