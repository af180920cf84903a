-- A text has one list of tokens, one fault and one verdict at most.
use Rattle.std.proofs.Common.{◌≡◌, ◌<◌, ◌≤◌, ℕ, Bool, true, false, List, [], ◌∷◌, ◌++◌, length, Option, Some, None, refl, sym, ap, ◌∙◌, subst, append_assoc, arith, inl, inr}
use Rattle.std.specs.Prelude.{◌⊎◌}
use Rattle.qsql_request.specs.Forms.{RequestForm}
use Rattle.qsql_tokens.specs.Tokens.{Token, Placed, Read, past_blanks, token_at, IsNext, AreTokens, no_more, one_more, IsTokenFault, none_begins, after_one, only_tokens}
use Rattle.qsql_parse.specs.Grammar.{IsRequest, GoesOn, IsStuck, IsFault, offset_of}
use Rattle.qsql_request.specs.Unbuilt.{is_unbuilt}
use Rattle.qsql_tokens.specs.Limits.{is_too_much}
use Rattle.qsql_parse.specs.Verdicts.{Verdict, asks, too_much, no_request, not_built, IsVerdict, HasTokens, IsText}
use Rattle.qsql_parse.proofs.Complete.{one-request}

not-both : {X : Type 0} (b : Bool) → b ≡ false → b ≡ true → X
not-both b f t = absurd (apart f t)
  where
    apart : b ≡ false → b ≡ true → ⊥
    apart f t = cc

none-read : {X : Type 0} (found : Option Read) (read : Read) → found ≡ Some read → found ≡ None → X
none-read found read h none = absurd (apart h none)
  where
    apart : found ≡ Some read → found ≡ None → ⊥
    apart h none = cc

same-read : (found : Option Read) (read other : Read) → found ≡ Some read → found ≡ Some other → other ≡ read
same-read found read other h more = cc

ends-before : {X : Type 0} (text : List ℕ) (at : ℕ) → length text ≤ past_blanks text at → past_blanks text at < length text → X
ends-before text at end more = absurd (apart end more)
  where
    apart : length text ≤ past_blanks text at → past_blanks text at < length text → ⊥
    apart a b = omega arith

same-tail : (text : List ℕ) (at : ℕ) (read other : Read) (placed : List Placed) → IsNext text at (Some read) → IsNext text at (Some other) → AreTokens text other.end placed → AreTokens text read.end placed
same-tail text at read other placed h more tokens = subst (λ (r : Read). AreTokens text r.end placed) (same-read (token_at text (past_blanks text at)) read other h.1 more.1) tokens

same-fault : (text : List ℕ) (at offset : ℕ) (read other : Read) → IsNext text at (Some read) → IsNext text at (Some other) → IsTokenFault text other.end offset → IsTokenFault text read.end offset
same-fault text at offset read other h more fault = subst (λ (r : Read). IsTokenFault text r.end offset) (same-read (token_at text (past_blanks text at)) read other h.1 more.1) fault

pub one-tokens : {text : List ℕ} {at : ℕ} {placed others : List Placed} → AreTokens text at placed → AreTokens text at others → placed ≡ others
one-tokens (no_more end) (no_more same) = refl
one-tokens (no_more {text = text} {at = at} end) (one_more next tokens) = ends-before text at end next.0
one-tokens (one_more {text = text} {at = at} next tokens) (no_more end) = ends-before text at end next.0
one-tokens (one_more {text = text} {at = at} {read = read} {placed = placed} next tokens) (one_more {read = other} {placed = others} more rest) =
    let same : other ≡ read = same-read (token_at text (past_blanks text at)) read other next.1 more.1 in
    let tail : placed ≡ others = one-tokens tokens (same-tail text at read other others next more rest) in
    ap (λ (ps : List Placed). record { token = read.token; place = past_blanks text at } ∷ ps) tail ∙ ap (λ (r : Read). record { token = r.token; place = past_blanks text at } ∷ others) (sym same)

pub one-token_fault : {text : List ℕ} {at offset other : ℕ} → IsTokenFault text at offset → IsTokenFault text at other → offset ≡ other
one-token_fault (none_begins next) (none_begins more) = refl
one-token_fault (none_begins {text = text} {at = at} next) (after_one {read = read} more fault) = none-read (token_at text (past_blanks text at)) read more.1 next.1
one-token_fault (after_one {text = text} {at = at} {read = read} next fault) (none_begins more) = none-read (token_at text (past_blanks text at)) read next.1 more.1
one-token_fault (after_one {text = text} {at = at} {read = read} next fault) (after_one {fault = offset} {read = other} more rest) =
    one-token_fault fault (same-fault text at offset read other next more rest)

pub tokens-no_fault : {X : Type 0} {text : List ℕ} {at offset : ℕ} {placed : List Placed} → AreTokens text at placed → IsTokenFault text at offset → X
tokens-no_fault (no_more {text = text} {at = at} end) (none_begins next) = ends-before text at end next.0
tokens-no_fault (no_more {text = text} {at = at} end) (after_one next fault) = ends-before text at end next.0
tokens-no_fault (one_more {text = text} {at = at} {read = read} next tokens) (none_begins more) = none-read (token_at text (past_blanks text at)) read next.1 more.1
tokens-no_fault (one_more {text = text} {at = at} {read = read} next tokens) (after_one {fault = offset} {read = other} more fault) =
    tokens-no_fault tokens (same-fault text at offset read other next more fault)

only_tokens-append : (xs ys : List Placed) → only_tokens (xs ++ ys) ≡ only_tokens xs ++ only_tokens ys
only_tokens-append [] ys = refl
only_tokens-append (x ∷ xs) ys = ap (λ ts. x.token ∷ ts) (only_tokens-append xs ys)

append-nil : {X : Type 0} (xs : List X) → xs ++ [] ≡ xs
append-nil [] = refl
append-nil (x ∷ xs) = ap (λ ys. x ∷ ys) (append-nil xs)

-- the beginning of a beginning is one
goes-on-front : (before after : List Token) → GoesOn (before ++ after) → GoesOn before
goes-on-front before after (rest, request, h) = (after ++ rest, request, subst (λ ts. IsRequest ts request) (append_assoc before after rest) h)

goes-on-next : (before : List Token) (t : Token) (after : List Token) → GoesOn (before ++ t ∷ after) → GoesOn (before ++ t ∷ [])
goes-on-next before t after h = goes-on-front (before ++ t ∷ []) after (subst GoesOn (sym (append_assoc before (t ∷ []) after)) h)

stuck-request : (before left : List Token) (request : RequestForm) → IsStuck before left → IsRequest (before ++ left) request → ⊥
stuck-request before [] request stuck h = stuck request (subst (λ ts. IsRequest ts request) (append-nil before) h)
stuck-request before (t ∷ left) request stuck h = stuck (left, request, subst (λ ts. IsRequest ts request) (sym (append_assoc before (t ∷ []) left)) h)

fault-no_request : {X : Type 0} (placed : List Placed) (end offset : ℕ) (request : RequestForm) → IsFault placed end offset → IsRequest (only_tokens placed) request → X
fault-no_request placed end offset request (before, left, parts, stands, goes, stuck) h =
    absurd (stuck-request (only_tokens before) (only_tokens left) request stuck (subst (λ ts. IsRequest ts request) (ap only_tokens parts ∙ only_tokens-append before left) h))

same-head : (p q : Placed) (ps qs : List Placed) → p ∷ ps ≡ q ∷ qs → p ≡ q
same-head p q ps qs h = cc

same-rest : (p q : Placed) (ps qs : List Placed) → p ∷ ps ≡ q ∷ qs → ps ≡ qs
same-rest p q ps qs h = cc

-- what cannot be next does not stand next in a beginning
refused-next : {X : Type 0} (front : List Token) (p : Placed) (left before others : List Placed) → left ≡ p ∷ (before ++ others)
    → IsStuck (front ++ []) (only_tokens left) → GoesOn (front ++ only_tokens (p ∷ before)) → X
refused-next front p left before others parts stuck goes =
    absurd (subst (λ (ts : List Token). GoesOn (ts ++ p.token ∷ []) → ⊥) (append-nil front) (subst (λ (ps : List Placed). IsStuck (front ++ []) (only_tokens ps)) parts stuck) (goes-on-next front p.token (only_tokens before) goes))

one-left : (front : List Token) (before left others rest : List Placed) → before ++ left ≡ others ++ rest
    → GoesOn (front ++ only_tokens before) → IsStuck (front ++ only_tokens before) (only_tokens left)
    → GoesOn (front ++ only_tokens others) → IsStuck (front ++ only_tokens others) (only_tokens rest) → left ≡ rest
one-left front [] left [] rest parts goes stuck more refused = parts
one-left front [] left (q ∷ others) rest parts goes stuck more refused = refused-next front q left others rest parts stuck more
one-left front (p ∷ before) left [] rest parts goes stuck more refused = refused-next front p rest before left (sym parts) refused goes
one-left front (p ∷ before) left (q ∷ others) rest parts goes stuck more refused =
    let same : q ≡ p = sym (same-head p q (before ++ left) (others ++ rest) parts) in
    let at_p : front ++ only_tokens (q ∷ others) ≡ (front ++ p.token ∷ []) ++ only_tokens others = ap (λ (x : Placed). front ++ x.token ∷ only_tokens others) same ∙ sym (append_assoc front (p.token ∷ []) (only_tokens others)) in
    let in_p : front ++ only_tokens (p ∷ before) ≡ (front ++ p.token ∷ []) ++ only_tokens before = sym (append_assoc front (p.token ∷ []) (only_tokens before)) in
    one-left (front ++ p.token ∷ []) before left others rest (same-rest p q (before ++ left) (others ++ rest) parts)
    (subst GoesOn in_p goes) (subst (λ (ts : List Token). IsStuck ts (only_tokens left)) in_p stuck)
    (subst GoesOn at_p more) (subst (λ (ts : List Token). IsStuck ts (only_tokens rest)) at_p refused)

pub one-fault : (placed : List Placed) (end offset other : ℕ) → IsFault placed end offset → IsFault placed end other → offset ≡ other
one-fault placed end offset other (before, left, parts, stands, goes, stuck) (front, rest, more, is, goes_on, refused) =
    stands ∙ (ap (λ (ps : List Placed). offset_of ps end) (one-left [] before left front rest (sym parts ∙ more) goes stuck goes_on refused) ∙ sym is)

-- a text's tokens, within the limits, are its tokens
within-limits : {X : Type 0} (text : List ℕ) (placed : List Placed) → HasTokens text placed → (65536 < length text) ⊎ ((others : List Placed) × AreTokens text 0 others × (is_too_much (only_tokens others) ≡ true)) → X
within-limits text placed h (inl long) = absurd (apart long)
  where
    apart : 65536 < length text → ⊥
    apart more = let short : length text ≤ 65536 = h.0 in omega arith
within-limits text placed h (inr (others, tokens, many)) =
    not-both (is_too_much (only_tokens placed)) h.2 (subst (λ (ps : List Placed). is_too_much (only_tokens ps) ≡ true) (one-tokens tokens h.1) many)

one-text : (text : List ℕ) (request other : RequestForm) → IsText text request → IsText text other → request ≡ other
one-text text request other (placed, tokens, h) (others, more, g) =
    one-request (only_tokens placed) request other h (subst (λ (ps : List Placed). IsRequest (only_tokens ps) other) (one-tokens more.1 tokens.1) g)

text-no_fault : {X : Type 0} (text : List ℕ) (request : RequestForm) (at : ℕ) → IsText text request → IsVerdict text (no_request at) → X
text-no_fault text request at (placed, tokens, h) (short, inl fault) = tokens-no_fault tokens.1 fault
text-no_fault text request at (placed, tokens, h) (short, inr (others, more, fault)) =
    fault-no_request placed (length text) at request (subst (λ (ps : List Placed). IsFault ps (length text) at) (one-tokens more.1 tokens.1) fault) h

text-within : {X : Type 0} (text : List ℕ) (request : RequestForm) → IsText text request → IsVerdict text too_much → X
text-within text request (placed, tokens, h) many = within-limits text placed tokens many

fault-within : {X : Type 0} (text : List ℕ) (at : ℕ) → IsVerdict text (no_request at) → IsVerdict text too_much → X
fault-within text at (short, inl fault) (inl long) = absurd (apart long)
  where
    apart : 65536 < length text → ⊥
    apart more = omega arith
fault-within text at (short, inl fault) (inr (others, tokens, many)) = tokens-no_fault tokens fault
fault-within text at (short, inr (placed, tokens, fault)) many = within-limits text placed tokens many

one-offset : (text : List ℕ) (at other : ℕ) → IsVerdict text (no_request at) → IsVerdict text (no_request other) → at ≡ other
one-offset text at other (short, inl fault) (same, inl more) = one-token_fault fault more
one-offset text at other (short, inl fault) (same, inr (placed, tokens, more)) = tokens-no_fault tokens.1 fault
one-offset text at other (short, inr (placed, tokens, fault)) (same, inl more) = tokens-no_fault tokens.1 more
one-offset text at other (short, inr (placed, tokens, fault)) (same, inr (others, rest, more)) =
    one-fault placed (length text) at other fault (subst (λ (ps : List Placed). IsFault ps (length text) other) (one-tokens rest.1 tokens.1) more)

built-or-not : {X : Type 0} (text : List ℕ) (request other : RequestForm) → IsText text request → is_unbuilt request ≡ false → IsText text other → is_unbuilt other ≡ true → X
built-or-not text request other h built more unbuilt =
    not-both (is_unbuilt request) built (subst (λ (r : RequestForm). is_unbuilt r ≡ true) (one-text text other request more h) unbuilt)

-- a text has one verdict at most
pub one-verdict : (text : List ℕ) (some other : Verdict) → IsVerdict text some → IsVerdict text other → some ≡ other
one-verdict text (asks request) (asks other) h more = ap asks (one-text text request other h.0 more.0)
one-verdict text (asks request) too_much h more = text-within text request h.0 more
one-verdict text (asks request) (no_request at) h more = text-no_fault text request at h.0 more
one-verdict text (asks request) not_built h (other, more, unbuilt) = built-or-not text request other h.0 h.1 more unbuilt
one-verdict text too_much (asks request) h more = text-within text request more.0 h
one-verdict text too_much too_much h more = refl
one-verdict text too_much (no_request at) h more = fault-within text at more h
one-verdict text too_much not_built h (request, more, unbuilt) = text-within text request more h
one-verdict text (no_request at) (asks request) h more = text-no_fault text request at more.0 h
one-verdict text (no_request at) too_much h more = fault-within text at h more
one-verdict text (no_request at) (no_request other) h more = ap no_request (one-offset text at other h more)
one-verdict text (no_request at) not_built h (request, more, unbuilt) = text-no_fault text request at more h
one-verdict text not_built (asks other) (request, h, unbuilt) more = built-or-not text other request more.0 more.1 h unbuilt
one-verdict text not_built too_much (request, h, unbuilt) more = text-within text request h more
one-verdict text not_built (no_request at) (request, h, unbuilt) more = text-no_fault text request at h more
one-verdict text not_built not_built h more = refl
